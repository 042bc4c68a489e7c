-- For `push_pins`: the readers so far are printed.
use Rattle.std.proofs.Common.{◌≡◌, ◌++◌}
use Rattle.step_script.specs.GraceTexts.{reader_text}
use Rattle.step_script.specs.Texts.{texts_below}
use Rattle.step_script.proofs.grace_texts.push_pins.Given as goal

abbrev pub invariant-loop-reader : goal.invariant-loop-reader
invariant-loop-reader l = l.text.items ≡ l.initial.text.items ++ texts_below l.reader (reader_text l.state)
