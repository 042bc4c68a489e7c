-- For `push_lock_state`: the slots so far are printed.
use Rattle.std.proofs.Common.{◌≡◌, ◌++◌}
use Rattle.step_script.specs.LockTexts.{slot_text}
use Rattle.step_script.specs.Texts.{texts_below}
use Rattle.step_script.proofs.lock_texts.push_lock_state.Given as goal

abbrev pub invariant-loop-slot : goal.invariant-loop-slot
invariant-loop-slot l = l.text.items ≡ l.initial.text.items ++ texts_below l.slot (slot_text l.state.core)
