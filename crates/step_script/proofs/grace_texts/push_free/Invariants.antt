-- For `push_free`: those of the rows so far are printed.
use Rattle.std.proofs.Common.{◌≡◌, ◌++◌, [], ℕ}
use Rattle.std.specs.Prelude.{if◌then◌else◌}
use Rattle.grace_core.specs.Core.{is_free_row}
use Rattle.step_script.specs.Texts.{texts_below, spaced}
use Rattle.step_script.proofs.grace_texts.push_free.Given as goal

abbrev pub invariant-loop-row : goal.invariant-loop-row
invariant-loop-row l = l.text.items ≡ l.initial.text.items
    ++ texts_below l.row (λ (n : ℕ). if is_free_row l.state.writer_state n then spaced n else [])
