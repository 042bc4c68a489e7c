-- For `grace_text`: the lines so far are printed, and those that are left have events of the script.
use Rattle.std.proofs.Common.{◌≡◌, ◌++◌, length, All}
use Rattle.std.specs.Vec.Iter.{into_iter_items, into_iter_len}
use Rattle.step_script.specs.GraceTexts.{grace_lines_text, grace_text}
use Rattle.step_script.specs.Values.{IsGraceEvent, IsGraceState}
use Rattle.step_script.proofs.grace_run.grace_text.Given as goal

abbrev pub invariant-loop-line : goal.invariant-loop-line
invariant-loop-line l = record {
  left : into_iter_len l.line-iterator ≡ length (into_iter_items l.line-iterator);
  kept : IsGraceState l.readers l.rows l.state;
  events : All (λ line. IsGraceEvent l.readers l.rows line.event) (into_iter_items l.line-iterator);
  text : l.text.items ++ grace_lines_text l.state (into_iter_items l.line-iterator) ≡ grace_text l.fn.script;
}
