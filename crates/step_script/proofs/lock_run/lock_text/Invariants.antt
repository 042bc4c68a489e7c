-- For `lock_text`: the lines so far are printed, and there is room for those that are left.
use Rattle.std.proofs.Common.{◌≡◌, ◌≤◌, ◌+◌, ◌++◌, length, drop}
use Rattle.step_script.specs.LockTexts.{lock_lines_text, lock_text}
use Rattle.step_script.specs.declared.script.TheConstants.{MOST_PARTS}
use Rattle.step_script.proofs.lock_run.lock_text.Given as goal

abbrev pub invariant-loop-line : goal.invariant-loop-line
invariant-loop-line l = record {
  text : l.text.items ++ lock_lines_text l.state (drop l.line-index l.script.lines) ≡ lock_text l.script;
  readers : length l.state.core.readers ≤ MOST_PARTS + l.line-index;
  journal : length l.state.core.journal ≤ l.line-index;
}
