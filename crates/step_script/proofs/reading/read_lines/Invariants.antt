-- For `read_lines`: what its loop keeps.
use Rattle.std.proofs.Common.{◌≡◌, ◌+◌, ◌-◌, ◌<◌, ◌≤◌, length}
use Rattle.std.specs.Prelude.{None}
use Rattle.text_lexer.specs.Lines.{lines_from, raw_lines}
use Rattle.step_script.specs.declared.script.TheConstants.{MOST_LINES}
use Rattle.step_script.specs.Grammar.{after_script_lines}
use Rattle.step_script.specs.Values.{IsSoFar}
use Rattle.step_script.proofs.reading.read_lines.Given as goal

-- The script so far, and then the lines of the rest, leave what all lines leave. It has fewer lines than the number of the next
-- one, which no line that was read has reached.
abbrev pub invariant-loop-rest : goal.invariant-loop-rest
invariant-loop-rest l = record {
  read : after_script_lines l.script (lines_from l.number (length l.bytes - length l.rest) l.rest)
      ≡ after_script_lines None (raw_lines l.bytes);
  within : length l.rest ≤ length l.bytes;
  fits : IsSoFar l.number l.script;
  few : l.number ≤ MOST_LINES + 1;
  begun : 0 < l.number;
}

abbrev pub decreases-loop-rest : goal.decreases-loop-rest
decreases-loop-rest l = length l.rest
