-- For `first_fork`: what its loop keeps.
use Rattle.std.proofs.Common.{◌≡◌, ◌+◌, ◌-◌, ◌≤◌, length}
use Rattle.text_lexer.specs.Lines.{lines_from, raw_lines}
use Rattle.output.specs.Internal.Forks.{first_fork}
use Rattle.output.proofs.forks.first_fork.Given as goal

-- the first of the lines that are left forks first of all
abbrev pub invariant-loop-rest : goal.invariant-loop-rest
invariant-loop-rest l = record {
  same : first_fork (lines_from l.number (length l.bytes - length l.rest) l.rest) ≡ first_fork (raw_lines l.bytes);
  within : length l.rest ≤ length l.bytes;
  counted : l.number ≤ 1 + (length l.bytes - length l.rest);
}

abbrev pub decreases-loop-rest : goal.decreases-loop-rest
decreases-loop-rest l = length l.rest
