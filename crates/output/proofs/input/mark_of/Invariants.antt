-- For `mark_of`: what its loop keeps.
use Rattle.std.proofs.Common.{◌≡◌, ◌-◌, ◌≤◌, true, length}
use Rattle.output.proofs.Marks.{behind, mark_from}
use Rattle.output.proofs.input.mark_of.Given as goal

-- a line begins here, and the mark of the bytes that are left is the first of all
abbrev pub invariant-loop-rest : goal.invariant-loop-rest
invariant-loop-rest l = record {
  same : mark_from true l.bytes ≡ behind (length l.bytes - length l.rest) (mark_from true l.rest);
  within : length l.rest ≤ length l.bytes;
}

abbrev pub decreases-loop-rest : goal.decreases-loop-rest
decreases-loop-rest l = length l.rest
