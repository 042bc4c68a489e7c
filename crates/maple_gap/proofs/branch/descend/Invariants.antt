-- The loop of `descend`: what is sought is under the branch that was reached, or else under the spare one.
use Rattle.std.proofs.Common.{◌+◌, ◌≤◌}
use Rattle.node_slots.specs.Built.{words_at}
use Rattle.maple_gap.proofs.Descents.{Going}
use Rattle.maple_gap.proofs.branch.descend.Given as goal

abbrev pub invariant-loop-branch : goal.invariant-loop-branch
invariant-loop-branch l = record {
  going : Going l.side l.window (words_at l.writer) l.fn.from l.branch l.spare;
  cost : l.reads + l.branch.level ≤ l.fn.reads + l.fn.from.level;
}

abbrev pub decreases-loop-branch : goal.decreases-loop-branch
decreases-loop-branch l = l.branch.level
