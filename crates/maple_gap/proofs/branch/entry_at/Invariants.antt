-- The loop of `entry_at`: the entry that has the page is under the branch that was reached.
use Rattle.std.proofs.Common.{◌+◌, ◌≤◌}
use Rattle.node_slots.specs.Built.{words_at}
use Rattle.maple_gap.proofs.Finding.{Reached}
use Rattle.maple_gap.proofs.branch.entry_at.Given as goal

abbrev pub invariant-loop-branch : goal.invariant-loop-branch
invariant-loop-branch l = record {
  reached : Reached (words_at l.writer) l.page l.fn.root l.branch;
  cost : l.reads + l.branch.level ≤ l.fn.reads + l.fn.root.level;
}

abbrev pub decreases-loop-branch : goal.decreases-loop-branch
decreases-loop-branch l = l.branch.level
