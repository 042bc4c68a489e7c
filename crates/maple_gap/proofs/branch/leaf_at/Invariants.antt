-- The loop of `leaf_at`: the entries of the pages of the branch that was reached are under it.
use Rattle.std.proofs.Common.{◌+◌, ◌≤◌}
use Rattle.node_slots.specs.Built.{words_at}
use Rattle.maple_gap.proofs.Finding.{Around}
use Rattle.maple_gap.proofs.branch.leaf_at.Given as goal

abbrev pub invariant-loop-branch : goal.invariant-loop-branch
invariant-loop-branch l = record {
  around : Around (words_at l.writer) l.page l.fn.root l.branch;
  low : l.branch.level ≤ l.fn.root.level;
  cost : l.reads + l.branch.level ≤ l.fn.reads + l.fn.root.level;
}

abbrev pub decreases-loop-branch : goal.decreases-loop-branch
decreases-loop-branch l = l.branch.level
