-- For `nearest`: the level reached.
use Rattle.std.proofs.Common.{◌-◌, ◌≤◌}
use Rattle.maple_write.proofs.descent.Descent.nearest.Given as goal

abbrev pub invariant-loop-level : goal.invariant-loop-level
invariant-loop-level l = record {
  order : l.low ≤ l.level;
  high : l.level ≤ l.self.tree.height;
}

abbrev pub decreases-loop-level : goal.decreases-loop-level
decreases-loop-level l = l.self.tree.height - l.level
