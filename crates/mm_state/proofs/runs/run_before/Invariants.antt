-- For `run_before`: the changes that were passed are a run.
use Rattle.std.proofs.Common.{◌≤◌, ◌-◌, take, drop}
use Rattle.mm_state.specs.Internal.Runs.{IsRunOfRemovals}
use Rattle.mm_state.proofs.runs.run_before.Given as goal

abbrev pub invariant-loop-first : goal.invariant-loop-first
invariant-loop-first l = record {
  upto : l.first ≤ l.end;
  run : IsRunOfRemovals l.lo l.hi (take (l.end - l.first) (drop l.first l.changes));
}

abbrev pub decreases-loop-first : goal.decreases-loop-first
decreases-loop-first l = l.first
