-- The proof of `run_in_turn`: the children so far have run, and there is room for the others.
use Rattle.std.proofs.Common.{◌≡◌, length, take}
use Rattle.std.specs.Vec.{vec_capacity}
use Rattle.vma_replay.specs.Internal.Families.{AreRunsOfChildren}
use Rattle.vma_replay.proofs.families.run_in_turn.Given as goal

abbrev pub invariant-loop-fork : goal.invariant-loop-fork
invariant-loop-fork g l = record {
  ran : AreRunsOfChildren l.fn.trace l.fn.parent (take l.fork-index l.fn.forks) l.runs.items;
  count : length l.runs.items ≡ l.fork-index;
  room : vec_capacity l.runs ≡ length l.fn.forks;
}
