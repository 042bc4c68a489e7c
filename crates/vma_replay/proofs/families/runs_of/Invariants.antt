-- The proof of `runs_of`: what was looked at so far is the runs so far, and the room is left.
use Rattle.std.proofs.Common.{◌≡◌, ◌++◌, length, map, Ok}
use Rattle.std.specs.Vec.{vec_capacity}
use Rattle.std.specs.Vec.Iter.{into_iter_items, into_iter_len}
use Rattle.vma_replay.proofs.families.runs_of.Given as goal

abbrev pub invariant-loop-run : goal.invariant-loop-run
invariant-loop-run l = record {
  rest : l.yielded ++ into_iter_items l.run-iterator ≡ l.fn.ended.items;
  left : into_iter_len l.run-iterator ≡ length (into_iter_items l.run-iterator);
  runs : l.yielded ≡ map (λ run. Ok run) l.runs.items;
  room : vec_capacity l.runs ≡ vec_capacity l.fn.room;
}
