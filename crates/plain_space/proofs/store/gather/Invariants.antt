-- For `gather`: the areas of the chunks so far are there.
use Rattle.std.proofs.Common.{◌≡◌, take, vec_capacity}
use Rattle.plain_space.specs.Internal.Chunks.{areas_in_chunks}
use Rattle.plain_space.proofs.store.gather.Given as goal

abbrev pub invariant-loop-chunk : goal.invariant-loop-chunk
invariant-loop-chunk l = record {
  items : l.whole.items ≡ areas_in_chunks (take l.chunk-index l.chunks);
  room : vec_capacity l.whole ≡ vec_capacity l.fn.whole;
}
