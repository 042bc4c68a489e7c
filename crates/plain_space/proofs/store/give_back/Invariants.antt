-- For `give_back`: no chunk is lost.
use Rattle.std.proofs.Common.{◌≡◌, ◌+◌, vec_len, vec_capacity}
use Rattle.plain_space.proofs.store.give_back.Given as goal

abbrev pub invariant-loop-chunk : goal.invariant-loop-chunk
invariant-loop-chunk l = record {
  total : vec_len l.chunks + vec_len l.spares ≡ vec_len l.fn.chunks + vec_len l.fn.spares;
  room : vec_capacity l.chunks ≡ vec_capacity l.fn.chunks;
  spare_room : vec_capacity l.spares ≡ vec_capacity l.fn.spares;
}

abbrev pub decreases-loop-chunk : goal.decreases-loop-chunk
decreases-loop-chunk l = vec_len l.chunks
