-- For `deal`: what its loop keeps.
use Rattle.std.proofs.Common.{◌≡◌, ◌<◌, ◌+◌, ◌*◌, ◌++◌, length, All, vec_len, vec_capacity}
use Rattle.plain_space.specs.Internal.Chunks.{areas_in_chunks, IsFilled}
use Rattle.plain_space.proofs.store.deal.Given as goal

-- with the rest, the chunks have all areas, and they are half full while there is a rest
abbrev pub invariant-loop-rest : goal.invariant-loop-rest
invariant-loop-rest l = record {
  areas : areas_in_chunks l.chunks.items ++ l.rest ≡ l.areas;
  filled : All IsFilled l.chunks.items;
  total : vec_len l.chunks + vec_len l.spares ≡ vec_len l.fn.spares;
  room : vec_capacity l.chunks ≡ vec_capacity l.fn.chunks;
  spare_room : vec_capacity l.spares ≡ vec_capacity l.fn.spares;
  halves : 0 < length l.rest → 512 * vec_len l.chunks + length l.rest ≡ length l.areas;
}

abbrev pub decreases-loop-rest : goal.decreases-loop-rest
decreases-loop-rest l = length l.rest
