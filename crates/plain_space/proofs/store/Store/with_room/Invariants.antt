-- For `Store::with_room`: so many spare chunks are made.
use Rattle.std.proofs.Common.{◌≡◌, vec_len, vec_capacity}
use Rattle.plain_space.proofs.store.Store.with_room.Given as goal

abbrev pub invariant-loop-made : goal.invariant-loop-made
invariant-loop-made l = record {
  len : vec_len l.spares ≡ l._made;
  room : vec_capacity l.spares ≡ l.count;
}
