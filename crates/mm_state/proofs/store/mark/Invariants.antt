-- For `mark`: what the writer knows stays, but for its tries.
use Rattle.std.proofs.Common.{◌≡◌}
use Rattle.vma_lock.specs.Seats.{WritesVmaTable, lock_sight}
use Rattle.mm_state.specs.Internal.AreaStores.{DiffersInSlots}
use Rattle.mm_state.proofs.store.mark.Given as goal

abbrev pub invariant-loop : goal.invariant-loop
invariant-loop g l = record {
  table : WritesVmaTable l.writer l.fn.table;
  beside : DiffersInSlots (lock_sight l.fn.writer) (lock_sight l.writer);
  slots : (lock_sight l.writer).writer_state.slots ≡ (lock_sight l.fn.writer).writer_state.slots;
}
