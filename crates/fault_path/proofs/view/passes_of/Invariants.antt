-- For `passes_of`: the passes so far are fresh, each in its place.
use Rattle.std.proofs.Common.{ℕ, List, ◌≡◌, ◌++◌, length, slice_get, Some}
use Rattle.std.specs.Vec.Iter.{into_iter_items, into_iter_len}
use Rattle.vma_lock.specs.Seats.{vma_table_id}
use Rattle.node_slots.specs.declared.seats.NodeSeat.{NodeSeat}
use Rattle.node_slots.specs.Seats as node_seats
use Rattle.fault_path.specs.Passes.{PassView, IsTablePass, IsFreshPass, AreUnused, caller}
use Rattle.fault_path.proofs.view.passes_of.Given as goal

abbrev pub invariant-loop-reader : goal.invariant-loop-reader
invariant-loop-reader l = record {
  rest : l.yielded ++ into_iter_items l.reader-iterator ≡ l.fn.seats.items;
  left : into_iter_len l.reader-iterator ≡ length (into_iter_items l.reader-iterator);
  walked : (before : List NodeSeat) × (before ++ into_iter_items l.walkers ≡ l.fn.walkers.items) × (length before ≡ length l.passes.items);
  walkers_left : into_iter_len l.walkers ≡ length (into_iter_items l.walkers);
  count : length l.passes.items ≡ length l.yielded;
  fresh : (place : ℕ) (pass : PassView) → slice_get l.passes.items place ≡ Some pass
      → (IsTablePass (record { table = vma_table_id l.table; nodes = node_seats.node_table_id l.nodes; config = l.config; callers = length l.operations }) l.operations pass
      × (caller pass ≡ place)) × IsFreshPass pass;
  unused : AreUnused l.passes.items;
}
