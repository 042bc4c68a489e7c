-- For `of_words`: so many readers were made, and each is of the table and made no step.
use Rattle.std.proofs.Common.{◌≡◌, ℕ, length, slice_get, Some, []}
use Rattle.node_slots.specs.declared.seats.NodeSeat.{NodeSeat as Reader}
use Rattle.node_slots.specs.Opening.{IsFreeFrom}
use Rattle.node_slots.specs.Views.{opened_node_view, reader_view}
use Rattle.node_slots.specs.Seats.{size_of, IsOfNodeTable, WritesNodeTable, node_view, node_sight, free_of, retired_rows}
use Rattle.node_slots.proofs.seats.NodeTable.of_words.Given as goal

abbrev pub invariant-loop-reader : goal.invariant-loop-reader
invariant-loop-reader l = record {
  size : size_of l.table ≡ record { rows = l.fn.rows; slots = l.fn.slots; readers = l.fn.readers };
  table : WritesNodeTable l.writer l.table;
  writer : node_sight l.writer ≡ opened_node_view (record { rows = l.fn.rows; slots = l.fn.slots; readers = l.fn.readers }) l.reader;
  free : IsFreeFrom 1 l.fn.rows (free_of l.writer);
  left : retired_rows l.writer ≡ [];
  count : length l.seats.items ≡ l.reader;
  fresh : (reader : ℕ) (seat : Reader) → slice_get l.seats.items reader ≡ Some seat
      → IsOfNodeTable seat l.table × (node_view seat ≡ reader_view (record { rows = l.fn.rows; slots = l.fn.slots; readers = l.fn.readers }) reader);
}
