-- For `fill_row`: the row is there, and its first words are the new ones.
use Rattle.std.proofs.Common.{◌≡◌, ◌<◌, ◌+◌, ◌*◌, max, length}
use Rattle.grace_core.specs.Core.{row_at}
use Rattle.node_slots.specs.Views.{fill_at}
use Rattle.node_slots.specs.Seats.{seat_sight}
use Rattle.node_slots.proofs.Filling.{blend}
use Rattle.node_slots.proofs.seats.NodeWriterSeat.fill_row.Given as goal

abbrev pub invariant-loop-part : goal.invariant-loop-part
invariant-loop-part l = record {
  view : seat_sight l.self ≡ fill_at (seat_sight l.fn.self) l.fn.row.0
      (blend (4 * l.part) l.fn.words (row_at (seat_sight l.fn.self).known.writer_state.words l.fn.row.0));
  same : l.self.table ≡ l.fn.self.table;
  there : l.row.0 < length l.self.words.items;
  touched : length l.self.words.items ≡ max (length l.fn.self.words.items) (l.row.0 + 1);
}
