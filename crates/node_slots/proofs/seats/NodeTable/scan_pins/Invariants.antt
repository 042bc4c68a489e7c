-- For `scan_pins`: the pins of the readers so far were found.
use Rattle.std.proofs.Common.{◌≡◌, ℕ, List, length}
use Rattle.node_slots.specs.Views.{scan_from}
use Rattle.node_slots.specs.Seats.{SitsAt, seat_sight}
use Rattle.node_slots.proofs.seats.NodeTable.scan_pins.Given as goal

abbrev pub invariant-loop-reader : goal.invariant-loop-reader
invariant-loop-reader l = record {
  table : SitsAt l.seat l.self;
  view : (pins : List ℕ) × (length pins ≡ l.reader) × (seat_sight l.seat ≡ scan_from 0 pins (seat_sight l.fn.seat));
  same : l.seat.table ≡ l.fn.seat.table;
  words : length l.seat.words.items ≡ length l.fn.seat.words.items;
}
