-- For `free_passed`: so many rows came into the free list.
use Rattle.std.proofs.Common.{◌≡◌, ◌++◌, ℕ, List, length}
use Rattle.node_slots.specs.Seats.{free_of, retired_rows}
use Rattle.node_slots.proofs.seats.NodeWriter.free_passed.Given as goal

abbrev pub invariant-loop-count : goal.invariant-loop-count
invariant-loop-count l = record {
  writer_state : l.self.writer_state ≡ l.fn.self.writer_state;
  freed : (rows : List ℕ) × (length rows ≡ l.count) × (free_of l.self ≡ free_of l.fn.self ++ rows) × (retired_rows l.fn.self ≡ rows ++ retired_rows l.self);
}
