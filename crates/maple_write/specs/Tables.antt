-- What storing rows of a tree leaves as it was in the writer's table.
use Rattle.std.specs.Prelude.{ℕ, ◌≡◌, length}
use Rattle.node_slots.specs.declared.seats.NodeWriter.{NodeWriter}
use Rattle.node_slots.specs.Seats.{node_sight, writer_state, is_waiting, StaysAt}

-- Rows were taken, filled and left, and nothing was published: all else that the writer knows is as it was, the same rows wait,
-- and the writer is of the same tables.
pub record FillsRows (old new : NodeWriter) : Type 0 where
  pub seen : node_sight new ≡ record (node_sight old) { known = record (node_sight old).known { writer_state = record (writer_state old) { words = (writer_state new).words } } }
  pub long : length (writer_state new).words ≡ length (writer_state old).words
  pub waits : (row : ℕ) → is_waiting new row ≡ is_waiting old row
  pub table : StaysAt old new
