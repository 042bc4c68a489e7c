-- Trees that are one leaf in one row.
use Rattle.std.specs.Prelude.{ℕ, ◌≡◌, ◌<◌, ◌+◌, Bool, true, false, nat_eq, List, slice_get, Option, Some, None}
use Rattle.grace_core.specs.Core.{times, has_row}
use Rattle.node_slots.specs.declared.view.ShownTree.{ShownTree}
use Rattle.node_slots.specs.declared.seats.NodeTable.{NodeTable}
use Rattle.node_slots.specs.declared.seats.NodeSeat.{NodeSeat}
use Rattle.node_slots.specs.declared.seats.NodeWriter.{NodeWriter}
use Rattle.node_slots.specs.Trees.{grace_tree}
use Rattle.node_slots.specs.Seats.{IsOfNodeTable, IsOpen, IsClosed, node_view, node_sight, row_count, free_of, retired_rows, one_where}

-- Each row but this one is free or was left, so it alone is the present tree's, and there are four slots.
pub record IsOneLeaf (writer : NodeWriter) (row : ℕ) : Type 0 where
  pub within : row < row_count writer
  pub alone : (other : ℕ) → other < row_count writer
      → times other (free_of writer) + times other (retired_rows writer) + one_where (nat_eq row other) ≡ 1
  pub slots : (node_sight writer).size.slots ≡ 4

-- whether a row is of a snapshot
abbrev pub has_shown : Option ShownTree → ℕ → Bool
has_shown (Some shown) row = has_row (grace_tree shown) row
has_shown None row = false

-- the reader is open, and its snapshot has this row
pub record IsInside (seat : NodeSeat) (table : NodeTable) (row : ℕ) : Type 0 where
  pub table_is : IsOfNodeTable seat table
  pub open_is : IsOpen seat
  pub shows : has_shown (node_view seat).snapshot row ≡ true

-- the reader is of the writer's table, and closed
pub record IsBeside (seat : NodeSeat) (writer : NodeWriter) : Type 0 where
  pub same : seat.seat.table_id ≡ writer.writer_state.seat.table_id
  pub size_is : seat.seat.me.0.size ≡ writer.writer_state.table.size
  pub closed : IsClosed seat

-- so is each of these readers
abbrev pub AreBeside : List NodeSeat → NodeWriter → Type 0
AreBeside seats writer = (at : ℕ) (seat : NodeSeat) → slice_get seats at ≡ Some seat → IsBeside seat writer
