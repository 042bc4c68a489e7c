-- What contracts see of a table and of its seats.
use Rattle.std.specs.Prelude.{ℕ, ◌≡◌, ◌+◌, ◌%◌, Bool, true, not, ◌&&◌, if◌then◌else◌, nat_eq, nat_lt, List, map, slice_index_or, Some}
use Rattle.std.specs.Arc.{arc_value}
use Rattle.grace_core.specs.Core as grace
use Rattle.grace_core.specs.Core.{times, has_row}
use Rattle.maple_node.specs.declared.root.Root.{Root}
use Rattle.atomic_table.specs.Seated.{TableId}
use Rattle.node_slots.specs.declared.view.Size.{Size}
use Rattle.node_slots.specs.declared.view.ShownTree.{ShownTree}
use Rattle.node_slots.specs.declared.view.NodeView.{NodeView}
use Rattle.node_slots.specs.declared.seats.NodeTable.{NodeTable}
use Rattle.node_slots.specs.declared.seats.NodeSeat.{NodeSeat}
use Rattle.node_slots.specs.declared.seats.NodeWriterSeat.{NodeWriterSeat}
use Rattle.node_slots.specs.declared.seats.NodeWriter.{NodeWriter}
use Rattle.node_slots.specs.Trees.{grace_tree, shown_rows}
use Rattle.node_slots.specs.Views.{named_tree}
use Rattle.node_slots.specs.Kept.{free_numbers, left_numbers}

-- which table a handle is of
abbrev pub node_table_id : NodeTable → TableId
node_table_id table = (arc_value table.table).shared.table_id

-- how large a table is
abbrev pub size_of : NodeTable → Size
size_of table = table.size

-- the seat is of this table
pub record IsOfNodeTable (seat : NodeSeat) (table : NodeTable) : Type 0 where
  pub same : seat.seat.table_id ≡ node_table_id table
  pub size_is : seat.seat.me.0.size ≡ size_of table

-- the writer's seat is of this table
pub record SitsAt (seat : NodeWriterSeat) (table : NodeTable) : Type 0 where
  pub same : seat.seat.table_id ≡ node_table_id table
  pub size_is : seat.table.size ≡ size_of table

-- the writer is of this table
abbrev pub WritesNodeTable : NodeWriter → NodeTable → Type 0
WritesNodeTable writer table = SitsAt writer.writer_state table

-- a writer is still of the table that it was of
abbrev pub StaysAt : NodeWriter → NodeWriter → Type 0
StaysAt old new = (nodes : NodeTable) → WritesNodeTable old nodes → WritesNodeTable new nodes

-- what a reader knows
abbrev pub node_view : NodeSeat → NodeView
node_view seat = seat.seat.me.0

-- a reader is open
abbrev pub IsOpen : NodeSeat → Type 0
IsOpen seat = (node_view seat).pin % 2 ≡ 1

-- a reader is closed
abbrev pub IsClosed : NodeSeat → Type 0
IsClosed seat = (node_view seat).pin % 2 ≡ 0

-- a row is of a reader's snapshot
abbrev pub ShowsRow : NodeView → ℕ → Type 0
ShowsRow view row = (shown : ShownTree) × (view.snapshot ≡ Some shown) × (has_row (grace_tree shown) row ≡ true)

-- what the writer's seat knows
abbrev pub seat_sight : NodeWriterSeat → NodeView
seat_sight seat = seat.seat.me.0

-- what the writer knows
abbrev pub node_sight : NodeWriter → NodeView
node_sight writer = seat_sight writer.writer_state

-- what the writer knows of the grace protocol
abbrev pub writer_state : NodeWriter → grace.WriterState
writer_state writer = (node_sight writer).known.writer_state

-- how many rows a writer's table has
abbrev pub row_count : NodeWriter → ℕ
row_count writer = (node_sight writer).size.rows

-- the free list of a writer
abbrev pub free_of : NodeWriter → List ℕ
free_of writer = free_numbers writer.free.items

-- the rows that a writer left and that are not free again: they leave at the next publish, or wait
abbrev pub retired_rows : NodeWriter → List ℕ
retired_rows writer = left_numbers writer.left.items

-- whether a row is of the present tree
abbrev pub is_present : NodeWriter → ℕ → Bool
is_present writer row = has_row (writer_state writer).tree row

-- whether a row waits: it was left, and is not of the present tree
abbrev pub is_waiting : NodeWriter → ℕ → Bool
is_waiting writer row = nat_lt 0 (times row (retired_rows writer)) && not (is_present writer row)

-- the pins that the scans of each reader found last
abbrev pub pins_of : NodeWriter → List ℕ
pins_of writer = map (λ clearing. clearing.pin) (writer_state writer).clearings

-- these pins are those of readers that are closed
abbrev pub AreOut : List ℕ → Type 0
AreOut pins = (reader : ℕ) → slice_index_or pins reader 0 % 2 ≡ 0

-- one of these pins is that of a reader that is open
abbrev pub HasOpen : List ℕ → Type 0
HasOpen pins = (reader : ℕ) × (slice_index_or pins reader 0 % 2 ≡ 1)

-- whether a row is neither in the free list nor left
abbrev pub is_kept : NodeWriter → ℕ → Bool
is_kept writer row = nat_lt row (row_count writer) && nat_eq (times row (free_of writer) + times row (retired_rows writer)) 0

-- whether a row was taken, and is neither published nor left
abbrev pub is_taken_row : NodeWriter → ℕ → Bool
is_taken_row writer row = is_kept writer row && not (is_present writer row)

-- 1 where it is so, and else 0
abbrev pub one_where : Bool → ℕ
one_where is = if is then 1 else 0

-- the tree that a root of this row and height names now, with the number after the present tree's
abbrev pub next_root : NodeWriter → ℕ → ℕ → Root
next_root writer row height = record { tree = (writer_state writer).tree.number + 1; height = height; row = record { 0 = row } }

-- the tree that this root names among the words that the writer knows
abbrev pub next_shown : NodeWriter → ℕ → ℕ → ShownTree
next_shown writer row height = named_tree (node_sight writer).known (next_root writer row height)

-- The new rows are exactly those that a tree reaches: each row that is neither free nor left is reached once, and no other is.
abbrev pub ReachesNewRows : NodeWriter → ShownTree → Type 0
ReachesNewRows writer shown = (row : ℕ) → times row (shown_rows shown) ≡ one_where (is_kept writer row)
