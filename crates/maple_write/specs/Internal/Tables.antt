-- The writer's table as the proofs of a store see it.
use Rattle.std.specs.Prelude.{ℕ, ◌≡◌, ◌≤◌, ◌+◌, List, map, length, if◌then◌else◌, nat_lt}
use Rattle.maple_node.specs.declared.item.NodeItem.{NodeItem}
use Rattle.maple_node.specs.Levels.{times_among}
use Rattle.maple_node.specs.Splices.{ending_by, ending_after}
use Rattle.node_slots.specs.declared.seats.NodeWriter.{NodeWriter}
use Rattle.node_slots.specs.Seats.{StaysAt, node_sight, writer_state, row_count, free_of, retired_rows, is_waiting}

-- the words of each row, the rows that are free, and those that were left
pub record RowTable : Type 0 where
  pub rows : List (List ℕ)
  pub free : List ℕ
  pub left : List ℕ

-- the table of a writer
abbrev pub table_at : NodeWriter → RowTable
table_at writer = record { rows = (writer_state writer).words; free = free_of writer; left = retired_rows writer }

-- the rows of items
abbrev pub rows_in : List NodeItem → List ℕ
rows_in items = map (λ item. item.word) items

-- the rows of the items between two pages
abbrev pub rows_between : ℕ → ℕ → List NodeItem → List ℕ
rows_between lo hi items = rows_in (ending_by hi (ending_after lo items))

-- how often a row is free or was left
abbrev pub gone : RowTable → ℕ → ℕ
gone table row = times_among row table.free + times_among row table.left

-- each row of the table stands once: among these rows, or free or left
pub record Stand (table : RowTable) (rows : List ℕ) : Type 0 where
  pub each : (row : ℕ) → times_among row rows + gone table row ≡ (if nat_lt row (length table.rows) then 1 else 0)

-- these are different rows of the table, none of them free or left
abbrev pub AreInUse : NodeWriter → List ℕ → Type 0
AreInUse writer rows = (row : ℕ) → gone (table_at writer) row + times_among row rows ≤ (if nat_lt row (row_count writer) then 1 else 0)

-- these rows were left, and nothing was taken, filled or published
pub record LeavesRows (old new : NodeWriter) (rows : List ℕ) : Type 0 where
  pub table : StaysAt old new
  pub view : node_sight new ≡ node_sight old
  pub free : length (free_of old) ≤ length (free_of new)
  pub waits : (row : ℕ) → is_waiting new row ≡ is_waiting old row
  pub gone_are : (row : ℕ) → gone (table_at new) row ≡ gone (table_at old) row + times_among row rows
