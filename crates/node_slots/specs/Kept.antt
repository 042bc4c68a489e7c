-- What the structs of a table and of its seats keep.
use Rattle.std.specs.Prelude.{ℕ, ◌≡◌, ◌<◌, ◌≤◌, ◌+◌, ◌-◌, ◌*◌, ◌^◌, min, List, [], ◌++◌, length, map, replicate, slice_index_or, true, false, Some}
use Rattle.mm_types.specs.declared.slot.Row.{Row}
use Rattle.grace_core.specs.declared.clearing.Clearing.{Clearing}
use Rattle.grace_core.specs.Core.{WriterState, times, has_row, row_at, since_at, is_free_row}
use Rattle.grace_core.specs.Steps.{cleared_up_to}
use Rattle.maple_node.specs.declared.root.Root.{Root}
use Rattle.maple_node.specs.Roots.{FitsRoot}
use Rattle.atomic_table.specs.Table.{Me}
use Rattle.node_slots.specs.declared.view.Size.{Size}
use Rattle.node_slots.specs.declared.view.NodeSeatKind.TheVariants.{Reads, Writes}
use Rattle.node_slots.specs.declared.view.ShownTree.{ShownTree}
use Rattle.node_slots.specs.declared.view.NodeView.{NodeView}
use Rattle.node_slots.specs.declared.left.Left.{Left}
use Rattle.node_slots.specs.declared.note.RowNote.{RowNote}
use Rattle.node_slots.specs.Trees.{empty_row}
use Rattle.node_slots.specs.Places.{word_count}
use Rattle.node_slots.specs.Plays.{RowsExist}

-- a size that a table can have
pub record IsSize (size : Size) : Type 0 where
  pub some_rows : 1 ≤ size.rows
  pub few_rows : size.rows ≤ 2 ^ 20
  pub some_readers : 1 ≤ size.readers
  pub few_readers : size.readers ≤ 64

-- a table has the size that its rule speaks of, whose slots have numbers of 32 bits, and a word for each place
pub record IsNodeTableSized (size key : Size) (words : ℕ) : Type 0 where
  pub size_is : size ≡ key
  pub words_are : words ≡ word_count size
  pub fits : IsSize size
  pub few_slots : size.slots < 2 ^ 32

-- what a reader's seat knows beside its view
pub record NodeReaderKept (reader walks words : ℕ) (me : Me (Unit {0}) NodeView) : Type 0 where
  pub kind : me.0.kind ≡ Reads
  pub empty : me.1 ≡ []
  pub reader_is : me.0.reader ≡ reader
  pub within : (reader + 2) * 8 ≤ words
  pub walks_are : walks ≡ min me.0.walks (2 ^ 64 - 1)
  pub exist : (shown : ShownTree) → me.0.snapshot ≡ Some shown → RowsExist me.0.size.rows shown

-- these rows, and rows of zeros after them up to so many
abbrev pub with_empty : ℕ → List (List ℕ) → List (List ℕ)
with_empty rows words = words ++ replicate (rows - length words) empty_row

-- what the writer's seat knows beside its view
pub record NodeWriterKept (size : Size) (root : Root) (words : List (List ℕ)) (clearings : List Clearing) (me : Me (Unit {0}) NodeView) : Type 0 where
  pub kind : me.0.kind ≡ Writes
  pub empty : me.1 ≡ []
  pub size_is : me.0.size ≡ size
  pub root_is : me.0.known.root ≡ root
  pub number_is : me.0.known.writer_state.tree.number ≡ root.tree
  pub words_are : me.0.known.writer_state.words ≡ words
  pub clearings_are : me.0.known.writer_state.clearings ≡ clearings
  pub fits : FitsRoot root
  pub rows : length words ≡ size.rows
  pub wide : (row : ℕ) → row < length words → length (row_at words row) ≡ 32
  pub readers : length clearings ≡ size.readers
  pub since : length me.0.known.writer_state.since ≡ size.rows
  pub reached : cleared_up_to root.tree clearings ≤ me.0.known.writer_state.passed

-- the numbers of free rows
abbrev pub free_numbers : List Row → List ℕ
free_numbers free = map (λ row. row.0) free

-- the numbers of the rows that were left
abbrev pub left_numbers : List Left → List ℕ
left_numbers left = map (λ one. one.row.0) left

-- how often a row is free or was left
abbrev pub times_gone : List Row → List Left → ℕ → ℕ
times_gone free left row = times row (free_numbers free) + times row (left_numbers left)

-- a row that is none
abbrev pub no_left : Left
no_left = record { row = record { 0 = 0 }; since = 0 }

-- the row that was left at a place of the queue
abbrev pub left_at : List Left → ℕ → Left
left_at left place = slice_index_or left place no_left

-- the first trees that may have the rows, as the writer remembers them
abbrev pub firsts_of : List RowNote → List ℕ
firsts_of notes = map (λ note. note.first) notes

-- the first tree that may have a row
abbrev pub first_at : List ℕ → ℕ → ℕ
first_at firsts row = slice_index_or firsts row 0

-- where the rows came to stand in the free list last, as the writer notes it
abbrev pub spots_of : List RowNote → List ℕ
spots_of notes = map (λ note. note.spot) notes

-- the rows that the rows replaced, as the writer notes them
abbrev pub replaced_of : List RowNote → List ℕ
replaced_of notes = map (λ note. note.replaced.0) notes

-- the number at a place of a list
abbrev pub number_at : List ℕ → ℕ → ℕ
number_at numbers place = slice_index_or numbers place 0

-- the rows below a number but the first, the highest first
pub record FallsFrom (rows : ℕ) (free : List ℕ) : Type 0 where
  pub long : length free + 1 ≡ rows
  pub falls : (place : ℕ) → place < length free → number_at free place + place + 1 ≡ rows

-- The fresh rows stand at the front of the free list, the highest first. Each other free row stands at the place that is noted for it.
pub record PlacesKept (rows fresh : ℕ) (free spots : List ℕ) : Type 0 where
  pub few : fresh ≤ length free
  pub falls : (place : ℕ) → place < fresh → number_at free place + place + 1 ≡ rows
  pub noted : (place : ℕ) → fresh ≤ place → place < length free → number_at spots (number_at free place) ≡ place

-- what is so of a row that was left: it leaves at the next publish, or it waits since the tree that left it out, which is the
-- present one or one before it
pub record IsRowRetired (writer_state : WriterState) (left : Left) : Type 0 where
  pub some : 1 ≤ left.since
  pub most : left.since ≤ writer_state.tree.number + 1
  pub leaves : has_row writer_state.tree left.row.0 ≡ true → left.since ≡ writer_state.tree.number + 1
  pub waits : has_row writer_state.tree left.row.0 ≡ false → since_at writer_state.since left.row.0 ≡ left.since
  pub past : has_row writer_state.tree left.row.0 ≡ false → left.since ≤ writer_state.tree.number

-- What the writer's lists keep. A row is at most once free or left. A free row is free by the grace protocol. Each other row is of
-- the present tree, or it was taken since the last publish: then it is free by the protocol, and the next tree is the first that
-- may have it. The rows that were left are in the order of the trees that leave them out.
pub record RowsKept (rows : ℕ) (free : List Row) (left : List Left) (firsts : List ℕ) (writer_state : WriterState) : Type 0 where
  pub sized : length firsts ≡ rows
  pub first : (row : ℕ) → first_at firsts row ≤ writer_state.tree.number + 1
  pub once : (row : ℕ) → times_gone free left row ≤ 1
  pub inside : (row : ℕ) → 1 ≤ times_gone free left row → row < rows
  pub free_is : (row : ℕ) → 1 ≤ times row (free_numbers free) → is_free_row writer_state row ≡ true
  pub present : (row : ℕ) → row < rows → times_gone free left row ≡ 0 → first_at firsts row ≤ writer_state.tree.number → has_row writer_state.tree row ≡ true
  pub taken : (row : ℕ) → row < rows → times_gone free left row ≡ 0 → writer_state.tree.number < first_at firsts row → is_free_row writer_state row ≡ true
  pub queue : (place : ℕ) → place < length left → IsRowRetired writer_state (left_at left place)
  pub order : (place other : ℕ) → place ≤ other → other < length left → (left_at left place).since ≤ (left_at left other).since
