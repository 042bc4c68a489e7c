-- What contracts see of a tree of spans and slots.
use Rattle.std.specs.Prelude.{ℕ, ◌≡◌, ◌<◌, ◌≤◌, ◌+◌, ◌*◌, ◌/◌, ◌++◌, Bool, List, [], ◌∷◌, length, All}
use Rattle.mm_types.specs.Config.{rows_for, slots_for}
use Rattle.maple_node.specs.Trees.{Pair}
use Rattle.atomic_table.specs.Seated.{TableId}
use Rattle.node_slots.specs.declared.view.Size.{Size}
use Rattle.node_slots.specs.declared.seats.NodeWriter.{NodeWriter}
use Rattle.node_slots.specs.Views.{opened_node_view}
use Rattle.node_slots.specs.Opening.{IsFreeFrom}
use Rattle.node_slots.specs.Seats.{node_sight, free_of, retired_rows}

-- A tree of spans and slots as contracts see it: the table that it is published in, the most pairs that it may have, the page
-- where it ends, the number of the present tree, the sequence of the lock at which it was published (0 for tree 0), the greatest tree
-- whose grace period has elapsed, the pairs of the tree that is built and those of the present tree, whether something was stored since
-- the last publish, whether enough rows are free for all stores up to the next one, how many pins of readers were looked at, how many
-- rows were free before each scan (or what its caller had counted), the pin of each reader that was found last, and how many rows are
-- free.
pub record SpanView : Type 0 where
  pub table : TableId
  pub areas : ℕ
  pub limit : ℕ
  pub number : ℕ
  pub published : ℕ
  pub elapsed : ℕ
  pub pairs : List Pair
  pub shown : List Pair
  pub changed : Bool
  pub roomy : Bool
  pub scans : ℕ
  pub found : List ℕ
  pub pins : List ℕ
  pub free : ℕ

-- Pairs from a page on stand in order, and no two of them have a page in common. Each has a page, and a slot below so many, and
-- the last ends at the limit or below it.
abbrev pub ArePairs : ℕ → ℕ → ℕ → List Pair → Type 0
ArePairs slots limit start [] = start ≤ limit
ArePairs slots limit start (pair ∷ pairs) = (start ≤ pair.lo) × (pair.lo < pair.hi) × (pair.slot < slots) × ArePairs slots limit pair.hi pairs

-- the size of the table for a tree of at most so many pairs
abbrev pub size_for : ℕ → ℕ → Size
size_for areas readers = record { rows = rows_for areas; slots = slots_for areas; readers = readers }

-- how many rows are free before a tree of at most so many pairs is changed
abbrev pub enough : ℕ → ℕ
enough areas = areas / 2 + 60

-- The pin of each reader was looked at in one scan, and in one more for each of these tries, before which fewer rows were free than so many.
pub record AreTries (wanted : ℕ) (old new : SpanView) (tries : List ℕ) : Type 0 where
  pub found : new.found ≡ old.found ++ old.free ∷ tries
  pub few : All (λ free. free < wanted) tries
  pub looks : new.scans ≡ old.scans + (length tries + 1) * length old.pins

-- the writer of a table of this size that was just made: tree 0 is present in row 0, and all other rows are free
pub record IsFreshWriter (areas : ℕ) (writer : NodeWriter) : Type 0 where
  pub readers : ℕ
  pub view : node_sight writer ≡ opened_node_view (size_for areas readers) readers
  pub free : IsFreeFrom 1 (rows_for areas) (free_of writer)
  pub left : retired_rows writer ≡ []
