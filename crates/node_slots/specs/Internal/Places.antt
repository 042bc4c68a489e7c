-- Places in the free list.
use Rattle.std.specs.Prelude.{ℕ, ◌≡◌, ◌<◌, ◌≤◌, ◌+◌, true, false, length}
use Rattle.node_slots.specs.declared.seats.NodeWriter.{NodeWriter}
use Rattle.node_slots.specs.Kept.{number_at}
use Rattle.node_slots.specs.Seats.{free_of}
use Rattle.node_slots.specs.Choosing.{is_free_again, replaced_by, takes_fresh}

-- a row stands at a place of the free list, behind the fresh rows
pub record StandsAt (writer : NodeWriter) (row place : ℕ) : Type 0 where
  pub behind : writer.fresh ≤ place
  pub inside : place < length writer.free.items
  pub here : number_at (free_of writer) place ≡ row

-- the place of the row that is taken for the next version of a row's node
pub record IsChosen (writer : NodeWriter) (row place : ℕ) : Type 0 where
  pub inside : place < length writer.free.items
  pub own : is_free_again writer row ≡ true → number_at (free_of writer) place ≡ row
  pub replaced : is_free_again writer row ≡ false → is_free_again writer (replaced_by writer row) ≡ true
      → number_at (free_of writer) place ≡ replaced_by writer row
  pub fresh : takes_fresh writer row ≡ true → place + 1 ≡ writer.fresh
  pub again : takes_fresh writer row ≡ false → writer.fresh ≤ place
