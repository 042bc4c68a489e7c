-- Which free row is taken for the next version of a node.
use Rattle.std.specs.Prelude.{ℕ, ◌≡◌, ◌+◌, ◌-◌, ◌*◌, Bool, true, false, not, ◌&&◌, nat_lt, List, length, drop}
use Rattle.grace_core.specs.Core.{times}
use Rattle.node_slots.specs.declared.seats.NodeWriter.{NodeWriter}
use Rattle.node_slots.specs.Kept.{replaced_of, number_at}
use Rattle.node_slots.specs.Seats.{row_count, free_of}

-- the free rows that were taken before: those behind the fresh ones
abbrev pub free_again : NodeWriter → List ℕ
free_again writer = drop writer.fresh (free_of writer)

-- whether a row is free, and was taken before
abbrev pub is_free_again : NodeWriter → ℕ → Bool
is_free_again writer row = nat_lt 0 (times row (free_again writer))

-- the row that a row replaced
abbrev pub replaced_by : NodeWriter → ℕ → ℕ
replaced_by writer row = number_at (replaced_of writer.notes.items) row

-- whether a fresh row is wanted: the free rows that were taken before are fewer than twice the rows in use, and 64 more
abbrev pub wants_fresh : NodeWriter → Bool
wants_fresh writer = nat_lt 0 writer.fresh
    && nat_lt (length writer.free.items - writer.fresh) (2 * (row_count writer - length writer.free.items) + 64)

-- whether a fresh row is taken for the next version of a row's node: one is wanted, and neither the row nor the one that it replaced is free again
abbrev pub takes_fresh : NodeWriter → ℕ → Bool
takes_fresh writer row = not (is_free_again writer row) && not (is_free_again writer (replaced_by writer row)) && wants_fresh writer

-- the row that is taken for the next version of a row's node is that row itself where it is free again, or else the one that it replaced, where that is
pub record IsNearest (writer : NodeWriter) (old row : ℕ) : Type 0 where
  pub own : is_free_again writer old ≡ true → row ≡ old
  pub replaced : is_free_again writer old ≡ false → is_free_again writer (replaced_by writer old) ≡ true → row ≡ replaced_by writer old

-- how many rows the writer has touched the words of: those up to the highest that it filled
abbrev pub touched : NodeWriter → ℕ
touched writer = length writer.writer_state.words.items
