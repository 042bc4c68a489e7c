-- The rows and the words of a new table.
use Rattle.std.specs.Prelude.{ℕ, ◌≡◌, ◌≤◌, ◌<◌, List, length, replicate, slice_index, slice_set}
use Rattle.grace_core.specs.Core.{times}
use Rattle.node_slots.specs.Places.{word_count}

-- the list has the rows from one number up to another, each once, and no other
pub record IsFreeFrom (start end : ℕ) (free : List ℕ) : Type 0 where
  pub once : (row : ℕ) → times row free ≤ 1
  pub inside : (row : ℕ) → 1 ≤ times row free → start ≤ row
  pub below : (row : ℕ) → 1 ≤ times row free → row < end
  pub all : (row : ℕ) → start ≤ row → row < end → 1 ≤ times row free

-- how many words a table of so many rows and 64 readers has, the most that a table of so many rows has
abbrev pub most_words : ℕ → ℕ
most_words rows = word_count (record { rows = rows; slots = 0; readers = 64 })

-- words from which tables are copied, as contracts see them: how many they are, and the first, after which all are zeros
pub record FirstView : Type 0 where
  pub count : ℕ
  pub first : ℕ

-- there are words, and they are zeros but for the first
pub record HasZeros (words : List ℕ) : Type 0 where
  pub some : 1 ≤ length words
  pub zeros : words ≡ slice_set (replicate (length words) 0) 0 (slice_index words 0)
