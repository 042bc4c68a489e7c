-- Where the words of a table stand. The root word and each pin have a line of eight words of their own, as a cache line has, so
-- that no two of them share one; the words of rows stand after them.
use Rattle.std.specs.Prelude.{ℕ, ◌+◌, ◌*◌}
use Rattle.node_slots.specs.declared.view.Size.{Size}

-- the place of the root word
abbrev pub root_place : ℕ
root_place = 0

-- the place of a reader's pin
abbrev pub pin_place : ℕ → ℕ
pin_place reader = (reader + 1) * 8

-- the place of a row's first word, in a table of so many readers: the rows stand after the last pin
abbrev pub row_place : ℕ → ℕ → ℕ
row_place readers row = pin_place readers + row * 32

-- the place of a word of a row
abbrev pub word_place : ℕ → ℕ → ℕ → ℕ
word_place readers row place = row_place readers row + place

-- how many words a table has
abbrev pub word_count : Size → ℕ
word_count size = row_place size.readers size.rows
