-- The words of a table: eight for the sequence and for each slot, as many as a cache line has, so that no two mark words share
-- a line, nor does one with the sequence. The last three of a slot stay 0.
use Rattle.std.specs.Prelude.{ℕ, ◌+◌, ◌*◌, List, [], ◌∷◌, ◌++◌, map}
use Rattle.lock_core.specs.declared.stage.SlotState.{SlotState}
use Rattle.lock_core.specs.Words.{lines, flat}

-- the words of a slot, filled up to a cache line
abbrev pub padded_slot : List ℕ → List ℕ
padded_slot line = line ++ 0 ∷ 0 ∷ 0 ∷ []

-- the sequence, filled up to a cache line
abbrev pub sequence_line : ℕ → List ℕ
sequence_line seq = seq ∷ 0 ∷ 0 ∷ 0 ∷ 0 ∷ 0 ∷ 0 ∷ 0 ∷ []

-- the words of a state
unfoldable pub table_words : ℕ → List SlotState → List ℕ → List ℕ
table_words seq slots counts = flat (sequence_line seq ∷ map padded_slot (lines slots counts))

-- the place of a slot's mark word
abbrev pub mark_place : ℕ → ℕ
mark_place slot = (slot + 1) * 8

-- the place of a word of a slot's row
abbrev pub field_place : ℕ → ℕ → ℕ
field_place slot field = (slot + 1) * 8 + 1 + field
