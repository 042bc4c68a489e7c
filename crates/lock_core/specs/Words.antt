-- The words of the slots of a state, as a table keeps them: a mark word and the row of each.
use Rattle.std.specs.Prelude.{ℕ, ◌+◌, ◌*◌, List, [], ◌∷◌, ◌++◌}
use Rattle.lock_core.specs.declared.stage.SlotState.{SlotState}

-- the mark word: the lock sequence, and the count of readers in its lowest eight bits
abbrev pub mark_word : ℕ → ℕ → ℕ
mark_word lock_seq count = lock_seq * 256 + count

-- the words of a slot: the mark word, and the row
abbrev pub line : SlotState → ℕ → List ℕ
line slot count = mark_word slot.lock_seq count ∷ slot.row

-- the words of each slot
abbrev pub lines : List SlotState → List ℕ → List (List ℕ)
lines [] counts = []
lines (slot ∷ slots) [] = []
lines (slot ∷ slots) (count ∷ counts) = line slot count ∷ lines slots counts

-- one list after another
abbrev pub flat : List (List ℕ) → List ℕ
flat [] = []
flat (words ∷ lists) = words ++ flat lists
