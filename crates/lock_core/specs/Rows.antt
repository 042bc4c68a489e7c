-- What the rows of slots show of a list of areas.
use Rattle.std.specs.Prelude.{ℕ, ◌≡◌, ◌⊎◌, Bool, true, if◌then◌else◌, nat_eq, List, ◌++◌, map, sum_by, Contains, not, filter, IsPermutation}
use Rattle.std.specs.List.{list_all}
use Rattle.mm_types.specs.declared.area.Record.{Record}
use Rattle.mm_types.specs.Packed.{packed}
use Rattle.lock_core.specs.declared.stage.SlotState.{SlotState}

-- whether a row is detached: all its words are 0
abbrev pub is_detached : List ℕ → Bool
is_detached row = list_all (λ word. nat_eq word 0) row

-- the rows that are not detached, by the numbers of their slots
abbrev pub attached_rows : List SlotState → List (List ℕ)
attached_rows slots = filter (λ row. not (is_detached row)) (map (λ slot. slot.row) slots)

-- Whether a slot is marked: its lock sequence is the sequence, which is then odd, as the sequence fact has it.
abbrev pub is_marked : ℕ → SlotState → Bool
is_marked seq slot = nat_eq slot.lock_seq seq

-- a row is right for a list where it is detached or holds the words of one of the list's areas
abbrev pub IsRowOf : List Record → List ℕ → Type 0
IsRowOf areas row = (is_detached row ≡ true) ⊎ Contains (map packed areas) row

-- the attached rows in slots that are not marked
abbrev pub unmarked_rows : ℕ → List SlotState → List (List ℕ)
unmarked_rows seq slots = attached_rows (filter (λ slot. not (is_marked seq slot)) slots)

-- Each attached row in a slot that is not marked has the words of an area of the list, and two such rows those of two areas: with
-- some others, these rows are the words of the list's areas in some order.
abbrev pub Within : ℕ → List SlotState → List Record → Type 0
Within seq slots areas = (others : List (List ℕ)) × IsPermutation (unmarked_rows seq slots ++ others) (map packed areas)

-- what an attached row weighs; a detached one weighs nothing
abbrev pub attached_weight : (List ℕ → ℕ) → SlotState → ℕ
attached_weight weight slot = if is_detached slot.row then 0 else weight slot.row

-- The attached rows are exactly the areas of the list: however rows are weighed, both weigh the same.
abbrev pub Exactly : List SlotState → List Record → Type 0
Exactly slots areas = (weight : List ℕ → ℕ) → sum_by (attached_weight weight) slots ≡ sum_by (λ area. weight (packed area)) areas
