-- Which slots are free, and which left with which tree.
use Rattle.std.specs.Prelude.{ℕ, ◌≡◌, ◌<◌, Bool, nat_eq, nat_le, not, if◌then◌else◌, List, map, filter, sum_by}
use Rattle.area_slots.specs.declared.leaving.Leaving.{Leaving}

-- the slots as contracts see them: those that are free, those that left by rising trees, and how many there are
pub record SlotSet : Type 0 where
  pub free : List ℕ
  pub left : List Leaving
  pub count : ℕ

-- 1 for this slot
abbrev pub one_at : ℕ → ℕ → ℕ
one_at slot other = if nat_eq slot other then 1 else 0

-- how often a slot stands in a list
abbrev pub times_of_slot : ℕ → List ℕ → ℕ
times_of_slot slot slots = sum_by (one_at slot) slots

-- how often a slot stands among those that left
abbrev pub times_left : ℕ → List Leaving → ℕ
times_left slot left = sum_by (λ leaving. one_at slot leaving.slot) left

-- a slot is taken where it is neither free nor left
pub record IsSlotTaken (set : SlotSet) (slot : ℕ) : Type 0 where
  pub below : slot < set.count
  pub not_free : times_of_slot slot set.free ≡ 0
  pub not_left : times_left slot set.left ≡ 0

-- whether a slot left at or before a tree
abbrev pub retired_by : ℕ → Leaving → Bool
retired_by tree leaving = nat_le leaving.tree tree

-- those that left by a tree, in order
abbrev pub gone_by : ℕ → List Leaving → List Leaving
gone_by tree left = filter (retired_by tree) left

-- those that left after it
abbrev pub gone_after : ℕ → List Leaving → List Leaving
gone_after tree left = filter (λ leaving. not (retired_by tree leaving)) left

-- the slots of those that left
abbrev pub slots_left : List Leaving → List ℕ
slots_left left = map (λ leaving. leaving.slot) left
