-- What the fields of a set of slots keep.
use Rattle.std.specs.Prelude.{ℕ, ◌≡◌, ◌≤◌, ◌+◌, nat_lt, if◌then◌else◌}
use Rattle.std.specs.List.Sorted.{IsNonDecreasingBy}
use Rattle.std.specs.Vec.{vec_capacity}
use Rattle.std.specs.VecDeque.{deque_capacity}
use Rattle.area_slots.specs.declared.slots.AreaSlots.TheInside.{Inside}
use Rattle.area_slots.specs.Slots.{SlotSet, times_of_slot, times_left}

-- the set that the fields are
abbrev pub set_of : Inside → SlotSet
set_of slots = record { free = slots.free.items; left = slots.left.items; count = slots.count }

-- Each slot below the count is free once or left once or is taken, and no other is. Those that left stand by rising
-- trees. There is room for all slots in both lists, and for no more in that of the free ones.
pub record AreSlots (slots : Inside) : Type 0 where
  pub once : (slot : ℕ) → times_of_slot slot slots.free.items + times_left slot slots.left.items ≤ (if nat_lt slot slots.count then 1 else 0)
  pub rises : IsNonDecreasingBy (λ leaving. leaving.tree) slots.left.items
  pub all_free : vec_capacity slots.free ≡ slots.count
  pub all_left : slots.count ≤ deque_capacity slots.left
