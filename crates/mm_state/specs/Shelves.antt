-- Which slot shows which area.
use Rattle.std.specs.Prelude.{ℕ, ◌≡◌, ◌+◌, true, nat_lt, if◌then◌else◌, List, length, All}
use Rattle.mm_types.specs.Packed.{packed}
use Rattle.lock_core.specs.declared.stage.SlotState.{SlotState}
use Rattle.lock_core.specs.Core.{slot_at}
use Rattle.lock_core.specs.Rows.{is_detached, Exactly}
use Rattle.area_slots.specs.Slots.{SlotSet, times_of_slot, times_left}
use Rattle.area_tree.specs.declared.shown.ShownArea.{ShownArea}
use Rattle.area_tree.specs.AreaTrees.{areas_shown, times_shown}

-- a slot that shows an area has its words
abbrev pub ShowsIt : List SlotState → ShownArea → Type 0
ShowsIt states shown = (slot_at states shown.slot).row ≡ packed shown.area

-- The slots hang together: each is free, left, or shows one area, whose words its row has. The rows of the others are
-- detached, so the rows show exactly these areas.
pub record Hangs (states : List SlotState) (shown : List ShownArea) (set : SlotSet) : Type 0 where
  pub sized : length states ≡ set.count
  pub counted : length shown + length set.free + length set.left ≡ set.count
  pub once : (slot : ℕ) → times_shown slot shown + times_of_slot slot set.free + times_left slot set.left ≡ (if nat_lt slot set.count then 1 else 0)
  pub rows : All (ShowsIt states) shown
  pub others : (slot : ℕ) → times_shown slot shown ≡ 0 → is_detached (slot_at states slot).row ≡ true
  pub exactly : Exactly states (areas_shown shown)
