-- Which events are refused, and why.
use Rattle.std.specs.Prelude.{ℕ, ◌+◌, ◌%◌, Bool, true, false, not, ◌&&◌, ◌||◌, if◌then◌else◌, nat_eq, nat_lt, nat_le, List, [], ◌∷◌, ◌++◌, length, map, is_some, unwrap_or, option_map, Option, Some, None}
use Rattle.std.specs.Cmp.Lexicographic.{pointwise}
use Rattle.mm_types.specs.declared.config.Config.{Config}
use Rattle.mm_types.specs.declared.config.TheConstants.{MOST_AREA_END}
use Rattle.mm_types.specs.Packed.{packed, unpacked}
use Rattle.mm_types.specs.Rows.{first_row}
use Rattle.mm_types.specs.Sorts.{sort_by}
use Rattle.lock_core.specs.declared.events.LockEvent.{LockEvent}
use Rattle.lock_core.specs.declared.events.LockEvent.TheVariants.{Add, Look, Field, Sub, Begin, Mark, Store, End, Split, Join}
use Rattle.lock_core.specs.declared.events.StepRefusal.{StepRefusal}
use Rattle.lock_core.specs.declared.events.StepRefusal.TheVariants.{NotOpen, ReadersLeft, NotMarked, NotHeld, NoSlot, AlreadyOpen, AlreadyHeld, NotTheList}
use Rattle.lock_core.specs.declared.stage.SlotState.{SlotState}
use Rattle.lock_core.specs.declared.stage.Stage.{Stage}
use Rattle.lock_core.specs.declared.stage.Stage.TheVariants.{Out, Holds, Valid, Gone}
use Rattle.lock_core.specs.Core.{LockCore, slot_at, count_at, reader_at, slot_held}
use Rattle.lock_core.specs.Rows.{attached_rows, is_marked}
use Rattle.lock_core.specs.Facts.{list_after}
use Rattle.lock_core.specs.Events.{entry_after}

-- whether a reader is none: no reader has the number, or it was joined away
abbrev pub is_gone : Stage → Bool
is_gone Out = false
is_gone (Holds slot found) = false
is_gone (Valid slot found row) = false
is_gone Gone = true

-- whether no reader has this number
abbrev pub lacks_reader : LockCore → ℕ → Bool
lacks_reader core reader = is_gone (reader_at core.readers reader).stage

-- whether no slot has this number
abbrev pub lacks_slot : LockCore → ℕ → Bool
lacks_slot core slot = nat_le (length core.slots) slot

-- whether a reader holds a slot
abbrev pub is_holding : LockCore → ℕ → Bool
is_holding core reader = is_some (slot_held (reader_at core.readers reader).stage)

-- whether an event names a reader or a slot that there is not, or joins a reader into itself
abbrev pub names_none : LockCore → LockEvent → Bool
names_none core (Add reader slot) = lacks_reader core reader || lacks_slot core slot.0
names_none core (Look reader) = lacks_reader core reader
names_none core (Field reader field) = lacks_reader core reader
names_none core (Sub reader) = lacks_reader core reader
names_none core Begin = false
names_none core (Mark slot) = lacks_slot core slot.0
names_none core (Store slot field word) = lacks_slot core slot.0
names_none core (End caller call) = false
names_none core (Split reader) = lacks_reader core reader
names_none core (Join first second) = lacks_reader core first || (lacks_reader core second || nat_eq first second)

-- whether an event is one of an open call
abbrev pub needs_open : LockEvent → Bool
needs_open (Mark slot) = true
needs_open (Store slot field word) = true
needs_open (End caller call) = true
needs_open _ = false

-- whether it begins a call
abbrev pub is_begin : LockEvent → Bool
is_begin Begin = true
is_begin _ = false

-- whether an event needs a reader that holds a slot, where it holds none
abbrev pub lacks_hold : LockCore → LockEvent → Bool
lacks_hold core (Field reader field) = not (is_holding core reader)
lacks_hold core (Sub reader) = not (is_holding core reader)
lacks_hold core _ = false

-- whether an event needs a reader that holds nothing, where it holds a slot
abbrev pub has_hold : LockCore → LockEvent → Bool
has_hold core (Add reader slot) = is_holding core reader
has_hold core (Join first second) = is_holding core second
has_hold core _ = false

-- whether an event stores into a slot that is not marked
abbrev pub stores_unmarked : LockCore → LockEvent → Bool
stores_unmarked core (Store slot field word) = not (is_marked core.seq (slot_at core.slots slot.0))
stores_unmarked core _ = false

-- how many readers hold the slot that an event marks
abbrev pub readers_left : LockCore → LockEvent → ℕ
readers_left core (Mark slot) = count_at core.counts slot.0
readers_left core _ = 0

-- the page at which the area of a row begins; a row of no area is sorted as if it began at a page past all areas
unfoldable pub first_page : List ℕ → ℕ
first_page row = unwrap_or (option_map (λ area. area.span.lo) (unpacked row)) MOST_AREA_END

-- The attached rows, sorted by the page at which their areas begin. Rows of one page stand by the numbers of their slots.
abbrev pub sorted_rows : List SlotState → List (List ℕ)
sorted_rows slots = sort_by first_page (attached_rows slots)

-- the first place, from 0, at which two lists of rows differ: they have two rows there, or one has a row and the other none
abbrev pub first_difference : List (List ℕ) → List (List ℕ) → Option ℕ
first_difference [] [] = None
first_difference (row ∷ rows) (other ∷ others) = if pointwise nat_eq row other then option_map (λ place. place + 1) (first_difference rows others) else Some 0
first_difference _ _ = Some 0

-- where the rows differ from the list after the call that an event ends
abbrev pub list_difference : Config → LockCore → LockEvent → Option ℕ
list_difference config core (End caller call) = first_difference (sorted_rows core.slots)
    (map packed (list_after config (core.journal ++ entry_after config core.journal caller call ∷ [])))
list_difference config core _ = None

-- why an event is refused, by the first row whose test holds; none where it is not refused
unfoldable pub lock_refusal : Config → LockCore → LockEvent → Option StepRefusal
lock_refusal config core event = let place = list_difference config core event in first_row (
    (names_none core event, NoSlot)
    ∷ (needs_open event && nat_eq (core.seq % 2) 0, NotOpen)
    ∷ (is_begin event && nat_eq (core.seq % 2) 1, AlreadyOpen)
    ∷ (lacks_hold core event, NotHeld)
    ∷ (has_hold core event, AlreadyHeld)
    ∷ (stores_unmarked core event, NotMarked)
    ∷ (nat_lt 0 (readers_left core event), ReadersLeft (readers_left core event))
    ∷ (is_some place, NotTheList (unwrap_or place 0))
    ∷ [])
