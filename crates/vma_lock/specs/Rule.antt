-- The rule of a table: its words and what its seats know show one state of the lock protocol.
use Rattle.std.specs.Prelude.{ℕ, ◌≡◌, ◌≢◌, ◌<◌, ◌≤◌, ◌+◌, ◌^◌, if◌then◌else◌, nat_eq, List, length, map, sum_by, Option, Some, None}
use Rattle.mm_types.specs.declared.call.Entry.{Entry}
use Rattle.mm_types.specs.declared.config.Config.{Config}
use Rattle.lock_core.specs.declared.stage.SlotState.{SlotState}
use Rattle.lock_core.specs.declared.stage.Stage.{Stage}
use Rattle.lock_core.specs.declared.stage.Stage.TheVariants.{Out, Holds, Valid, Gone}
use Rattle.lock_core.specs.Core.{LockCore, slot_held, StartsWith}
use Rattle.lock_core.specs.Facts.{LockFacts, list_after}
use Rattle.lock_core.specs.Rows.{IsRowOf}
use Rattle.atomic_table.specs.Table.{State}
use Rattle.vma_lock.specs.declared.view.SeatKind.{SeatKind}
use Rattle.vma_lock.specs.declared.view.SeatKind.TheVariants.{Reads, Writes, Note, Spent}
use Rattle.vma_lock.specs.declared.view.SeenAt.{SeenAt}
use Rattle.vma_lock.specs.declared.view.View.{View}
use Rattle.vma_lock.specs.Views.{slot_count, reader_of, lock_view_at}
use Rattle.area_rules.specs.Journals.{calls_by}
use Rattle.vma_lock.specs.Words.{table_words}

-- 1 where it is this caller's turn
abbrev pub turn_weight : ℕ → Option ℕ → ℕ
turn_weight caller None = 0
turn_weight caller (Some other) = if nat_eq other caller then 1 else 0

-- 1 for a seat that has this caller's turn
abbrev pub bears : ℕ → View → ℕ
bears caller view = turn_weight caller view.turn

-- 1 for a seat of a kind that can hold a slot
abbrev pub kind_weight : SeatKind → ℕ
kind_weight Reads = 1
kind_weight Writes = 0
kind_weight Note = 0
kind_weight Spent = 0

-- 1 for a seat that can hold a slot
abbrev pub can_hold : View → ℕ
can_hold view = kind_weight view.kind

-- What a seat keeps of its last steps belongs to the slot that it holds: a validated row is right for the list after the
-- journal that the first validating look saw.
abbrev pub IsTraced : Config → Option (ℕ × ℕ) → Option SeenAt → Stage → Type 0
IsTraced config added valid Out = Unit {0}
IsTraced config added valid (Holds slot found) = (added ≡ Some (slot, found)) × (valid ≡ None)
IsTraced config added valid (Valid slot found row) = (added ≡ Some (slot, found))
    × ((at : SeenAt) × (valid ≡ Some at) × (at.seq ≢ found) × IsRowOf (list_after config at.seen) row)
IsTraced config added valid Gone = Unit {0}

-- the seat that has a caller's turn has seen every entry of this caller, and so had the seat from which it has the turn
pub record HasSeenOwn (journal : List Entry) (made : ℕ) (seen own : List Entry) (caller : ℕ) : Type 0 where
  pub early : caller < made
  pub all : calls_by caller journal ≡ calls_by caller seen
  pub from_own : calls_by caller seen ≡ calls_by caller own

-- The writer is the first seat. It has seen the whole journal, and knows the sequence and the slots.
pub record IsWriter (seq : ℕ) (slots : List SlotState) (journal : List Entry) (made seat : ℕ) (view : View) : Type 0 where
  pub first : seat ≡ 0
  pub stage : view.stage ≡ Out
  pub seen : view.seen ≡ journal
  pub seq_is : view.writer_state.seq ≡ seq
  pub slots_are : view.writer_state.slots ≡ slots
  pub made_is : view.writer_state.made ≡ made

-- what is so of each seat
pub record LockSeatFits (config : Config) (seq : ℕ) (slots : List SlotState) (journal : List Entry) (made seat : ℕ) (view : View) : Type 0 where
  pub settings : view.kind ≢ Spent → view.config ≡ config
  pub turn : (caller : ℕ) → view.turn ≡ Some caller → HasSeenOwn journal made view.seen view.own caller
  pub before : StartsWith view.seen view.before
  pub joined : StartsWith view.seen view.joined
  pub writer : view.kind ≡ Writes → IsWriter seq slots journal made seat view
  pub free : view.kind ≢ Reads → slot_held view.stage ≡ None
  pub traced : IsTraced config view.trace.added view.trace.valid view.stage

-- The words and what the seats know show one state of the protocol, whose readers are the seats. At most one seat has a
-- caller's turn, and at most 64 seats can hold a slot.
pub record ShowsLock (config : Config) (state : State Entry View) : Type 0 where
  pub core : LockCore
  pub made : ℕ
  pub readers : core.readers ≡ map reader_of state.views
  pub facts : LockFacts config core
  pub words : state.words ≡ table_words core.seq core.slots core.counts
  pub slots : length core.slots ≡ slot_count config
  pub seats : (seat : ℕ) → LockSeatFits config core.seq core.slots core.journal made seat (lock_view_at state.views seat)
  pub once : (caller : ℕ) → sum_by (bears caller) state.views ≤ 1
  pub few : sum_by can_hold state.views ≤ made
  pub most : made ≤ 64
  pub room : core.seq ≤ 2 ^ 32 + 2
