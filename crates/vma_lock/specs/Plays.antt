-- What each step tells the seat that makes it.
use Rattle.std.specs.Prelude.{ℕ, ◌≡◌, ◌≢◌, ◌<◌, ◌≤◌, ◌/◌, ◌+◌, ◌^◌, List, length, slice_index, Some}
use mathlib.Core.Option.{some}
use Rattle.mm_types.specs.declared.call.Entry.{Entry}
use Rattle.mm_types.specs.declared.config.Config.{Config}
use Rattle.area_rules.specs.Steps.{IsLegalJournal}
use Rattle.lock_core.specs.declared.stage.SlotState.{SlotState}
use Rattle.lock_core.specs.declared.stage.Stage.{Stage}
use Rattle.lock_core.specs.declared.stage.Stage.TheVariants.{Out, Holds, Valid, Gone}
use Rattle.lock_core.specs.Core.{StartsWith, slot_at}
use Rattle.lock_core.specs.Events.{stage_after_look}
use Rattle.lock_core.specs.Facts.{list_after}
use Rattle.lock_core.specs.Rows.{IsRowOf, Exactly}
use Rattle.atomic_table.specs.Table.{Me, Step}
use Rattle.vma_lock.specs.declared.view.View.{View}
use Rattle.vma_lock.specs.Views.{add_at, look_at, field_at, sub_at, begin_at, try_at, mark_at, lock_store_at, end_at}
use Rattle.area_rules.specs.Journals.{calls_by}
use Rattle.vma_lock.specs.Words.{mark_place, field_place}
use Rattle.vma_lock.specs.Rule.{IsTraced}

-- a step with its place, its operands and the value found, and the seat before and after it
abbrev pub LockTells : Type 1
LockTells = Step Entry → Me Entry View → ℕ → Me Entry View → Type 0

-- what a seat learns of the last join into it: both lists are beginnings of what it has seen since, and no entry of its
-- turn's caller is new
pub record IsSettled (view : View) : Type 0 where
  pub before : StartsWith view.seen view.before
  pub joined : StartsWith view.seen view.joined
  pub own : (caller : ℕ) → view.turn ≡ Some caller → calls_by caller view.seen ≡ calls_by caller view.own

-- What a look that found this sequence tells of the journal that it saw: the journal is legal, begins with all that the
-- seat had seen, has as many entries as the sequence says, at most 2^31, and no new entry of the caller whose turn the seat
-- has.
pub record Sees (view : View) (found : ℕ) (journal : List Entry) : Type 0 where
  pub legal : IsLegalJournal view.config journal
  pub later : StartsWith journal view.seen
  pub counted : found / 2 ≡ length journal + 1
  pub few : length journal ≤ 2 ^ 31
  pub own : (caller : ℕ) → view.turn ≡ Some caller → calls_by caller journal ≡ calls_by caller view.seen

-- Where a reader stands after a look that found this sequence and saw this journal. The look makes the test of the protocol, as
-- vma_start_read does. Where the reader is validated after it, no call has its slot locked, and its row is that of a VMA of the list
-- after the journal, or of none.
pub record LooksAt (config : Config) (journal : List Entry) (seq : ℕ) (old new : Stage) : Type 0 where
  pub slots : List SlotState
  pub tests : new ≡ stage_after_look seq slots old
  pub right : (slot found : ℕ) (row : List ℕ) → new ≡ Valid slot found row → (found ≢ seq) × (length row ≡ 4) × IsRowOf (list_after config journal) row

-- a validated seat reads the words of its row
abbrev pub ReadsRow : Stage → ℕ → ℕ → ℕ → Type 0
ReadsRow Out slot field word = Unit {0}
ReadsRow (Holds place found) slot field word = Unit {0}
ReadsRow (Valid place found row) slot field word = place ≡ slot → (length row ≡ 4) × (word ≡ slice_index row field)
ReadsRow Gone slot field word = Unit {0}

-- add
abbrev pub add_tells : LockTells
add_tells step me found new = (slot : ℕ) → step.word ≡ mark_place slot → new ≡ (add_at me.0 slot (found / 256), me.1)

-- look
abbrev pub look_tells : LockTells
look_tells step me found new = (journal : List Entry) × (stage : Stage) × (new ≡ (look_at me.0 found journal stage, me.1))
    × Sees me.0 found journal × IsSettled me.0 × LooksAt me.0.config journal found me.0.stage stage

-- a word is read
abbrev pub field_tells : LockTells
field_tells step me found new = (slot field : ℕ) → field < 4 → step.word ≡ field_place slot field
    → (new ≡ (field_at me.0 found, me.1)) × ReadsRow me.0.stage slot field found × IsTraced me.0.config me.0.trace.added me.0.trace.valid me.0.stage

-- sub
abbrev pub sub_tells : LockTells
sub_tells step me found new = new ≡ (sub_at me.0, me.1)

-- begin
abbrev pub begin_tells : LockTells
begin_tells step me found new = (new ≡ (begin_at me.0, me.1)) × IsLegalJournal me.0.config me.0.seen
    × Exactly me.0.writer_state.slots (list_after me.0.config me.0.seen)

-- a mark, or a try that found readers
abbrev pub mark_tells : LockTells
mark_tells step me found new = (slot : ℕ) → step.word ≡ mark_place slot
    → (found ≡ step.first → new ≡ (mark_at me.0 slot found, me.1))
    × (found ≢ step.first → (step.first < found) × (found < step.first + 256) × (new ≡ (try_at me.0 slot found, me.1)))

-- store
abbrev pub store_tells : LockTells
store_tells step me found new = (slot field : ℕ) → field < 4 → step.word ≡ field_place slot field
    → (new ≡ (lock_store_at me.0 slot field step.first, me.1)) × (length (slot_at me.0.writer_state.slots slot).row ≡ 4)

-- end
abbrev pub end_tells : LockTells
end_tells step me found new = (entry : Entry) → step.said ≡ some entry → new ≡ (end_at me.0 entry, me.1)

-- a load by which a seat learns of the last join into it
abbrev pub join_tells : LockTells
join_tells step me found new = (new ≡ me) × IsSettled me.0
