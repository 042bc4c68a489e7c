-- What contracts see of a table and of its seats.
use Rattle.std.specs.Prelude.{ℕ, ◌≡◌, ◌≤◌, ◌+◌, ◌/◌, ◌⊎◌, ◌%◌, Bool, true, false, if◌then◌else◌, nat_eq, List, length, Option, Some, None, IsSome}
use Rattle.std.specs.Arc.{arc_value}
use Rattle.mm_types.specs.declared.call.Entry.{Entry}
use Rattle.mm_types.specs.declared.config.Config.{Config}
use Rattle.lock_core.specs.declared.stage.SlotState.{SlotState}
use Rattle.lock_core.specs.declared.stage.Stage.{Stage}
use Rattle.lock_core.specs.declared.stage.Stage.TheVariants.{Out, Holds, Valid, Gone}
use Rattle.lock_core.specs.Core.{slot_held, slot_at, detached_row}
use Rattle.atomic_table.specs.Seated.{TableId}
use Rattle.vma_lock.specs.declared.view.View.{View}
use Rattle.vma_lock.specs.declared.seats.ReaderSeat.{ReaderSeat}
use Rattle.vma_lock.specs.declared.seats.NoteSeat.{NoteSeat}
use Rattle.vma_lock.specs.declared.seats.WriterSeat.{WriterSeat}
use Rattle.vma_lock.specs.declared.seats.VmaTable.{VmaTable}
use Rattle.vma_lock.specs.Views.{slot_count, look_at, lock_joined_at, returned_at}
use Rattle.vma_lock.specs.Plays.{LooksAt}

-- which table a handle is of
abbrev pub vma_table_id : VmaTable → TableId
vma_table_id table = (arc_value table.table).shared.table_id

-- the configuration that a table was made with
abbrev pub table_config : VmaTable → Config
table_config table = (arc_value table.table).shared.key

-- how many slots a table has
abbrev pub slots_of : VmaTable → ℕ
slots_of table = slot_count (table_config table)

-- the seat is of this table
abbrev pub IsOfVmaTable : ReaderSeat → VmaTable → Type 0
IsOfVmaTable seat table = seat.seat.table_id ≡ vma_table_id table

-- the note is of this table
abbrev pub IsNoteOf : NoteSeat → VmaTable → Type 0
IsNoteOf note table = note.seat.table_id ≡ vma_table_id table

-- what a note knows
abbrev pub told : NoteSeat → View
told note = note.seat.me.0

-- the writer is of this table
abbrev pub WritesVmaTable : WriterSeat → VmaTable → Type 0
WritesVmaTable writer table = writer.seat.table_id ≡ vma_table_id table

-- what a reader knows
abbrev pub lock_view : ReaderSeat → View
lock_view seat = seat.seat.me.0

-- the journal as a reader has seen it
abbrev pub seen : ReaderSeat → List Entry
seen seat = (lock_view seat).seen

-- where a reader stands
abbrev pub stage : ReaderSeat → Stage
stage seat = (lock_view seat).stage

-- a seat has its caller's turn
abbrev pub HasTurn : ReaderSeat → Type 0
HasTurn seat = (lock_view seat).turn ≡ Some (lock_view seat).caller

-- what the writer knows
abbrev pub lock_sight : WriterSeat → View
lock_sight writer = writer.seat.me.0

-- the journal
abbrev pub journal : WriterSeat → List Entry
journal writer = (lock_sight writer).seen

-- the slots as the writer knows them
abbrev pub slots : WriterSeat → List SlotState
slots writer = (lock_sight writer).writer_state.slots

-- a call is open
abbrev pub HasOpenCall : WriterSeat → Type 0
HasOpenCall writer = (lock_sight writer).writer_state.seq % 2 ≡ 1

-- no call is open
abbrev pub HasNoOpenCall : WriterSeat → Type 0
HasNoOpenCall writer = (lock_sight writer).writer_state.seq % 2 ≡ 0

-- the slot is marked in the open call
abbrev pub IsMarked : WriterSeat → ℕ → Type 0
IsMarked writer slot = (slot_at (slots writer) slot).lock_seq ≡ (lock_sight writer).writer_state.seq

-- a reader holds a slot
abbrev pub HoldsSlot : Stage → Type 0
HoldsSlot stage = IsSome (slot_held stage)

-- whether a look since the add found another sequence
abbrev pub is_validated : Stage → Bool
is_validated Out = false
is_validated (Holds slot found) = false
is_validated (Valid slot found row) = true
is_validated Gone = false

-- the words of the row that a validated reader holds
abbrev pub row_of : Stage → List ℕ
row_of Out = detached_row
row_of (Holds slot found) = detached_row
row_of (Valid slot found row) = row
row_of Gone = detached_row

-- an entry may be made: it is of the caller whose turn the writer has, or of no reader
abbrev pub MayEnter : Entry → Option ℕ → Type 0
MayEnter entry turn = (turn ≡ Some entry.caller) ⊎ (64 ≤ entry.caller)

-- whether it is this caller's turn
abbrev pub is_turn_of : ℕ → Option ℕ → Bool
is_turn_of caller None = false
is_turn_of caller (Some other) = nat_eq other caller

-- the turn that a reader has after a meeting: its own again, if the writer had it
abbrev pub met_turn : View → View → Option ℕ
met_turn writer reader = if is_turn_of reader.caller writer.turn then writer.turn else reader.turn

-- the turn that the writer has after a meeting
abbrev pub kept_turn : View → View → Option ℕ
kept_turn writer reader = if is_turn_of reader.caller writer.turn then None else writer.turn

-- a reader after the writer told it what it has seen, and gave its turn back if it had it
abbrev pub greeted_at : View → View → View
greeted_at reader writer = if is_turn_of reader.caller writer.turn then returned_at reader writer else lock_joined_at reader writer

-- A meeting is a look that sees the writer's journal: what it found, and where the reader stands then.
abbrev pub Meets : View → List Entry → Option ℕ → View → Type 0
Meets old journal turn new = (found : ℕ) × (found / 2 ≡ length journal + 1) × LooksAt old.config journal found old.stage new.stage
    × (new ≡ record (look_at old found journal new.stage) { turn = turn })
