-- A small address space of at most one area, which lies in slot 0, as the tests have it.
use Rattle.std.specs.Prelude.{ℕ, ◌≡◌, ◌≢◌, ◌%◌, ◌⊎◌, true, false, List, [], ◌∷◌, slice_get, Some, None}
use Rattle.mm_types.specs.declared.area.Record.{Record}
use Rattle.mm_types.specs.declared.call.Counters.{Counters}
use Rattle.mm_types.specs.Packed.{packed}
use Rattle.area_rules.specs.Tables.{space_of}
use Rattle.area_rules.specs.Steps.{after}
use Rattle.lock_core.specs.declared.stage.SlotState.{SlotState}
use Rattle.lock_core.specs.declared.stage.Stage.TheVariants.{Out}
use Rattle.lock_core.specs.Core.{slot_at}
use Rattle.lock_core.specs.Rows.{is_detached}
use Rattle.vma_lock.specs.declared.view.View.{View}
use Rattle.vma_lock.specs.declared.seats.ReaderSeat.{ReaderSeat}
use Rattle.vma_lock.specs.declared.seats.WriterSeat.{WriterSeat}
use Rattle.vma_lock.specs.Seats.{stage, HasTurn}

-- the slots but the first are detached
abbrev pub AreOthersDetached : List SlotState → Type 0
AreOthersDetached slots = (slot : ℕ) → slot ≢ 0 → is_detached (slot_at slots slot).row ≡ true

-- The writer between two calls: it has no turn, the list and the counters are those after the journal, and all
-- slots but the first are detached.
pub record IsBetweenCalls (view : View) (list : List Record) (counters : Counters) : Type 0 where
  pub closed : view.writer_state.seq % 2 ≡ 0
  pub turn : view.turn ≡ None
  pub space : after view.config view.seen ≡ space_of list counters
  pub free : AreOthersDetached view.writer_state.slots

-- a row shows a list of at most one area
abbrev pub ShowsOneArea : List Record → List ℕ → Type 0
ShowsOneArea list row = ((list ≡ []) × (is_detached row ≡ true))
    ⊎ ((area : Record) × (list ≡ area ∷ []) × (packed area ≡ row) × (is_detached row ≡ false))

-- the slot is marked, and nothing else changed but what the writer knows of its tries
pub record MarksSlot (old new : View) : Type 0 where
  pub config : new.config ≡ old.config
  pub seen : new.seen ≡ old.seen
  pub turn : new.turn ≡ old.turn
  pub writer_state : new.writer_state ≡ old.writer_state

-- the reader is of the writer's table, holds no slot, and has its turn
pub record IsIdleBeside (seat : ReaderSeat) (writer : WriterSeat) : Type 0 where
  pub same : seat.seat.table_id ≡ writer.seat.table_id
  pub out : stage seat ≡ Out
  pub turn : HasTurn seat

-- so is each of these readers
abbrev pub AreIdleBeside : List ReaderSeat → WriterSeat → Type 0
AreIdleBeside seats writer = (at : ℕ) (seat : ReaderSeat) → slice_get seats at ≡ Some seat → IsIdleBeside seat writer
