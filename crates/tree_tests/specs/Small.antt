-- An address space of at most one area, which lies in slot 0.
use Rattle.std.specs.Prelude.{ℕ, ◌≡◌, ◌≢◌, ◌%◌, ◌⊎◌, true, false, List, [], ◌∷◌, None}
use Rattle.mm_types.specs.declared.area.Record.{Record}
use Rattle.mm_types.specs.declared.call.Counters.{Counters}
use Rattle.mm_types.specs.Packed.{packed}
use Rattle.area_rules.specs.Tables.{space_of}
use Rattle.area_rules.specs.Steps.{after}
use Rattle.lock_core.specs.declared.stage.SlotState.{SlotState}
use Rattle.lock_core.specs.Core.{slot_at}
use Rattle.lock_core.specs.Rows.{is_detached}
use Rattle.vma_lock.specs.declared.view.View.{View}

-- the slots but the first are detached
abbrev pub AreFree : List SlotState → Type 0
AreFree slots = (slot : ℕ) → slot ≢ 0 → is_detached (slot_at slots slot).row ≡ true

-- The writer between two calls: it has no turn, the list and the counters are those after the journal, and all
-- slots but the first are detached.
pub record IsWriterResting (view : View) (list : List Record) (counters : Counters) : Type 0 where
  pub closed : view.writer_state.seq % 2 ≡ 0
  pub turn : view.turn ≡ None
  pub space : after view.config view.seen ≡ space_of list counters
  pub free : AreFree view.writer_state.slots

-- a row shows a list of at most one area
abbrev pub ShowsOne : List Record → List ℕ → Type 0
ShowsOne list row = ((list ≡ []) × (is_detached row ≡ true))
    ⊎ ((area : Record) × (list ≡ area ∷ []) × (packed area ≡ row) × (is_detached row ≡ false))

-- the slot is marked, and nothing else changed but what the writer knows of its tries
pub record IsMarking (old new : View) : Type 0 where
  pub config : new.config ≡ old.config
  pub seen : new.seen ≡ old.seen
  pub turn : new.turn ≡ old.turn
  pub writer_state : new.writer_state ≡ old.writer_state
