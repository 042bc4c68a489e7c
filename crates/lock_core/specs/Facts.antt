-- What every state of the lock protocol keeps.
use Rattle.std.specs.Prelude.{ℕ, ◌≡◌, ◌≢◌, ◌≤◌, ◌<◌, ◌+◌, ◌/◌, ◌%◌, List, length, count_by, IfSome}
use Rattle.mm_types.specs.declared.area.Record.{Record}
use Rattle.mm_types.specs.declared.call.Entry.{Entry}
use Rattle.mm_types.specs.declared.config.Config.{Config}
use Rattle.area_rules.specs.Steps.{after, IsLegalJournal}
use Rattle.lock_core.specs.declared.stage.SlotState.{SlotState}
use Rattle.lock_core.specs.declared.stage.Stage.{Stage}
use Rattle.lock_core.specs.declared.stage.Stage.TheVariants.{Out, Holds, Valid, Gone}
use Rattle.lock_core.specs.Core.{LockCore, Reader, slot_at, count_at, reader_at, slot_held, holds, StartsWith}
use Rattle.lock_core.specs.Rows.{Within, Exactly}

-- the list of areas after a journal
abbrev pub list_after : Config → List Entry → List Record
list_after config journal = (after config journal).areas

-- The sequence is 2 and twice the length of the journal, or one more while a call is open: half of it, rounded down, is 1
-- and that length. Each lock sequence is 0 or an odd number, and at most the sequence.
pub record SequenceFact (seq : ℕ) (slots : List SlotState) (journal : List Entry) : Type 0 where
  pub counts : seq / 2 ≡ length journal + 1
  pub below : (slot : ℕ) → (slot_at slots slot).lock_seq ≤ seq
  pub odd : (slot : ℕ) → 0 < (slot_at slots slot).lock_seq → (slot_at slots slot).lock_seq % 2 ≡ 1

-- A slot's count is the number of readers that hold it. What a reader holds is a slot, whose lock sequence is still the
-- one that the reader's add found.
pub record HoldersFact (slots : List SlotState) (counts : List ℕ) (readers : List Reader) : Type 0 where
  pub each_slot : length counts ≡ length slots
  pub counted : (slot : ℕ) → count_at counts slot ≡ count_by (holds slot) readers
  pub found : (reader : ℕ) → IfSome (slot_held (reader_at readers reader).stage)
      (λ at. (at.0 < length slots) × ((slot_at slots at.0).lock_seq ≡ at.1))

-- The journal is legal. The attached rows of slots that are not marked show areas of the list after the journal, no two the
-- same, and while no call is open the attached rows show exactly that list.
pub record RowsFact (config : Config) (seq : ℕ) (slots : List SlotState) (journal : List Entry) : Type 0 where
  pub legal : IsLegalJournal config journal
  pub wide : (slot : ℕ) → length (slot_at slots slot).row ≡ 4
  pub within : Within seq slots (list_after config journal)
  pub exact : seq % 2 ≡ 0 → Exactly slots (list_after config journal)

-- a validated reader's slot is not marked, and its row has the words that it had when the reader was validated
abbrev pub StaysValid : ℕ → List SlotState → Stage → Type 0
StaysValid seq slots (Valid slot found row) = ((slot_at slots slot).lock_seq ≢ seq) × ((slot_at slots slot).row ≡ row)
StaysValid seq slots Out = Unit {0}
StaysValid seq slots (Holds slot found) = Unit {0}
StaysValid seq slots Gone = Unit {0}

-- this is so of each reader
abbrev pub ValidationFact : ℕ → List SlotState → List Reader → Type 0
ValidationFact seq slots readers = (reader : ℕ) → StaysValid seq slots (reader_at readers reader).stage

-- what each reader has seen is a beginning of the journal
abbrev pub SeenFact : List Reader → List Entry → Type 0
SeenFact readers journal = (reader : ℕ) → StartsWith journal (reader_at readers reader).seen

-- the five facts of a state
pub record LockFacts (config : Config) (core : LockCore) : Type 0 where
  pub sequence : SequenceFact core.seq core.slots core.journal
  pub holders : HoldersFact core.slots core.counts core.readers
  pub rows : RowsFact config core.seq core.slots core.journal
  pub validation : ValidationFact core.seq core.slots core.readers
  pub seen : SeenFact core.readers core.journal
