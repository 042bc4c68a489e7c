-- A state of the lock protocol, as data.
use Rattle.std.specs.Prelude.{ℕ, ◌≡◌, Bool, false, nat_eq, List, [], ◌∷◌, length, take, slice_index_or, Option, Some, None}
use Rattle.mm_types.specs.declared.call.Entry.{Entry}
use Rattle.lock_core.specs.declared.stage.SlotState.{SlotState}
use Rattle.lock_core.specs.declared.stage.Stage.{Stage}
use Rattle.lock_core.specs.declared.stage.Stage.TheVariants.{Out, Holds, Valid, Gone}

-- a reader: where it stands, and the journal as it has seen it
pub record Reader : Type 0 where
  pub stage : Stage
  pub seen : List Entry

-- a state: the sequence, the slots, how many readers hold each, the readers, and the journal
pub record LockCore : Type 0 where
  pub seq : ℕ
  pub slots : List SlotState
  pub counts : List ℕ
  pub readers : List Reader
  pub journal : List Entry

-- the row of no area
abbrev pub detached_row : List ℕ
detached_row = 0 ∷ 0 ∷ 0 ∷ 0 ∷ []

-- a slot that was never marked
abbrev pub free_slot : SlotState
free_slot = record { lock_seq = 0; row = detached_row }

-- a slot by its number
abbrev pub slot_at : List SlotState → ℕ → SlotState
slot_at slots slot = slice_index_or slots slot free_slot

-- how many readers hold a slot
abbrev pub count_at : List ℕ → ℕ → ℕ
count_at counts slot = slice_index_or counts slot 0

-- a reader that is none: no number of a reader, or one that was joined away
abbrev pub gone_reader : Reader
gone_reader = record { stage = Gone; seen = [] }

-- a reader by its number
abbrev pub reader_at : List Reader → ℕ → Reader
reader_at readers reader = slice_index_or readers reader gone_reader

-- the slot that a reader holds, with the lock sequence that its add found there
abbrev pub slot_held : Stage → Option (ℕ × ℕ)
slot_held Out = None
slot_held (Holds slot found) = Some (slot, found)
slot_held (Valid slot found row) = Some (slot, found)
slot_held Gone = None

-- whether it is this slot that is held
abbrev pub is_slot : ℕ → Option (ℕ × ℕ) → Bool
is_slot slot (Some at) = nat_eq at.0 slot
is_slot slot None = false

-- whether a reader holds this slot
abbrev pub holds : ℕ → Reader → Bool
holds slot reader = is_slot slot (slot_held reader.stage)

-- the list begins with these entries
abbrev pub StartsWith : List Entry → List Entry → Type 0
StartsWith long short = take (length short) long ≡ short
