-- What the structs of a table and of its seats keep.
use Rattle.std.specs.Prelude.{ℕ, ◌≡◌, ◌≤◌, ◌+◌, ◌-◌, ◌*◌, ◌/◌, ◌^◌, min, List, [], length, map, Option, Some}
use Rattle.mm_types.specs.declared.call.Entry.{Entry}
use Rattle.mm_types.specs.declared.config.Config.{Config}
use Rattle.lock_core.specs.declared.stage.SlotState.{SlotState}
use Rattle.lock_core.specs.declared.stage.Stage.TheVariants.{Out}
use Rattle.lock_core.specs.Core.{slot_held}
use Rattle.atomic_table.specs.Table.{Me}
use Rattle.vma_lock.specs.declared.view.SeatKind.TheVariants.{Reads, Writes, Note}
use Rattle.vma_lock.specs.declared.view.View.{View}
use Rattle.vma_lock.specs.Views.{slot_count}

-- a table has a line of words for the sequence and for each slot of its configuration
pub record IsVmaTableSized (config : Config) (words : ℕ) : Type 0 where
  pub words_are : words ≡ (slot_count config + 1) * 8
  pub few : config.areas ≤ 65530

-- what a reader's seat knows beside its view
pub record LockReaderKept (caller slot words : ℕ) (me : Me Entry View) : Type 0 where
  pub kind : me.0.kind ≡ Reads
  pub empty : me.1 ≡ []
  pub caller_is : me.0.caller ≡ caller
  pub slot_is : (at : ℕ × ℕ) → slot_held me.0.stage ≡ Some at → at.0 ≡ slot
  pub within : (slot + 2) * 8 ≤ words

-- what a reader's seat counts: its looks, up to the greatest number of 64 bits, and the entries that it has seen
pub record ReaderCounts (looks version : ℕ) (me : Me Entry View) : Type 0 where
  pub looks_are : looks ≡ min me.0.trace.looks (2 ^ 64 - 1)
  pub version_is : version ≡ length me.0.seen

-- what a note keeps: it is one, holds nothing, and counts the entries that it has seen
pub record NoteKept (version : ℕ) (me : Me Entry View) : Type 0 where
  pub kind : me.0.kind ≡ Note
  pub empty : me.1 ≡ []
  pub stage : me.0.stage ≡ Out
  pub version_is : version ≡ length me.0.seen

-- the mark word of a slot that no reader holds
abbrev pub free_mark : SlotState → ℕ
free_mark slot = slot.lock_seq * 256

-- what the writer's seat knows beside its view
pub record LockWriterKept (config : Config) (seq : ℕ) (marks : List ℕ) (turn : Option ℕ) (words : ℕ) (me : Me Entry View) : Type 0 where
  pub kind : me.0.kind ≡ Writes
  pub settings : me.0.config ≡ config
  pub empty : me.1 ≡ []
  pub seq_is : me.0.writer_state.seq ≡ seq
  pub marks_are : marks ≡ map free_mark me.0.writer_state.slots
  pub turn_is : me.0.turn ≡ turn
  pub sized : words ≡ (length marks + 1) * 8
  pub counted : seq / 2 ≡ length me.0.seen + 1
  pub room : seq ≤ 2 ^ 32 + 2
