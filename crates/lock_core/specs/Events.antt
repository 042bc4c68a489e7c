-- What each event of the lock protocol does to a state, and what it finds.
use Rattle.std.specs.Prelude.{ℕ, ◌+◌, ◌-◌, ◌/◌, if◌then◌else◌, nat_eq, nat_lt, List, [], ◌∷◌, ◌++◌, length, slice_index, slice_set, unwrap_or, Option, Some, None}
use Rattle.mm_types.specs.declared.call.Call.{Call}
use Rattle.mm_types.specs.declared.call.Entry.{Entry}
use Rattle.mm_types.specs.declared.config.Config.{Config}
use Rattle.area_rules.specs.Steps.{step, after}
use Rattle.lock_core.specs.declared.events.LockAnswer.{LockAnswer}
use Rattle.lock_core.specs.declared.events.LockAnswer.TheVariants.{Found, Marked, Version, Word, Made, Done}
use Rattle.lock_core.specs.declared.events.LockEvent.{LockEvent}
use Rattle.lock_core.specs.declared.events.LockEvent.TheVariants.{Add, Look, Field, Sub, Begin, Mark, Store, End, Split, Join}
use Rattle.lock_core.specs.declared.stage.SlotState.{SlotState}
use Rattle.lock_core.specs.declared.stage.Stage.{Stage}
use Rattle.lock_core.specs.declared.stage.Stage.TheVariants.{Out, Holds, Valid, Gone}
use Rattle.lock_core.specs.Core.{LockCore, Reader, gone_reader, slot_at, count_at, reader_at, slot_held}

-- the state with this reader in place of the one of this number
abbrev pub with_reader : LockCore → ℕ → Reader → LockCore
with_reader core reader changed = record core { readers = slice_set core.readers reader changed }

-- the state with this slot in place of the one of this number
abbrev pub with_slot : LockCore → ℕ → SlotState → LockCore
with_slot core slot changed = record core { slots = slice_set core.slots slot changed }

-- the state in which so many readers hold a slot
abbrev pub with_count : LockCore → ℕ → ℕ → LockCore
with_count core slot count = record core { counts = slice_set core.counts slot count }

-- where a reader stands after a look: it is validated where it holds a slot in which its add found another sequence
abbrev pub stage_after_look : ℕ → List SlotState → Stage → Stage
stage_after_look seq slots Out = Out
stage_after_look seq slots (Holds slot found) = if nat_eq found seq then Holds slot found else Valid slot found (slot_at slots slot).row
stage_after_look seq slots (Valid slot found row) = Valid slot found row
stage_after_look seq slots Gone = Gone

-- of two beginnings of one journal, the longer
abbrev pub longer : List Entry → List Entry → List Entry
longer first second = if nat_lt (length first) (length second) then second else first

-- add: one reader more holds the slot, whose lock sequence the reader finds
abbrev pub after_add : LockCore → ℕ → ℕ → LockCore
after_add core reader slot = with_reader (with_count core slot (count_at core.counts slot + 1)) reader
    (record (reader_at core.readers reader) { stage = Holds slot (slot_at core.slots slot).lock_seq })

-- look: the reader has seen the whole journal
abbrev pub after_look : LockCore → ℕ → LockCore
after_look core reader = with_reader core reader
    (record { stage = stage_after_look core.seq core.slots (reader_at core.readers reader).stage; seen = core.journal })

-- the slot that a reader holds; 0 where it holds none
abbrev pub held_slot : LockCore → ℕ → ℕ
held_slot core reader = (unwrap_or (slot_held (reader_at core.readers reader).stage) (0, 0)).0

-- sub: one reader fewer holds the slot, and the reader holds nothing
abbrev pub after_sub : LockCore → ℕ → LockCore
after_sub core reader = with_reader (with_count core (held_slot core reader) (count_at core.counts (held_slot core reader) - 1)) reader
    (record (reader_at core.readers reader) { stage = Out })

-- begin: the sequence becomes odd
abbrev pub after_begin : LockCore → LockCore
after_begin core = record core { seq = core.seq + 1 }

-- mark: the slot's lock sequence becomes the sequence
abbrev pub after_mark : LockCore → ℕ → LockCore
after_mark core slot = with_slot core slot (record (slot_at core.slots slot) { lock_seq = core.seq })

-- store: a word of the slot's row changes
abbrev pub after_store : LockCore → ℕ → ℕ → ℕ → LockCore
after_store core slot field word = with_slot core slot
    (record (slot_at core.slots slot) { row = slice_set (slot_at core.slots slot).row field word })

-- end: the sequence becomes even, and the journal has one entry more
abbrev pub after_end : LockCore → Entry → LockCore
after_end core entry = record core { seq = core.seq + 1; journal = core.journal ++ entry ∷ [] }

-- split: a new reader, which holds nothing and has seen what this one has
abbrev pub after_lock_split : LockCore → ℕ → LockCore
after_lock_split core reader = record core { readers = core.readers ++ record { stage = Out; seen = (reader_at core.readers reader).seen } ∷ [] }

-- join: the first reader has seen the longer of both lists, and the second is gone
abbrev pub after_lock_join : LockCore → ℕ → ℕ → LockCore
after_lock_join core first second = with_reader (with_reader core first (record (reader_at core.readers first) {
  seen = longer (reader_at core.readers first).seen (reader_at core.readers second).seen;
})) second gone_reader

-- the entry of a call after a journal, with the reply of the step
abbrev pub entry_after : Config → List Entry → ℕ → Call → Entry
entry_after config journal caller call = record { caller = caller; call = call; reply = (step config (after config journal) call).reply }

-- the state after an event that is not refused
abbrev pub after_lock_event : Config → LockCore → LockEvent → LockCore
after_lock_event config core (Add reader slot) = after_add core reader slot.0
after_lock_event config core (Look reader) = after_look core reader
after_lock_event config core (Field reader field) = core
after_lock_event config core (Sub reader) = after_sub core reader
after_lock_event config core Begin = after_begin core
after_lock_event config core (Mark slot) = after_mark core slot.0
after_lock_event config core (Store slot field word) = after_store core slot.0 field word
after_lock_event config core (End caller call) = after_end core (entry_after config core.journal caller call)
after_lock_event config core (Split reader) = after_lock_split core reader
after_lock_event config core (Join first second) = after_lock_join core first second

-- the version of a sequence: how many entries the journal has
abbrev pub version_of_sequence : ℕ → ℕ
version_of_sequence seq = seq / 2 - 1

-- what a look finds: that its slot is marked still, as when it was added, or the version
abbrev pub look_answer : ℕ → Option (ℕ × ℕ) → LockAnswer
look_answer seq None = Version seq (version_of_sequence seq)
look_answer seq (Some at) = if nat_eq at.1 seq then Marked seq else Version seq (version_of_sequence seq)

-- what an event finds that is not refused
abbrev pub lock_answer : LockCore → LockEvent → LockAnswer
lock_answer core (Add reader slot) = Found (slot_at core.slots slot.0).lock_seq
lock_answer core (Look reader) = look_answer core.seq (slot_held (reader_at core.readers reader).stage)
lock_answer core (Field reader field) = Word (slice_index (slot_at core.slots (held_slot core reader)).row field)
lock_answer core (Sub reader) = Done
lock_answer core Begin = Done
lock_answer core (Mark slot) = Done
lock_answer core (Store slot field word) = Done
lock_answer core (End caller call) = Done
lock_answer core (Split reader) = Made (length core.readers)
lock_answer core (Join first second) = Done
