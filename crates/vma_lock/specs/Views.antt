-- What a seat knows, and what each step makes of it.
use Rattle.std.specs.Prelude.{ℕ, ◌+◌, Bool, if◌then◌else◌, nat_eq, List, [], ◌∷◌, ◌++◌, slice_index, slice_index_or, slice_set, replicate, is_some, Option, Some, None}
use Rattle.mm_types.specs.declared.call.Entry.{Entry}
use Rattle.mm_types.specs.declared.config.Config.{Config}
use Rattle.mm_types.specs.Config.{slots_for}
use Rattle.lock_core.specs.declared.stage.SlotState.{SlotState}
use Rattle.lock_core.specs.declared.stage.Stage.{Stage}
use Rattle.lock_core.specs.declared.stage.Stage.TheVariants.{Out, Holds, Gone}
use Rattle.lock_core.specs.Core.{Reader, slot_at, free_slot, slot_held}
use Rattle.lock_core.specs.Events.{longer}
use Rattle.vma_lock.specs.declared.view.LockWriterState.{LockWriterState}
use Rattle.vma_lock.specs.declared.view.SeatKind.{SeatKind}
use Rattle.vma_lock.specs.declared.view.SeatKind.TheVariants.{Reads, Writes, Note, Spent}
use Rattle.vma_lock.specs.declared.view.SeenAt.{SeenAt}
use Rattle.vma_lock.specs.declared.view.Trace.{Trace}
use Rattle.vma_lock.specs.declared.view.View.{View}

-- how many slots a table has: enough for the areas of a call's list before and after it
abbrev pub slot_count : Config → ℕ
slot_count config = slots_for config.areas

-- the reader of the protocol that a seat is
abbrev pub reader_of : View → Reader
reader_of view = record { stage = view.stage; seen = view.seen }

-- no step was made
abbrev pub new_trace : Trace
new_trace = record {
  looks = 0;
  adds = 0;
  fields = 0;
  tries = 0;
  added = None;
  first = None;
  valid = None;
  words = record { first = 0; second = 0; third = 0; fourth = 0 };
  tried = None;
}

-- what a seat knows of the table that is not the writer's
abbrev pub no_writer_state : LockWriterState
no_writer_state = record { seq = 0; slots = []; made = 0 }

-- a configuration of no table
abbrev pub no_config : Config
no_config = record { min = 0; top = 0; limit = 0; areas = 0; files = []; heap = 0 }

-- a seat that was joined into another
abbrev pub spent_lock_view : View
spent_lock_view = record {
  config = no_config;
  kind = Spent;
  stage = Gone;
  seen = [];
  caller = 0;
  turn = None;
  before = [];
  joined = [];
  own = [];
  writer_state = no_writer_state;
  trace = new_trace;
}

-- a seat by its number
abbrev pub lock_view_at : List View → ℕ → View
lock_view_at views seat = slice_index_or views seat spent_lock_view

-- the writer of a new table, after so many readers were made
abbrev pub opened_lock_view : Config → ℕ → View
opened_lock_view config made = record {
  config = config;
  kind = Writes;
  stage = Out;
  seen = [];
  caller = 0;
  turn = None;
  before = [];
  joined = [];
  own = [];
  writer_state = record { seq = 2; slots = replicate (slot_count config) free_slot; made = made };
  trace = new_trace;
}

-- a seat split from another: it holds nothing, has seen what the other has, and is of this kind, with this turn
abbrev pub split_view : View → SeatKind → ℕ → Option ℕ → View
split_view view kind caller turn = record {
  config = view.config;
  kind = kind;
  stage = Out;
  seen = view.seen;
  caller = caller;
  turn = turn;
  before = view.seen;
  joined = view.seen;
  own = view.seen;
  writer_state = no_writer_state;
  trace = new_trace;
}

-- a new reader, which has its turn
abbrev pub new_lock_reader : View → View
new_lock_reader view = split_view view Reads view.writer_state.made (Some view.writer_state.made)

-- the writer after it made a reader
abbrev pub after_lock_reader : View → View
after_lock_reader view = record view { writer_state = record view.writer_state { made = view.writer_state.made + 1 } }

-- a seat that gave its turn away
abbrev pub without_turn : View → View
without_turn view = record view { turn = None }

-- a note of what a seat has seen
abbrev pub note_view : View → View
note_view view = split_view view Note view.caller None

-- the same, with the seat's turn
abbrev pub turn_note : View → View
turn_note view = split_view view Note view.caller view.turn

-- the first of two looks
abbrev pub or_first : Option SeenAt → SeenAt → Option SeenAt
or_first (Some at) later = Some at
or_first None later = Some later

-- the first look that found another sequence than the add found
abbrev pub or_valid : Option (ℕ × ℕ) → Option SeenAt → SeenAt → Option SeenAt
or_valid None first later = first
or_valid (Some at) first later = if nat_eq at.1 later.seq then first else or_first first later

-- add
abbrev pub add_at : View → ℕ → ℕ → View
add_at view slot found = record view {
  stage = Holds slot found;
  trace = record view.trace { adds = view.trace.adds + 1; added = Some (slot, found); first = None; valid = None };
}

-- whether a seat that stands there holds a slot
abbrev pub holds_slot : Stage → Bool
holds_slot stage = is_some (slot_held stage)

-- look
abbrev pub look_at : View → ℕ → List Entry → Stage → View
look_at view found journal stage = record view {
  stage = stage;
  seen = journal;
  before = journal;
  joined = journal;
  own = journal;
  trace = record view.trace {
    looks = view.trace.looks + 1;
    first = or_first view.trace.first (record { seq = found; seen = journal; held = holds_slot view.stage });
    valid = or_valid view.trace.added view.trace.valid (record { seq = found; seen = journal; held = holds_slot view.stage });
  };
}

-- a word was read
abbrev pub field_at : View → ℕ → View
field_at view word = record view {
  trace = record view.trace {
    fields = view.trace.fields + 1;
    words = record { first = view.trace.words.second; second = view.trace.words.third; third = view.trace.words.fourth; fourth = word };
  };
}

-- four words were read, one after another
abbrev pub read_at : View → List ℕ → View
read_at view row = record view {
  trace = record view.trace {
    fields = view.trace.fields + 4;
    words = record { first = slice_index row 0; second = slice_index row 1; third = slice_index row 2; fourth = slice_index row 3 };
  };
}

-- sub
abbrev pub sub_at : View → View
sub_at view = record view { stage = Out }

-- begin
abbrev pub begin_at : View → View
begin_at view = record view { writer_state = record view.writer_state { seq = view.writer_state.seq + 1 } }

-- a try to mark a slot that found this mark word
abbrev pub try_at : View → ℕ → ℕ → View
try_at view slot found = record view { trace = record view.trace { tries = view.trace.tries + 1; tried = Some (slot, found) } }

-- the writer with another slot of a number
abbrev pub lock_with_slot : View → ℕ → SlotState → View
lock_with_slot view slot changed = record view { writer_state = record view.writer_state { slots = slice_set view.writer_state.slots slot changed } }

-- mark: the try succeeded
abbrev pub mark_at : View → ℕ → ℕ → View
mark_at view slot found = lock_with_slot (try_at view slot found) slot (record (slot_at view.writer_state.slots slot) { lock_seq = view.writer_state.seq })

-- store
abbrev pub lock_store_at : View → ℕ → ℕ → ℕ → View
lock_store_at view slot field word = lock_with_slot view slot
    (record (slot_at view.writer_state.slots slot) { row = slice_set (slot_at view.writer_state.slots slot).row field word })

-- four stores: the row has these words
abbrev pub write_at : View → ℕ → List ℕ → View
write_at view slot row = lock_with_slot view slot (record (slot_at view.writer_state.slots slot) { row = row })

-- end
abbrev pub end_at : View → Entry → View
end_at view entry = record view {
  seen = view.seen ++ entry ∷ [];
  before = view.seen ++ entry ∷ [];
  joined = view.seen ++ entry ∷ [];
  own = view.seen ++ entry ∷ [];
  writer_state = record view.writer_state { seq = view.writer_state.seq + 1 };
}

-- the writer after a turn was lent to it, with a note
abbrev pub lent_at : View → View → View
lent_at view note = record view { turn = note.turn; joined = note.seen; own = note.seen }

-- the writer after a note was joined into it
abbrev pub heard_at : View → View → View
heard_at view note = record view { joined = note.seen }

-- a reader after another seat was joined into it
abbrev pub lock_joined_at : View → View → View
lock_joined_at view other = record view {
  seen = longer view.seen other.seen;
  before = view.seen;
  joined = other.seen;
  own = view.seen;
}

-- the same, with the other's turn
abbrev pub returned_at : View → View → View
returned_at view other = record view {
  seen = longer view.seen other.seen;
  turn = other.turn;
  before = view.seen;
  joined = other.seen;
  own = other.seen;
}
