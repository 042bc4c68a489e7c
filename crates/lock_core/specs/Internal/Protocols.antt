-- A state as the fields of its struct have it.
use Rattle.std.specs.Prelude.{ℕ, ◌≤◌, List, length, map, take, slice_index_or}
use Rattle.mm_types.specs.declared.call.Entry.{Entry}
use Rattle.lock_core.specs.declared.protocol.LockProtocol.TheInside.{Inside}
use Rattle.lock_core.specs.declared.protocol.ReaderState.{ReaderState}
use Rattle.lock_core.specs.declared.stage.Stage.TheVariants.{Gone}
use Rattle.lock_core.specs.Core.{LockCore, Reader}

-- a reader that has seen so many entries of the journal
abbrev pub reader_that_saw : List Entry → ReaderState → Reader
reader_that_saw journal reader = record { stage = reader.stage; seen = take reader.seen journal }

-- the state that the fields of the struct are
abbrev pub lock_core_of : Inside → LockCore
lock_core_of state = record {
  seq = state.seq;
  slots = state.slots.items;
  counts = state.counts.items;
  readers = map (reader_that_saw state.journal.items) state.readers.items;
  journal = state.journal.items;
}

-- no reader has seen more entries than there are
abbrev pub AreSeen : Inside → Type 0
AreSeen state = (reader : ℕ) → (slice_index_or state.readers.items reader (record { stage = Gone; seen = 0 })).seen ≤ length state.journal.items
