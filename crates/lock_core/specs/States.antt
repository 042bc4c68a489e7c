-- A state with its configuration, as contracts see it, and what an event may result in.
use Rattle.std.specs.Prelude.{ℕ, ◌≡◌, ◌<◌, ◌%◌, ◌^◌, ◌⊎◌, Bool, true, false, not, nat_eq, [], length, replicate, Some, None, Result, MatchResult}
use Rattle.mm_types.specs.declared.config.Config.{Config}
use Rattle.lock_core.specs.declared.events.LockAnswer.{LockAnswer}
use Rattle.lock_core.specs.declared.events.LockEvent.{LockEvent}
use Rattle.lock_core.specs.declared.events.LockEvent.TheVariants.{Field, Store, End, Split}
use Rattle.lock_core.specs.declared.events.StepRefusal.{StepRefusal}
use Rattle.lock_core.specs.declared.events.StepRefusal.TheVariants.{NoMemory}
use Rattle.lock_core.specs.declared.stage.Stage.TheVariants.{Out}
use Rattle.lock_core.specs.Core.{LockCore, free_slot}
use Rattle.lock_core.specs.Events.{after_lock_event, lock_answer}
use Rattle.lock_core.specs.Refusals.{lacks_reader, lock_refusal}

-- a state with the configuration of its address space
pub record Lock : Type 0 where
  pub config : Config
  pub core : LockCore

-- The state before anything happened: sequence 2, so many slots that were never marked and so many readers that hold
-- nothing, and an empty journal.
abbrev pub opening_core : ℕ → ℕ → LockCore
opening_core readers slots = record {
  seq = 2;
  slots = replicate slots free_slot;
  counts = replicate slots 0;
  readers = replicate readers (record { stage = Out; seen = [] });
  journal = [];
}

-- the state after an event that is not refused
abbrev pub after_step : Lock → LockEvent → Lock
after_step lock event = record lock { core = after_lock_event lock.config lock.core event }

-- the field that an event names is one of the four of a row
abbrev pub NamesField : LockEvent → Type 0
NamesField (Field reader field) = field < 4
NamesField (Store slot field word) = field < 4
NamesField _ = Unit {0}

-- whether an event may find no memory: an end where a call is open, and a split of a reader that there is
abbrev pub may_lack_memory : LockCore → LockEvent → Bool
may_lack_memory core (End caller call) = nat_eq (core.seq % 2) 1
may_lack_memory core (Split reader) = not (lacks_reader core reader)
may_lack_memory core _ = false

-- the event is not refused, and this is the state after it and what it finds
abbrev pub IsLockStepDone : Lock → LockEvent → Lock → LockAnswer → Type 0
IsLockStepDone lock event new found = (lock_refusal lock.config lock.core event ≡ None) × (new ≡ after_step lock event) × (found ≡ lock_answer lock.core event)

-- The event is refused for this reason, and the state is as it was. Or it found no memory, which an end in an open call and a split
-- of a reader may, an end also where its rows do not show the list.
abbrev pub IsLockStepRefused : Lock → LockEvent → Lock → StepRefusal → Type 0
IsLockStepRefused lock event new reason = (new ≡ lock)
    × ((lock_refusal lock.config lock.core event ≡ Some reason) ⊎ ((may_lack_memory lock.core event ≡ true) × (reason ≡ NoMemory)))

-- the outcome of a change of a state
abbrev pub IsLockStep : Lock → LockEvent → Result LockAnswer StepRefusal → Lock → Type 0
IsLockStep lock event result new = MatchResult result (IsLockStepDone lock event new) (IsLockStepRefused lock event new)

-- there is room for an entry and a reader more
pub record HasRoom (lock : Lock) : Type 0 where
  pub entries : length lock.core.journal < 2 ^ 31
  pub readers : length lock.core.readers < 2 ^ 31
