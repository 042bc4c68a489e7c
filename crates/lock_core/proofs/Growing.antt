-- For `step`: how much longer the journal and the list of readers may be after an event.
use Rattle.std.proofs.Common.{◌≤◌, ◌+◌, length, ap, arith}
use Rattle.std.proofs.lemmas.List.{length-set, length_push}
use Rattle.mm_types.specs.declared.config.Config.{Config}
use Rattle.lock_core.specs.declared.events.LockAnswer.{LockAnswer}
use Rattle.lock_core.specs.declared.events.LockEvent.{LockEvent}
use Rattle.lock_core.specs.declared.events.LockEvent.TheVariants.{Add, Look, Field, Sub, Begin, Mark, Store, End, Split, Join}
use Rattle.lock_core.specs.declared.events.StepRefusal.{StepRefusal}
use Rattle.lock_core.specs.declared.stage.Stage.TheVariants.{Out}
use Rattle.lock_core.specs.Core.{LockCore, Reader, reader_at}
use Rattle.lock_core.specs.Events.{after_lock_event, entry_after}
use Rattle.lock_core.specs.States.{Lock, IsLockStepDone, IsLockStepRefused}

-- an event makes at most one reader
pub readers_grow : (config : Config) (core : LockCore) (event : LockEvent) → length (after_lock_event config core event).readers ≤ length core.readers + 1
readers_grow config core (Add reader slot) = omega (arith, length-set {A = Reader})
readers_grow config core (Look reader) = omega (arith, length-set {A = Reader})
readers_grow config core (Field reader field) = omega arith
readers_grow config core (Sub reader) = omega (arith, length-set {A = Reader})
readers_grow config core Begin = omega arith
readers_grow config core (Mark slot) = omega arith
readers_grow config core (Store slot field word) = omega arith
readers_grow config core (End caller call) = omega arith
readers_grow config core (Split reader) = omega (arith, length_push core.readers (record { stage = Out; seen = (reader_at core.readers reader).seen }))
readers_grow config core (Join first second) = omega (arith, length-set {A = Reader})

-- and at most one entry
pub journal_grows : (config : Config) (core : LockCore) (event : LockEvent) → length (after_lock_event config core event).journal ≤ length core.journal + 1
journal_grows config core (Add reader slot) = omega arith
journal_grows config core (Look reader) = omega arith
journal_grows config core (Field reader field) = omega arith
journal_grows config core (Sub reader) = omega arith
journal_grows config core Begin = omega arith
journal_grows config core (Mark slot) = omega arith
journal_grows config core (Store slot field word) = omega arith
journal_grows config core (End caller call) = omega (arith, length_push core.journal (entry_after config core.journal caller call))
journal_grows config core (Split reader) = omega arith
journal_grows config core (Join first second) = omega arith

-- so a state has at most one reader more after an event
pub done_grows : (lock : Lock) (event : LockEvent) (new : Lock) (found : LockAnswer) → IsLockStepDone lock event new found
    → length new.core.readers ≤ length lock.core.readers + 1
done_grows lock event new found done =
    omega (arith, readers_grow lock.config lock.core event, ap (λ (l : Lock). length l.core.readers) done.1)

pub refused_grows : (lock : Lock) (event : LockEvent) (new : Lock) (reason : StepRefusal) → IsLockStepRefused lock event new reason
    → length new.core.readers ≤ length lock.core.readers + 1
refused_grows lock event new reason refused = omega (arith, ap (λ (l : Lock). length l.core.readers) refused.0)
