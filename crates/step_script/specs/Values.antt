-- What holds of every script that was read.
use Rattle.std.specs.Prelude.{ℕ, ◌≡◌, ◌≢◌, ◌≤◌, ◌<◌, [], length, All, Option, IfSome}
use Rattle.grace_core.specs.declared.events.GraceEvent.{GraceEvent}
use Rattle.grace_core.specs.declared.events.GraceEvent.TheVariants as grace
use Rattle.grace_core.specs.Core.{GraceCore}
use Rattle.grace_core.specs.States.{HasReader}
use Rattle.lock_core.specs.declared.events.LockEvent.{LockEvent}
use Rattle.lock_core.specs.declared.events.LockEvent.TheVariants as lock
use Rattle.step_script.specs.declared.lines.Said.{Said}
use Rattle.step_script.specs.declared.lines.Said.TheVariants as said
use Rattle.step_script.specs.declared.script.CoreScript.{CoreScript}
use Rattle.step_script.specs.declared.script.Counts.{Counts}
use Rattle.step_script.specs.declared.script.Script.{Script}
use Rattle.step_script.specs.declared.script.Script.TheVariants.{Lock, Grace}
use Rattle.step_script.specs.declared.script.TheConstants.{MOST_PARTS}

-- an event names readers, slots and fields that there are, and no reader comes or goes
abbrev pub IsLockEvent : ℕ → ℕ → LockEvent → Type 0
IsLockEvent readers slots (lock.Add reader slot) = (reader < readers) × (slot.0 < slots)
IsLockEvent readers slots (lock.Look reader) = reader < readers
IsLockEvent readers slots (lock.Field reader field) = (reader < readers) × (field < 4)
IsLockEvent readers slots (lock.Sub reader) = reader < readers
IsLockEvent readers slots lock.Begin = Unit {0}
IsLockEvent readers slots (lock.Mark slot) = slot.0 < slots
IsLockEvent readers slots (lock.Store slot field word) = (slot.0 < slots) × (field < 4)
IsLockEvent readers slots (lock.End caller call) = Unit {0}
IsLockEvent readers slots (lock.Split reader) = ⊥
IsLockEvent readers slots (lock.Join first second) = ⊥

-- an event names readers and rows that there are, a publish lists one or more rows, and no reader comes or goes
abbrev pub IsGraceEvent : ℕ → ℕ → GraceEvent → Type 0
IsGraceEvent readers rows (grace.Open reader) = reader < readers
IsGraceEvent readers rows (grace.Root reader) = reader < readers
IsGraceEvent readers rows (grace.Word reader row) = (reader < readers) × (row.0 < rows)
IsGraceEvent readers rows (grace.Close reader) = reader < readers
IsGraceEvent readers rows (grace.Fill row word) = row.0 < rows
IsGraceEvent readers rows (grace.Publish tree listed) = (listed ≢ []) × All (λ row. row.0 < rows) listed
IsGraceEvent readers rows (grace.Scan reader) = reader < readers
IsGraceEvent readers rows (grace.Split reader) = ⊥
IsGraceEvent readers rows (grace.Join first second) = ⊥

-- the counts that the line which names a core may have
pub record AreCounts (counts : Counts) : Type 0 where
  pub some_readers : 0 < counts.readers
  pub few_readers : counts.readers ≤ MOST_PARTS
  pub some_parts : 0 < counts.parts
  pub few_parts : counts.parts ≤ MOST_PARTS

-- a script of one core: 1 to 8 readers and slots or rows, fewer lines than this number, and events of these
pub record IsCoreScript {E : Type 0} (IsEvent : ℕ → ℕ → E → Type 0) (limit : ℕ) (script : CoreScript E) : Type 0 where
  pub some_readers : 0 < script.readers
  pub few_readers : script.readers ≤ MOST_PARTS
  pub some_parts : 0 < script.parts
  pub few_parts : script.parts ≤ MOST_PARTS
  pub few_lines : length script.lines < limit
  pub events : All (λ line. IsEvent script.readers script.parts line.event) script.lines

-- a script of the lock core
abbrev pub IsLockScript : ℕ → CoreScript LockEvent → Type 0
IsLockScript limit script = IsCoreScript IsLockEvent limit script

-- a script of the grace core
abbrev pub IsGraceScript : ℕ → CoreScript GraceEvent → Type 0
IsGraceScript limit script = IsCoreScript IsGraceEvent limit script

-- a script of either core, with fewer lines than this number
abbrev pub IsScript : ℕ → Script → Type 0
IsScript limit (Lock script) = IsLockScript limit script
IsScript limit (Grace script) = IsGraceScript limit script

-- a script so far is such a script, once a line named its core
abbrev pub IsSoFar : ℕ → Option Script → Type 0
IsSoFar limit script = IfSome script (IsScript limit)

-- a line says this to a script so far with fewer lines than this number
abbrev pub IsSaid : ℕ → Said → Type 0
IsSaid limit (said.Nothing script) = IsSoFar limit script
IsSaid limit (said.Core script) = IsScript 1 script
IsSaid limit (said.Lock script event) = IsLockScript limit script × IsLockEvent script.readers script.parts event
IsSaid limit (said.Grace script event) = IsGraceScript limit script × IsGraceEvent script.readers script.parts event

-- a state of the grace core that has exactly these readers and rows, none of the readers joined away
pub record IsGraceState (readers rows : ℕ) (core : GraceCore) : Type 0 where
  pub pins : length core.pins ≡ readers
  pub few : readers ≤ MOST_PARTS
  pub exist : (reader : ℕ) → reader < readers → HasReader core reader
  pub words : length core.writer_state.words ≡ rows
