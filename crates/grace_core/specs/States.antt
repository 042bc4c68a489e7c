-- The state at first, and what an event may result in.
use Rattle.std.specs.Prelude.{ℕ, ◌≡◌, ◌≢◌, ◌<◌, ◌⊎◌, Bool, true, false, [], ◌∷◌, length, replicate, All, Some, None, Result, MatchResult}
use Rattle.grace_core.specs.declared.events.GraceAnswer.{GraceAnswer}
use Rattle.grace_core.specs.declared.events.GraceEvent.{GraceEvent}
use Rattle.grace_core.specs.declared.events.GraceEvent.TheVariants.{Open, Root, Word, Close, Fill, Publish, Scan, Split, Join}
use Rattle.grace_core.specs.declared.events.GraceRefusal.{GraceRefusal}
use Rattle.grace_core.specs.declared.events.GraceRefusal.TheVariants.{NoMemory}
use Rattle.grace_core.specs.Core.{GraceCore, WriterState, pin_at, is_open, Exists}
use Rattle.grace_core.specs.Steps.{new_clearing}
use Rattle.grace_core.specs.Events.{after_grace_event, grace_answer}
use Rattle.grace_core.specs.Refusals.{grace_refusal}

-- The writer's state before anything happened: tree 0 of row 0 alone, every word 0, no row left out by any tree, and no reader scanned.
abbrev pub opening_writer_state : ℕ → ℕ → WriterState
opening_writer_state readers rows = record {
  width = 1;
  tree = record { number = 0; rows = 0 ∷ []; words = replicate rows (0 ∷ []) };
  words = replicate rows (0 ∷ []);
  since = replicate rows 0;
  clearings = replicate readers new_clearing;
  passed = 0;
}

-- the state before anything happened: so many readers that are closed, and so many rows
abbrev pub grace_opening : ℕ → ℕ → GraceCore
grace_opening readers rows = record { writer_state = opening_writer_state readers rows; pins = replicate readers 0; snapshots = replicate readers None }

-- a reader exists
abbrev pub HasReader : GraceCore → ℕ → Type 0
HasReader core reader = Exists core.writer_state.clearings reader

-- a row exists
abbrev pub HasRow : GraceCore → ℕ → Type 0
HasRow core row = row < length core.writer_state.words

-- two readers can be joined: both exist, differ and are closed
pub record CanJoin (core : GraceCore) (first second : ℕ) : Type 0 where
  pub first_exists : HasReader core first
  pub second_exists : HasReader core second
  pub differ : first ≢ second
  pub first_closed : is_open (pin_at core.pins first) ≡ false
  pub second_closed : is_open (pin_at core.pins second) ≡ false

-- The readers and rows that an event names exist. A publish lists a row, and a join has two closed readers.
abbrev pub IsPossible : GraceCore → GraceEvent → Type 0
IsPossible core (Open reader) = HasReader core reader
IsPossible core (Root reader) = HasReader core reader
IsPossible core (Word reader row) = HasReader core reader × HasRow core row.0
IsPossible core (Close reader) = HasReader core reader
IsPossible core (Fill row word) = HasRow core row.0
IsPossible core (Publish number rows) = (rows ≢ []) × All (λ row. HasRow core row.0) rows
IsPossible core (Scan reader) = HasReader core reader
IsPossible core (Split reader) = HasReader core reader
IsPossible core (Join first second) = CanJoin core first second

-- whether an event takes memory: for a snapshot, a tree or a reader
abbrev pub takes_memory : GraceEvent → Bool
takes_memory (Root reader) = true
takes_memory (Publish number rows) = true
takes_memory (Split reader) = true
takes_memory _ = false

-- the event is not refused, and this is the state after it and what it finds
abbrev pub IsGraceStepDone : GraceCore → GraceEvent → GraceCore → GraceAnswer → Type 0
IsGraceStepDone core event new found = (grace_refusal core event ≡ None) × (new ≡ after_grace_event core event) × (found ≡ grace_answer core event)

-- The event is refused for this reason, and the state is as it was. Where nothing else refuses an event that takes memory, it may find none.
abbrev pub IsGraceStepRefused : GraceCore → GraceEvent → GraceCore → GraceRefusal → Type 0
IsGraceStepRefused core event new reason = (new ≡ core)
    × ((grace_refusal core event ≡ Some reason) ⊎ ((grace_refusal core event ≡ None) × (takes_memory event ≡ true) × (reason ≡ NoMemory)))

-- the outcome of a change of a state
abbrev pub IsGraceStep : GraceCore → GraceEvent → Result GraceAnswer GraceRefusal → GraceCore → Type 0
IsGraceStep core event result new = MatchResult result (IsGraceStepDone core event new) (IsGraceStepRefused core event new)
