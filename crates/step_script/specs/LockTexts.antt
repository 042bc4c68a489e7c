-- The text of a run of the lock core: a line for each event, with what it results in and the state after it.
use Rattle.std.specs.Prelude.{ℕ, false, List, [], ◌∷◌, ◌++◌, length, codes, decimal, Option, Some, None, Result, Ok, Err}
use Rattle.std.specs.Fmt.{digits}
use Rattle.mm_types.specs.Config.{default_config}
use Rattle.lock_core.specs.declared.events.LockAnswer.{LockAnswer}
use Rattle.lock_core.specs.declared.events.LockAnswer.TheVariants as answers
use Rattle.lock_core.specs.declared.events.LockEvent.{LockEvent}
use Rattle.lock_core.specs.declared.events.StepRefusal.{StepRefusal}
use Rattle.lock_core.specs.declared.events.StepRefusal.TheVariants as refusals
use Rattle.lock_core.specs.Core.{LockCore, slot_at, count_at}
use Rattle.lock_core.specs.Events.{lock_answer}
use Rattle.lock_core.specs.Refusals.{lock_refusal}
use Rattle.lock_core.specs.States.{Lock, opening_core, after_step}
use Rattle.step_script.specs.declared.script.EventLine.{EventLine}
use Rattle.step_script.specs.declared.script.CoreScript.{CoreScript}
use Rattle.step_script.specs.Texts.{event_outcome, state_after, texts_below, event_start, refusal_text}

-- what an event results in
abbrev pub lock_outcome : Lock → LockEvent → Result LockAnswer StepRefusal
lock_outcome lock event = event_outcome (lock_refusal lock.config lock.core event) (lock_answer lock.core event)

-- the state after an event
abbrev pub lock_after : Lock → LockEvent → Lock
lock_after lock event = state_after (lock_refusal lock.config lock.core event) lock (after_step lock event)

-- what an event finds. No script makes a reader.
unfoldable pub lock_answer_text : LockAnswer → List ℕ
lock_answer_text (answers.Found lock_seq) = codes "found " ++ decimal lock_seq
lock_answer_text (answers.Marked seq) = codes "seq " ++ (decimal seq ++ codes " marked")
lock_answer_text (answers.Version seq version) = codes "seq " ++ (decimal seq ++ (codes " version " ++ decimal version))
lock_answer_text (answers.Word word) = codes "word 0x" ++ digits 16 false word
lock_answer_text (answers.Made reader) = codes "made " ++ decimal reader
lock_answer_text answers.Done = codes "ok"

-- why an event is refused: the number of the reason and its name
unfoldable pub lock_reason_name : StepRefusal → List ℕ
lock_reason_name refusals.NotOpen = codes "1 NotOpen"
lock_reason_name (refusals.ReadersLeft count) = codes "2 ReadersLeft"
lock_reason_name refusals.NotMarked = codes "3 NotMarked"
lock_reason_name refusals.NotHeld = codes "4 NotHeld"
lock_reason_name refusals.NoSlot = codes "5 NoSlot"
lock_reason_name refusals.AlreadyOpen = codes "6 AlreadyOpen"
lock_reason_name refusals.AlreadyHeld = codes "7 AlreadyHeld"
lock_reason_name (refusals.NotTheList place) = codes "8 NotTheList"
lock_reason_name refusals.NoMemory = codes "9 NoMemory"

-- the value of a reason, where it has one
abbrev pub lock_reason_value : StepRefusal → Option ℕ
lock_reason_value (refusals.ReadersLeft count) = Some count
lock_reason_value (refusals.NotTheList place) = Some place
lock_reason_value _ = None

-- what an event results in
unfoldable pub lock_outcome_text : Result LockAnswer StepRefusal → List ℕ
lock_outcome_text (Ok found) = lock_answer_text found
lock_outcome_text (Err reason) = refusal_text (lock_reason_name reason) (lock_reason_value reason)

-- a slot: ` <slot>:<lock sequence>/<count of readers>`
unfoldable pub slot_text : LockCore → ℕ → List ℕ
slot_text core slot = codes " " ++ (decimal slot ++ (codes ":" ++ (decimal (slot_at core.slots slot).lock_seq
    ++ (codes "/" ++ decimal (count_at core.counts slot)))))

-- a state: ` | S <sequence> M` and each slot
unfoldable pub lock_state_text : LockCore → List ℕ
lock_state_text core = codes " | S " ++ (decimal core.seq ++ codes " M") ++ texts_below (length core.slots) (slot_text core)

-- the line of an event, which begins in this state
unfoldable pub lock_line_text : Lock → EventLine LockEvent → List ℕ
lock_line_text lock line = event_start line.number ++ lock_outcome_text (lock_outcome lock line.event)
    ++ lock_state_text (lock_after lock line.event).core ++ codes "\n"

-- the lines of events, the first of which begins in this state
abbrev pub lock_lines_text : Lock → List (EventLine LockEvent) → List ℕ
lock_lines_text lock [] = []
lock_lines_text lock (line ∷ lines) = lock_line_text lock line ++ lock_lines_text (lock_after lock line.event) lines

-- the state before the first event: the default configuration without files, and so many readers and slots
abbrev pub lock_opening : CoreScript LockEvent → Lock
lock_opening script = record { config = default_config []; core = opening_core script.readers script.parts }

-- the text of a script of the lock core
abbrev pub lock_text : CoreScript LockEvent → List ℕ
lock_text script = lock_lines_text (lock_opening script) script.lines
