-- The text of a run of the grace core: a line for each event, with what it results in and the state after it.
use Rattle.std.specs.Prelude.{ℕ, false, List, [], ◌∷◌, ◌++◌, length, codes, decimal, Option, Some, None, Result, Ok, Err}
use Rattle.std.specs.Fmt.{digits}
use Rattle.grace_core.specs.declared.events.GraceAnswer.{GraceAnswer}
use Rattle.grace_core.specs.declared.events.GraceAnswer.TheVariants as answers
use Rattle.grace_core.specs.declared.events.GraceEvent.{GraceEvent}
use Rattle.grace_core.specs.declared.events.GraceRefusal.{GraceRefusal}
use Rattle.grace_core.specs.declared.events.GraceRefusal.TheVariants as refusals
use Rattle.grace_core.specs.Core.{GraceCore, root_of, pin_at, is_free_row, waits}
use Rattle.grace_core.specs.Events.{after_grace_event, grace_answer}
use Rattle.grace_core.specs.Refusals.{grace_refusal}
use Rattle.grace_core.specs.States.{grace_opening}
use Rattle.step_script.specs.declared.script.EventLine.{EventLine}
use Rattle.step_script.specs.declared.script.CoreScript.{CoreScript}
use Rattle.step_script.specs.Texts.{event_outcome, state_after, texts_below, numbers_text, event_start, refusal_text}

-- what an event results in
abbrev pub grace_outcome : GraceCore → GraceEvent → Result GraceAnswer GraceRefusal
grace_outcome core event = event_outcome (grace_refusal core event) (grace_answer core event)

-- the state after an event
abbrev pub grace_after : GraceCore → GraceEvent → GraceCore
grace_after core event = state_after (grace_refusal core event) core (after_grace_event core event)

-- what an event finds. No script makes a reader.
unfoldable pub grace_answer_text : GraceAnswer → List ℕ
grace_answer_text (answers.Tree tree row) = codes "tree " ++ (decimal tree ++ (codes " row " ++ decimal row.0))
grace_answer_text (answers.Word word) = codes "word 0x" ++ digits 16 false word
grace_answer_text (answers.Pin pin) = codes "pin " ++ decimal pin
grace_answer_text (answers.Made reader) = codes "made " ++ decimal reader
grace_answer_text answers.Done = codes "ok"

-- why an event is refused: the number of the reason and its name
unfoldable pub grace_reason_name : GraceRefusal → List ℕ
grace_reason_name refusals.NotOpen = codes "1 NotOpen"
grace_reason_name (refusals.RowNotFree row) = codes "2 RowNotFree"
grace_reason_name (refusals.RowNotShown row) = codes "3 RowNotShown"
grace_reason_name (refusals.WrongTree tree) = codes "4 WrongTree"
grace_reason_name refusals.AlreadyOpen = codes "5 AlreadyOpen"
grace_reason_name refusals.NoMemory = codes "6 NoMemory"

-- the value of a reason, where it has one
abbrev pub grace_reason_value : GraceRefusal → Option ℕ
grace_reason_value (refusals.RowNotFree row) = Some row.0
grace_reason_value (refusals.RowNotShown row) = Some row.0
grace_reason_value (refusals.WrongTree tree) = Some tree
grace_reason_value _ = None

-- what an event results in
unfoldable pub grace_outcome_text : Result GraceAnswer GraceRefusal → List ℕ
grace_outcome_text (Ok found) = grace_answer_text found
grace_outcome_text (Err reason) = refusal_text (grace_reason_name reason) (grace_reason_value reason)

-- the present tree: ` | T <number> root <row>`
unfoldable pub tree_text : GraceCore → List ℕ
tree_text core = codes " | T " ++ (decimal core.writer_state.tree.number ++ (codes " root " ++ decimal (root_of core.writer_state.tree)))

-- a reader: ` <reader>:<pin>`
unfoldable pub reader_text : GraceCore → ℕ → List ℕ
reader_text core reader = codes " " ++ (decimal reader ++ (codes ":" ++ decimal (pin_at core.pins reader)))

-- the pin of each reader, after ` P`
unfoldable pub pins_text : GraceCore → List ℕ
pins_text core = codes " P" ++ texts_below (length core.pins) (reader_text core)

-- the rows that are free, after ` free`, and those that wait, after ` wait`, both in ascending order
unfoldable pub rows_text : GraceCore → List ℕ
rows_text core = codes " free" ++ numbers_text (length core.writer_state.words) (is_free_row core.writer_state)
    ++ codes " wait" ++ numbers_text (length core.writer_state.words) (waits core.writer_state)

-- a state: the present tree, the pins and the rows
unfoldable pub grace_state_text : GraceCore → List ℕ
grace_state_text core = tree_text core ++ pins_text core ++ rows_text core

-- the line of an event, which begins in this state
unfoldable pub grace_line_text : GraceCore → EventLine GraceEvent → List ℕ
grace_line_text core line = event_start line.number ++ grace_outcome_text (grace_outcome core line.event)
    ++ grace_state_text (grace_after core line.event) ++ codes "\n"

-- the lines of events, the first of which begins in this state
abbrev pub grace_lines_text : GraceCore → List (EventLine GraceEvent) → List ℕ
grace_lines_text core [] = []
grace_lines_text core (line ∷ lines) = grace_line_text core line ++ grace_lines_text (grace_after core line.event) lines

-- the text of a script of the grace core
abbrev pub grace_text : CoreScript GraceEvent → List ℕ
grace_text script = grace_lines_text (grace_opening script.readers script.parts) script.lines
