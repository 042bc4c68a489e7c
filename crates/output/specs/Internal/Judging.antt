-- What a walk over a text keeps from item to item.
use Rattle.std.specs.Prelude.{ℕ, ◌≡◌, ◌<◌, ◌≤◌, ◌+◌, ◌-◌, ◌^◌, ◌==◌, List, [], ◌++◌, length, take, codes, Some, IfSome, Result, Ok, Err, if◌then◌else◌}
use Rattle.mm_types.specs.declared.config.Config.{Config}
use Rattle.mm_types.specs.declared.memory.NoMemory.{NoMemory}
use Rattle.mm_types.specs.Config.{IsValidConfig}
use Rattle.text_lexer.specs.Numbers.{decimal_of}
use Rattle.trace_reader.specs.declared.trace.Trace.{Trace}
use Rattle.trace_reader.specs.declared.trace.TraceLine.{TraceLine}
use Rattle.area_rules.specs.Steps.{after}
use Rattle.history.specs.declared.items.Item.{Item}
use Rattle.history.specs.Histories.{caller_of, journal_of, line_answered, StandsAmong}
use Rattle.history.specs.Checking.{AreGood, IsGood, next_line}
use Rattle.history.specs.Coming.{IsProgress, HasNoneLeft}
use Rattle.history.specs.SpaceLines.{AreSpaceLines}
use Rattle.output.specs.Output.{item_start}
use Rattle.output.specs.declared.given.Given.{Given}
use Rattle.output.specs.declared.judgement.Judgement.{Judgement}
use Rattle.output.specs.declared.judgement.Judgement.TheVariants.{Legal, Bad}
use Rattle.output.specs.declared.judging.Walk.{Walk}
use Rattle.output.specs.declared.stop.Stop.{Stop}
use Rattle.output.specs.declared.stop.Stop.TheVariants as stops
use Rattle.output.specs.TextLines.{text_lines}
use Rattle.output.specs.Judgements.{items_text, IsRightText, IsFirstBadOutputLine}

-- a text was compared up to the end of these bytes, which are whole lines
pub record HasRead (text before : List ℕ) (given : Given) : Type 0 where
  pub is : text ≡ before ++ given.rest.now
  pub whole : (rest : List ℕ) → text_lines (before ++ rest) ≡ text_lines before ++ text_lines rest
  pub counted : given.line ≡ length (text_lines before)

-- a text differs at a line, and not before, from each that begins with these bytes
pub record Differs (text wanted : List ℕ) (line : ℕ) : Type 0 where
  pub before : (count : ℕ) (rest : List ℕ) → count < line → take count (text_lines (wanted ++ rest)) ≡ take count (text_lines text)
  pub here : (rest : List ℕ) → take line (text_lines (wanted ++ rest)) ≡ take line (text_lines text) → ⊥

-- a line where a text differs was told, or memory ran out
abbrev pub IsBadAt : List ℕ → List ℕ → Stop → Type 0
IsBadAt text wanted (stops.Bad line) = Differs text wanted line
IsBadAt text wanted stops.NoMemory = Unit {0}

-- the lines that were compared and the bytes that are left are no more than they were
abbrev pub Shrinks : Given → Given → Type 0
Shrinks old new = new.line + length new.rest.now ≤ old.line + length old.rest.now

-- what is told of a text whose last lines were compared: what was told of these, and else whether it ends behind them
abbrev pub end_told : Given → Result (Unit {0}) Stop → Result (Unit {0}) Stop
end_told given (Ok done) = if length given.rest.now == 0 then Ok done else Err (stops.Bad (given.line + 1))
end_told given (Err stop) = Err stop

-- a trace of these lines in this configuration
abbrev pub trace_over : Config → List TraceLine → Trace
trace_over config lines = record { config = config; lines = lines }

-- A walk over the lines of one space has compared the text of some good items, and each right text that agrees up to here begins with these items.
pub record IsTextWalked (trace : Trace) (text : List ℕ) (walk : Walk) : Type 0 where
  pub valid : IsValidConfig trace.config
  pub kept : AreSpaceLines trace.lines
  pub items : List Item
  pub good : AreGood trace.config [] trace.lines items (length items)
  pub progress : IsProgress trace.lines items walk.progress
  pub opened : walk.space.config ≡ trace.config
  pub space : walk.space.space ≡ after trace.config (journal_of items)
  pub objects : walk.space.space.objects ≤ length trace.config.files + walk.progress.version
  pub read : HasRead text (items_text trace items) walk.given
  pub room : walk.given.line + length walk.given.rest.now < 2 ^ 64 - 1
  pub forced : (others : List Item) (right : List ℕ) → IsRightText trace others right
      → take walk.given.line (text_lines right) ≡ take walk.given.line (text_lines text) → (more : List Item) × (others ≡ items ++ more)

-- whatever items were compared, a line is left
abbrev pub IsLineLeft : List TraceLine → Walk → Type 0
IsLineLeft lines walk = (items : List Item) → IsProgress lines items walk.progress → HasNoneLeft lines items → ⊥

-- or none is
abbrev pub IsEnded : List TraceLine → Walk → Type 0
IsEnded lines walk = (items : List Item) → IsProgress lines items walk.progress → HasNoneLeft lines items

-- a text begins with `L`, the digits of a number, and a space
pub record TellsNumber (text : List ℕ) (number : ℕ) : Type 0 where
  pub digits : List ℕ
  pub behind : List ℕ
  pub begins : text ≡ codes "L" ++ (digits ++ (codes " " ++ behind))
  pub is : decimal_of digits ≡ Some number

-- a text tells the line of an item that is good next
pub record TellsGoodItem (trace : Trace) (before : List Item) (rest : List ℕ) : Type 0 where
  pub line : TraceLine
  pub item : Item
  pub number : TellsNumber rest line.number
  pub answers : line_answered trace.lines before item ≡ Some line
  pub good : IsGood trace.config [] trace.lines before item

-- a line can come next, and the text goes on as its item begins
pub record Begins (lines : List TraceLine) (before : List Item) (rest : List ℕ) (line : TraceLine) (caller : ℕ) : Type 0 where
  pub next : next_line lines before caller ≡ Some line
  pub owned : caller ≡ caller_of lines line.thread
  pub told : IfSome line.after (StandsAmong lines before)
  pub version : ℕ
  pub behind : List ℕ
  pub begins : rest ≡ item_start line version ++ behind

-- no line can come next, as the text tells
abbrev pub NoneComes : List TraceLine → List Item → List ℕ → Type 0
NoneComes lines before rest = (line : TraceLine) (caller : ℕ) → Begins lines before rest line caller → ⊥

-- a line can come next, and no other, as the text tells
pub record TheOneComes (lines : List TraceLine) (before : List Item) (rest : List ℕ) (line : TraceLine) (caller : ℕ) : Type 0 where
  pub next : next_line lines before caller ≡ Some line
  pub owned : caller ≡ caller_of lines line.thread
  pub told : IfSome line.after (StandsAmong lines before)
  pub number : TellsNumber rest line.number
  pub tells : (other : TraceLine) (teller : ℕ) → Begins lines before rest other teller → other.number ≡ line.number

-- the first bad line was told, or memory ran out
abbrev pub IsStopRight : Trace → List ℕ → Stop → Type 0
IsStopRight trace text (stops.Bad line) = IsFirstBadOutputLine trace text line
IsStopRight trace text stops.NoMemory = Unit {0}

-- what is judged of a text that was walked over
abbrev pub judgement_of : Result (Unit {0}) Stop → Result Judgement NoMemory
judgement_of (Ok done) = Ok Legal
judgement_of (Err (stops.Bad line)) = Ok (Bad line)
judgement_of (Err stops.NoMemory) = Err (record {})
