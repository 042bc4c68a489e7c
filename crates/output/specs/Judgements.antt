-- Which texts are legal outputs of a trace, and which is the first bad line of another.
use Rattle.std.specs.Prelude.{ℕ, ◌≡◌, ◌<◌, ◌+◌, ◌⊎◌, List, [], ◌++◌, length, take, codes, decimal}
use Rattle.mm_types.specs.declared.config.Config.{Config}
use Rattle.trace_reader.specs.declared.trace.Trace.{Trace}
use Rattle.trace_reader.specs.declared.trace.TraceLine.{TraceLine}
use Rattle.area_rules.specs.Steps.{after}
use Rattle.history.specs.declared.items.Item.{Item}
use Rattle.history.specs.Histories.{journal_of, IsLegalHistory}
use Rattle.history.specs.Checking.{AreGood}
use Rattle.history.specs.Coming.{HasNoneLeft}
use Rattle.output.specs.Output.{item_text, told_by, maps_text, output_text}
use Rattle.output.specs.declared.judgement.Judgement.{Judgement}
use Rattle.output.specs.declared.judgement.Judgement.TheVariants.{Legal, Bad}
use Rattle.output.specs.TextLines.{text_lines}

-- behind some items stands the final list where no line is left, and else nothing
pub record IsEnding (config : Config) (lines : List TraceLine) (items : List Item) (ending : List ℕ) : Type 0 where
  pub ended : HasNoneLeft lines items → ending ≡ maps_text config.files (after config (journal_of items)).areas
  pub going_on : ¬ HasNoneLeft lines items → ending ≡ []

-- the text of some items, each with the line that it answers
abbrev pub items_text : Trace → List Item → List ℕ
items_text trace items = told_by (item_text trace.config.files) trace.lines [] items

-- a right text is that of items of which each can stand and is right, and of the final list where no line is left
pub record IsRightText (trace : Trace) (items : List Item) (text : List ℕ) : Type 0 where
  pub good : AreGood trace.config [] trace.lines items (length items)
  pub ending : List ℕ
  pub ends : IsEnding trace.config trace.lines items ending
  pub is : text ≡ items_text trace items ++ ending

-- the first so many lines of a text are those of a right text
pub record FitsSoFar (trace : Trace) (given : List ℕ) (count : ℕ) : Type 0 where
  pub items : List Item
  pub text : List ℕ
  pub right : IsRightText trace items text
  pub agree : take count (text_lines text) ≡ take count (text_lines given)

-- a text is legal where it is that of a history that is legal and of the trace
pub record IsLegalText (trace : Trace) (given : List ℕ) : Type 0 where
  pub items : List Item
  pub legal : IsLegalHistory trace.config [] trace.lines items
  pub is : given ≡ output_text trace.config trace.lines items

-- a text that is right as far as it goes, and is not legal, lacks the line behind its last
pub record TextEndsEarly (trace : Trace) (given : List ℕ) (line : ℕ) : Type 0 where
  pub fits : (count : ℕ) → FitsSoFar trace given count
  pub short : ¬ IsLegalText trace given
  pub behind : line ≡ length (text_lines given) + 1

-- the first bad line of a text: fewer lines are those of a right text, and so many are not, or the text ends early
pub record IsFirstBadOutputLine (trace : Trace) (given : List ℕ) (line : ℕ) : Type 0 where
  pub before : (count : ℕ) → count < line → FitsSoFar trace given count
  pub bad : (¬ FitsSoFar trace given line) ⊎ TextEndsEarly trace given line

-- a text is judged rightly
abbrev pub IsJudged : Trace → List ℕ → Judgement → Type 0
IsJudged trace given Legal = IsLegalText trace given
IsJudged trace given (Bad line) = IsFirstBadOutputLine trace given line

-- a judgement as a line of text
unfoldable pub judgement_text : Judgement → List ℕ
judgement_text Legal = codes "legal\n"
judgement_text (Bad line) = codes "bad " ++ (decimal line ++ codes "\n")
