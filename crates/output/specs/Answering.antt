-- How far the lines of a trace are answered.
use Rattle.std.specs.Prelude.{ℕ, ◌≡◌, ◌<◌, List, length, slice_index, Some}
use Rattle.trace_reader.specs.declared.trace.TraceLine.{TraceLine}
use Rattle.history.specs.CallerPlaces.{ArePlaces}
use Rattle.history.specs.Histories.{items_of, line_answered}
use Rattle.history.specs.declared.items.Item.{Item}
use Rattle.output.specs.declared.answered.AnsweredLines.{AnsweredLines}

-- of these lines so many of each caller are answered as items of it stand before
pub record AreAnswered (lines : List TraceLine) (before : List Item) (state : AnsweredLines) : Type 0 where
  pub its_lines : state.lines.now ≡ lines
  pub places : ArePlaces lines (length state.answered.items) state.places.items
  pub counts : (caller : ℕ) → caller < length state.answered.items → slice_index state.answered.items caller ≡ length (items_of before caller)

-- behind some items an item answers a line
abbrev pub AnswersNext : AnsweredLines → Item → Type 0
AnswersNext state item = (lines : List TraceLine) × (before : List Item) × AreAnswered lines before state
    × (line : TraceLine) × (line_answered lines before item ≡ Some line)
