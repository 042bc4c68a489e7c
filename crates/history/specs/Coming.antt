-- How far the callers of a trace are after some items of a history, and which line can come next.
use Rattle.std.specs.Prelude.{ℕ, ◌≡◌, ◌<◌, ◌≤◌, if◌then◌else◌, List, [], length, slice_index, All, Option, Some, None, IfSome}
use Rattle.std.specs.List.{last_or}
use Rattle.trace_reader.specs.declared.trace.TraceLine.{TraceLine}
use Rattle.history.specs.declared.items.Item.{Item}
use Rattle.history.specs.Histories.{items_of, lines_of, caller_of, journal_of, is_call, StandsAmong}
use Rattle.history.specs.Checking.{next_line}

-- what contracts see of a `Progress`: the lines, how many of each caller are answered, how many items are calls, and the lowest caller that
-- may read next
pub record ProgressView : Type 0 where
  pub lines : List TraceLine
  pub answered : List ℕ
  pub version : ℕ
  pub lowest : ℕ

-- the lowest caller that may read after an item: after a read its caller, and else 0
abbrev pub lowest_after : Option Item → ℕ
lowest_after None = 0
lowest_after (Some prior) = if is_call prior.content then 0 else prior.caller

-- the callers of these lines are as far as some items say, each of which is of a caller and answers one of its lines
pub record IsProgress (lines : List TraceLine) (before : List Item) (progress : ProgressView) : Type 0 where
  pub its_lines : progress.lines ≡ lines
  pub no_lines : (caller : ℕ) → length progress.answered ≤ caller → lines_of lines caller ≡ []
  pub answered : (caller : ℕ) → caller < length progress.answered → slice_index progress.answered caller ≡ length (items_of before caller)
  pub version : progress.version ≡ length (journal_of before)
  pub lowest : progress.lowest ≡ lowest_after (last_or None before)
  pub few : (caller : ℕ) → length (items_of before caller) ≤ length (lines_of lines caller)
  pub callers : All (λ item. item.caller < length progress.answered) before

-- the line of a number is the next of its caller, and the line that it names is answered
pub record IsToCome (lines : List TraceLine) (before : List Item) (number : ℕ) (line : TraceLine) (caller : ℕ) : Type 0 where
  pub next : next_line lines before caller ≡ Some line
  pub numbered : line.number ≡ number
  pub owned : caller ≡ caller_of lines line.thread
  pub told : IfSome line.after (StandsAmong lines before)

-- no line of this number can come next
abbrev pub NoneIsToCome : List TraceLine → List Item → ℕ → Type 0
NoneIsToCome lines before number = (line : TraceLine) (caller : ℕ) → IsToCome lines before number line caller → ⊥

-- no caller has a line left
abbrev pub HasNoneLeft : List TraceLine → List Item → Type 0
HasNoneLeft lines items = (caller : ℕ) → length (items_of items caller) ≡ length (lines_of lines caller)
