-- What `check` answers of a history: the first item that is bad, and what was expected there.
use Rattle.std.specs.Prelude.{ℕ, ◌≡◌, ◌≢◌, ◌<◌, ◌+◌, ◌⊎◌, List, ◌++◌, length, take, slice_get, Option, Some, None}
use Rattle.mm_types.specs.declared.call.Entry.{Entry}
use Rattle.mm_types.specs.declared.config.Config.{Config}
use Rattle.trace_reader.specs.declared.trace.TraceLine.{TraceLine}
use Rattle.area_rules.specs.Tables.{AddressSpace}
use Rattle.area_rules.specs.Steps.{after}
use Rattle.history.specs.declared.answers.Answer.{Answer}
use Rattle.history.specs.declared.answers.Answer.TheVariants as answers
use Rattle.history.specs.declared.answers.BadEntry.{BadEntry}
use Rattle.history.specs.declared.items.Content.{Content}
use Rattle.history.specs.declared.items.Content.TheVariants as contents
use Rattle.history.specs.declared.items.Item.{Item}
use Rattle.history.specs.Histories.{items_of, lines_of, journal_of, answer_of, CanStand, IsRight}

-- the answer that a content has
abbrev pub answer_in : Content → Answer
answer_in (contents.Called call reply) = answers.Call call reply
answer_in (contents.Fault page access verdict) = answers.Fault verdict
answer_in (contents.List areas) = answers.List areas

-- what an address space answers to a line, and nothing where there is none
abbrev pub answer_to : Config → AddressSpace → Option TraceLine → Answer
answer_to config space None = answers.Nothing
answer_to config space (Some line) = answer_in (answer_of config space line.op)

-- the next line of a caller after some items
abbrev pub next_line : List TraceLine → List Item → ℕ → Option TraceLine
next_line lines before caller = slice_get (lines_of lines caller) (length (items_of before caller))

-- what the next line of a caller asks for, answered by the address space after some items
abbrev pub expected_of : Config → List Entry → List TraceLine → List Item → ℕ → Answer
expected_of config start lines before caller =
    answer_to config (after config (start ++ journal_of before)) (next_line lines before caller)

-- an item is good after others where it can stand there and is right
pub record IsGood (config : Config) (start : List Entry) (lines : List TraceLine) (before : List Item) (item : Item) : Type 0 where
  pub stands : CanStand config start lines before item
  pub right : IsRight config (start ++ journal_of before) item.content

-- each item before a place is good there
abbrev pub AreGood : Config → List Entry → List TraceLine → List Item → ℕ → Type 0
AreGood config start lines items place = (earlier : ℕ) (item : Item) → earlier < place → slice_get items earlier ≡ Some item
    → IsGood config start lines (take earlier items) item

-- the item at a place cannot stand there, so nothing was expected
pub record IsOutOfPlace (config : Config) (start : List Entry) (lines : List TraceLine) (items : List Item) (place : ℕ) (bad : BadEntry) : Type 0 where
  pub item : Item
  pub here : slice_get items place ≡ Some item
  pub refused : ¬ CanStand config start lines (take place items) item
  pub expected : bad.expected ≡ answers.Nothing
  pub found : bad.found ≡ answer_in item.content

-- the item at a place can stand there and is not right; expected was the right answer to its line, which is another
pub record IsWrong (config : Config) (start : List Entry) (lines : List TraceLine) (items : List Item) (place : ℕ) (bad : BadEntry) : Type 0 where
  pub item : Item
  pub here : slice_get items place ≡ Some item
  pub stands : CanStand config start lines (take place items) item
  pub wrong : ¬ IsRight config (start ++ journal_of (take place items)) item.content
  pub expected : bad.expected ≡ expected_of config start lines (take place items) item.caller
  pub found : bad.found ≡ answer_in item.content
  pub differs : bad.expected ≢ bad.found

-- the items end before the lines of a caller do; expected was the right answer to the next line of the lowest such caller
pub record EndsEarly (config : Config) (start : List Entry) (lines : List TraceLine) (items : List Item) (place : ℕ) (bad : BadEntry) : Type 0 where
  pub caller : ℕ
  pub ended : place ≡ length items
  pub left : length (items_of items caller) < length (lines_of lines caller)
  pub lowest : (lower : ℕ) → lower < caller → length (items_of items lower) ≡ length (lines_of lines lower)
  pub expected : bad.expected ≡ expected_of config start lines items caller
  pub found : bad.found ≡ answers.Nothing

-- a history is refused at its first bad item, or at its end, whose place is told counted from 1
pub record IsHistoryRefused (config : Config) (start : List Entry) (lines : List TraceLine) (items : List Item) (bad : BadEntry) : Type 0 where
  pub place : ℕ
  pub counted : bad.place ≡ place + 1
  pub before : AreGood config start lines items place
  pub cause : IsOutOfPlace config start lines items place bad ⊎ (IsWrong config start lines items place bad ⊎ EndsEarly config start lines items place bad)
