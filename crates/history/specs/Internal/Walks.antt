-- What `check` keeps while it walks over the items of a history.
use Rattle.std.specs.Prelude.{ℕ, ◌≡◌, ◌+◌, ◌-◌, ◌^◌, ◌<◌, ◌≤◌, Bool, true, false, if◌then◌else◌, List, ◌++◌, length, take, All, Option, Some, None, IfSome, IsSomeAnd}
use Rattle.mm_types.specs.declared.area.Record.{Record}
use Rattle.mm_types.specs.declared.call.Entry.{Entry}
use Rattle.mm_types.specs.declared.config.Config.{Config}
use Rattle.trace_reader.specs.declared.trace.TraceLine.{TraceLine}
use Rattle.trace_reader.specs.Values.{AreNumbered}
use Rattle.area_rules.specs.Tables.{AddressSpace}
use Rattle.area_rules.specs.Steps.{after}
use Rattle.plain_space.specs.Plain.{PlainView}
use Rattle.history.specs.declared.answers.Answer.{Answer}
use Rattle.history.specs.declared.answers.Answer.TheVariants as answers
use Rattle.history.specs.declared.answers.CheckError.{CheckError}
use Rattle.history.specs.declared.answers.CheckError.TheVariants as errors
use Rattle.history.specs.declared.answers.Expected.{Expected}
use Rattle.history.specs.declared.answers.Expected.TheVariants as expected
use Rattle.history.specs.declared.callers.TheConstants.{MOST_THREADS}
use Rattle.history.specs.declared.checking.Case.{Case}
use Rattle.history.specs.declared.checking.Walk.{Walk}
use Rattle.history.specs.declared.items.Content.{Content}
use Rattle.history.specs.declared.items.Content.TheVariants as contents
use Rattle.history.specs.declared.items.Item.{Item}
use Rattle.history.specs.Histories.{items_of, lines_of, journal_of, is_call, read_as, op_asked, space_after, StandsAmong}
use Rattle.history.specs.Checking.{AreGood, IsHistoryRefused}
use Rattle.history.specs.Coming.{ProgressView, IsProgress}

-- whether a content is a list of areas, which alone takes memory to show
abbrev pub is_list : Content → Bool
is_list (contents.Called call reply) = false
is_list (contents.Fault page access verdict) = false
is_list (contents.List areas) = true

-- what is expected, where a list is this one
abbrev pub answer_expected : List Record → Expected → Answer
answer_expected areas (expected.Call call reply) = answers.Call call reply
answer_expected areas (expected.Fault verdict) = answers.Fault verdict
answer_expected areas expected.List = answers.List areas
answer_expected areas expected.Nothing = answers.Nothing

-- an item has the version of its moment, goes after the reads before it, and is what a line asks for
pub record IsNext (progress : ProgressView) (line : Option TraceLine) (item : Item) : Type 0 where
  pub version : item.version ≡ progress.version + (if is_call item.content then 1 else 0)
  pub order : is_call item.content ≡ false → progress.lowest ≤ item.caller
  pub asked : IsSomeAnd line (λ line. read_as line.op ≡ op_asked item.content)

-- the address space after a line, if there is one
abbrev pub space_after_line : Config → AddressSpace → Option TraceLine → AddressSpace
space_after_line config space None = space
space_after_line config space (Some line) = space_after config space line.op

-- the line that a line names, if there is one and it names one, is among some items
abbrev pub IsTold : List TraceLine → List Item → Option TraceLine → Type 0
IsTold lines before line = IfSome line (λ line. IfSome line.after (StandsAmong lines before))

-- a caller has lines left, and no lower one has
pub record IsLowestLeft (lines : List TraceLine) (items : List Item) (caller : ℕ) : Type 0 where
  pub left : length (items_of items caller) < length (lines_of lines caller)
  pub lowest : (lower : ℕ) → lower < caller → length (items_of items lower) ≡ length (lines_of lines lower)

-- a space began with some entries
pub record HasBegun (config : Config) (start : List Entry) (begun : PlainView) : Type 0 where
  pub opened : begun.config ≡ config
  pub space : begun.space ≡ after config start
  pub objects : begun.space.objects ≤ length config.files + length start

-- a walk has come to a place of a history, and each item before it is good
pub record IsHistoryWalked (case : Case) (place : ℕ) (walk : Walk) : Type 0 where
  pub progress : IsProgress case.lines.now (take place case.items.now) walk.progress
  pub opened : walk.space.config ≡ case.config.now
  pub space : walk.space.space ≡ after case.config.now (case.start.now ++ journal_of (take place case.items.now))
  pub objects : walk.space.space.objects ≤ length case.config.now.files + length case.start.now + walk.progress.version
  pub room : length case.config.now.files + length case.start.now + length case.lines.now < 2 ^ 32 - 1
  pub numbered : AreNumbered case.lines.now
  pub threads : All (λ line. line.thread < MOST_THREADS) case.lines.now
  pub good : AreGood case.config.now case.start.now case.lines.now case.items.now place

-- a history was refused rightly, or memory ran out
abbrev pub IsRefusalRight : Case → CheckError → Type 0
IsRefusalRight case (errors.Bad bad) = IsHistoryRefused case.config.now case.start.now case.lines.now case.items.now bad
IsRefusalRight case errors.NoMemory = Unit {0}
