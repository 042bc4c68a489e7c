-- The history of a trace that one caller ran, with each item given back to the caller of its line.
use Rattle.std.specs.Prelude.{ℕ, ◌≡◌, ◌≤◌, List, [], ◌∷◌, All}
use Rattle.mm_types.specs.declared.call.Entry.{Entry}
use Rattle.mm_types.specs.declared.call.Seen.{Seen}
use Rattle.mm_types.specs.declared.config.Config.{Config}
use Rattle.trace_reader.specs.declared.trace.TraceLine.{TraceLine}
use Rattle.area_rules.specs.Steps.{IsLegalJournal}
use Rattle.area_rules.specs.Journals.{calls_by, IsReadRight}
use Rattle.history.specs.declared.items.Item.{Item}
use Rattle.history.specs.Histories.{caller_of, gather}
use Rattle.history.specs.Runs.{history_of, own_of, ops_of, asked, AreMade}

-- items, each with the caller of the line of a trace that stands with it; the shorter of the two ends it
abbrev pub labelled : List TraceLine → List TraceLine → List Item → List Item
labelled trace [] items = []
labelled trace (line ∷ lines) [] = []
labelled trace (line ∷ lines) (item ∷ items) =
    record { caller = caller_of trace line.thread; version = item.version; content = item.content } ∷ labelled trace lines items

-- the history of a journal and one log, with the callers of the lines
unfoldable pub label_of : List TraceLine → List Entry → List Seen → List Item
label_of lines journal log = gather (labelled lines lines (history_of journal (log ∷ [])))

-- a finished run of all lines, one after the other, by one caller, whose number is 0
pub record IsSerialRun (config : Config) (lines : List TraceLine) (journal : List Entry) (log : List Seen) : Type 0 where
  pub legal : IsLegalJournal config journal
  pub made : AreMade config [] journal
  pub right : All (IsReadRight config journal) log
  pub done : ops_of (own_of 0 journal log) ≡ asked lines
  pub others : (caller : ℕ) → 1 ≤ caller → calls_by caller journal ≡ []
