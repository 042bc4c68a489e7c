-- What one caller did, one thing after the other.
use Rattle.std.specs.Prelude.{◌≡◌, List, [], ◌∷◌, true}
use Rattle.std.specs.List.{AllPairs}
use Rattle.mm_types.specs.declared.call.Entry.{Entry}
use Rattle.mm_types.specs.declared.call.Seen.{Seen}
use Rattle.trace_reader.specs.declared.trace.TraceLine.{TraceLine}
use Rattle.history.specs.declared.items.Content.TheVariants as contents
use Rattle.history.specs.declared.items.Item.{Item}
use Rattle.history.specs.declared.turns.Turn.{Turn}
use Rattle.history.specs.declared.turns.Turn.TheVariants as turns
use Rattle.history.specs.Histories.{goes_first}
use Rattle.history.specs.Labels.{labelled, label_of}
use Rattle.history.specs.Runs.{read_item, log_items, history_of}

-- one thing that the first caller did, as an item of a history
abbrev pub turn_item : Turn → Item
turn_item (turns.Call version entry) = record {
  caller = entry.now.caller;
  version = version;
  content = contents.Called entry.now.call entry.now.reply;
}
turn_item (turns.Read read) = read_item 0 read.now

-- The reads of a caller that ran all lines are in the order of a history, and so is what it did, each by the caller of the line that stands
-- with it.
pub record IsInTurn (lines : List TraceLine) (journal : List Entry) (log : List Seen) : Type 0 where
  pub reads : AllPairs (λ a b. goes_first a b ≡ true) (log_items 0 log)
  pub turns : labelled lines lines (history_of journal (log ∷ [])) ≡ label_of lines journal log
