-- The items that `serial` prints of the operations of a session.
use Rattle.std.specs.Prelude.{ℕ, ◌≡◌, List, [], ◌∷◌, ◌++◌, length, fold, slice_get, Some}
use Rattle.mm_types.specs.declared.config.Config.{Config}
use Rattle.area_rules.specs.Steps.{opening}
use Rattle.trace_reader.specs.declared.trace.Trace.{Trace}
use Rattle.trace_reader.specs.declared.trace.TraceLine.{TraceLine}
use Rattle.history.specs.declared.items.Item.{Item}
use Rattle.history.specs.Histories.{items_from, space_after_all}
use Rattle.output.specs.Output.{item_text, maps_text}
use Rattle.output.specs.Telling.{told_in_turn}
use Rattle.live_session.specs.Sessions.{Opened, after_operation}

-- an address space after operations, one after another
abbrev pub after_operations : Opened → List TraceLine → Opened
after_operations now lines = fold (λ now line. after_operation now line.op) now lines

-- the items of operations in the order of their lines: `serial` prints the same, and of one version the reads by ascending thread
abbrev pub items_made : Config → List TraceLine → List Item
items_made config lines = items_from config lines (opening config) 0 lines

-- a text is that of the item of a line behind these operations
pub record IsTextOfItem (config : Config) (before : List TraceLine) (line : TraceLine) (text : List ℕ) : Type 0 where
  pub item : Item
  pub made : slice_get (items_made config (before ++ line ∷ [])) (length before) ≡ Some item
  pub printed : text ≡ item_text config.files line item

-- the text of a trace in the order of its lines: that of the item of each operation, and then the list after all of them
abbrev pub output_in_turn : Trace → List ℕ
output_in_turn trace = told_in_turn (item_text trace.config.files) trace.lines (items_made trace.config trace.lines)
    ++ maps_text trace.config.files (space_after_all trace.config (opening trace.config) trace.lines).areas
