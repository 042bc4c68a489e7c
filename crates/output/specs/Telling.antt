-- What is told of items that stand with lines.
use Rattle.std.specs.Prelude.{ℕ, List, [], ◌∷◌, ◌++◌}
use Rattle.history.specs.declared.items.Item.{Item}
use Rattle.trace_reader.specs.declared.trace.TraceLine.{TraceLine}

-- of each line, what is told of the item that stands with it; the shorter of the two ends it
abbrev pub told_in_turn : (TraceLine → Item → List ℕ) → List TraceLine → List Item → List ℕ
told_in_turn tell [] items = []
told_in_turn tell (line ∷ lines) [] = []
told_in_turn tell (line ∷ lines) (item ∷ items) = tell line item ++ told_in_turn tell lines items
