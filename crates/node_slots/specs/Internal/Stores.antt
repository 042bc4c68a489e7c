-- Words of a row that are stored one after another.
use Rattle.std.specs.Prelude.{ℕ, ◌+◌, List, get_or}
use Rattle.node_slots.specs.declared.view.NodeView.{NodeView}
use Rattle.node_slots.specs.Views.{node_store_at}

-- four words of a row, from a place on, become those that a list has there
abbrev pub store_four_at : NodeView → ℕ → ℕ → List ℕ → NodeView
store_four_at view row place words =
    node_store_at (node_store_at (node_store_at (node_store_at view row place (get_or words place 0)) row (place + 1) (get_or words (place + 1) 0))
    row (place + 2) (get_or words (place + 2) 0)) row (place + 3) (get_or words (place + 3) 0)
