-- The words of a node, item by item.
use Rattle.std.specs.Prelude.{ℕ, ◌+◌, Bool, true, false, List, get_or}
use Rattle.maple_node.specs.declared.item.NodeItem.{NodeItem}

-- how many words an item of a node has
abbrev pub width_of : Bool → ℕ
width_of true = 2
width_of false = 3

-- the item that the words of a node list at a place
abbrev pub listed_at : Bool → List ℕ → ℕ → NodeItem
listed_at true words place = record { end = get_or words place 0; word = get_or words (place + 1) 0; gap = 0 }
listed_at false words place = record { end = get_or words place 0; word = get_or words (place + 1) 0; gap = get_or words (place + 2) 0 }
