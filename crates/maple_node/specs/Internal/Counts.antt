-- The words of a node, counted from its first item on.
use Rattle.std.specs.Prelude.{ℕ, ◌≡◌, ◌+◌, ◌*◌, Bool, List, length, drop}
use Rattle.maple_node.specs.Nodes.{node_items, Ascends}
use Rattle.maple_node.specs.Splices.{ending_by}
use Rattle.maple_node.specs.Codec.{width_of}

-- the words before a place are those of items that end up to a page
pub record IsCounted (leaf : Bool) (page place : ℕ) (words : List ℕ) : Type 0 where
  pub count : width_of leaf * length (ending_by page (node_items leaf words)) ≡ place + width_of leaf * length (ending_by page (node_items leaf (drop place words)))
  pub ascends : Ascends 0 (node_items leaf (drop place words))
