-- The loop of `push_items`.
use Rattle.std.proofs.Common.{◌≡◌, ◌++◌, take}
use Rattle.std.specs.List.{flat_map}
use Rattle.maple_node.specs.Nodes.{item_words}
use Rattle.maple_node.proofs.packed.NodeWords.push_items.Given as goal

-- the words of the items so far were added
abbrev pub invariant-loop-item : goal.invariant-loop-item
invariant-loop-item l = l.self ≡ l.initial.self ++ flat_map (item_words l.leaf) (take l.item-index l.items)
