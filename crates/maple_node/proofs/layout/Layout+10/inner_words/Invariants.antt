-- The loop of `inner_words`.
use Rattle.std.proofs.Common.{◌≡◌, map, take, false}
use Rattle.std.specs.List.{flat_map}
use Rattle.maple_node.specs.Nodes.{item_words}
use Rattle.maple_node.specs.Words.{child_item}
use Rattle.maple_node.proofs.layout.Layout+10.inner_words.Given as goal

-- the words of the children so far
abbrev pub invariant-loop-child : goal.invariant-loop-child
invariant-loop-child l = l.words ≡ flat_map (item_words false) (take l.child-index (map child_item l.children))
