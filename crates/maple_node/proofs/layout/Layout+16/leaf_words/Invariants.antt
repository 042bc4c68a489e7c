-- The loop of `leaf_words`.
use Rattle.std.proofs.Common.{◌≡◌, map, take, true}
use Rattle.std.specs.List.{flat_map}
use Rattle.maple_node.specs.Nodes.{item_words}
use Rattle.maple_node.specs.Words.{entry_item}
use Rattle.maple_node.proofs.layout.Layout+16.leaf_words.Given as goal

-- the words of the entries so far
abbrev pub invariant-loop-entry : goal.invariant-loop-entry
invariant-loop-entry l = l.words ≡ flat_map (item_words true) (take l.entry-index (map entry_item l.entries))
