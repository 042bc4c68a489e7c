-- For `node_words`: there is room for the words of the items, and zeros follow them.
use Rattle.std.proofs.Common.{ℕ, List, length, ◌++◌, ◌∙◌, ap, arith}
use Rattle.std.specs.List.{flat_map}
use Rattle.maple_node.specs.Nodes.{item_words}
use Rattle.maple_node.specs.Padding.{padded_node}
use Rattle.maple_node.proofs.Padded.{room_of, padded-words}
use Rattle.maple_node.proofs.packed.node_words.Goals as goal

pub push_items-requires : goal.push_items-requires
push_items-requires c =
    let none = ap (λ (ws : List ℕ). length ws) c.new-words.ensures in
    let room = room_of c.args.leaf c.args.items.now c.requires in
    omega arith

pub returns : goal.returns
returns c =
    c.into_words.ensures ∙ ap padded_node (c.push_items.ensures
    ∙ ap (λ (ws : List ℕ). ws ++ flat_map (item_words c.args.leaf) c.args.items.now) c.new-words.ensures)
    ∙ padded-words c.args.leaf c.args.items.now
