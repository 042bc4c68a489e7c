-- For `push_items`: there is room for one item more.
use Rattle.std.proofs.Common.{ℕ, List, length, take, ◌*◌, ap, ◌∙◌, arith, length-append}
use Rattle.std.proofs.lemmas.List.{length-take-le}
use Rattle.std.specs.List.{flat_map}
use Rattle.maple_node.specs.Nodes.{item_words}
use Rattle.maple_node.specs.Codec.{width_of}
use Rattle.maple_node.proofs.Padded.{length-words, room_more}
use Rattle.maple_node.proofs.packed.NodeWords.push_items.Goals as goal

pub push_item-requires : goal.push_item-requires
push_item-requires c =
    let leaf = c.args.leaf in
    let items = c.args.items.now in
    let index = c.loop-item.item-index in
    let there = c.loop-item-test.true in
    let long = ap (λ (ws : List ℕ). length ws) c.loop-item.invariant ∙ length-append c.args.self.now (flat_map (item_words leaf) (take index items)) in
    let words = length-words leaf (take index items) ∙ ap (λ (n : ℕ). width_of leaf * n) (length-take-le index items (omega arith)) in
    let room = room_more leaf (length c.args.self.now) index items c.requires (omega arith) in
    omega arith
