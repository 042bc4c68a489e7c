-- For `rooted`: the root's row is one of the table, and its words tell where the tree ends.
use Rattle.std.proofs.Common.{◌∙◌, ◌≡◌, ◌≤◌, ◌-◌, nat_eq, ℕ, List, length, ap, sym, subst, arith}
use Rattle.maple_node.specs.declared.item.NodeItem.{NodeItem}
use Rattle.maple_node.specs.Nodes.{Ascends, node_items, items_end}
use Rattle.maple_node.specs.Levels.{is_leaf, items_at}
use Rattle.node_slots.specs.Built.{words_at}
use Rattle.maple_write.proofs.Stores.{root_of_view, root_told}
use Rattle.maple_write.proofs.storing.rooted.Goals as goal
use Rattle.maple_write.proofs.storing.rooted.Goals.{then-lists_nothing, else-lists_nothing}

pub words-words-requires : goal.words-words-requires
words-words-requires c =
    let is = root_of_view c.args.writer.now c.args.tree.now c.requires.tree in
    let there = is.there in
    let same = c.from-root.ensures in
    omega arith

pub gap_in-requires : goal.gap_in-requires
gap_in-requires c =
    let tree = c.args.tree.now in
    let writer = c.args.writer.now in
    let is = root_of_view writer tree c.requires.tree in
    let leaf = nat_eq tree.height 1 in
    let are = ap (node_items leaf) c.words-words.ensures ∙ ap (λ b. items_at (words_at writer) b c.from-root.result) is.leaf
    ∙ ap (λ (row : ℕ). items_at (words_at writer) (is_leaf (tree.height - 1)) row) c.from-root.ensures in
    subst (λ (xs : List NodeItem). Ascends 0 xs) (sym are) is.ascends

pub returns : goal.returns
returns c =
    let tree = c.args.tree.now in
    let writer = c.args.writer.now in
    let is = root_of_view writer tree c.requires.tree in
    let leaf = nat_eq tree.height 1 in
    let words = c.words-words.result.now in
    let are = ap (node_items leaf) c.words-words.ensures ∙ ap (λ b. items_at (words_at writer) b c.from-root.result) is.leaf
    ∙ ap (λ (row : ℕ). items_at (words_at writer) (is_leaf (tree.height - 1)) row) c.from-root.ensures in
    let end : c.if-lists_nothing.end ≡ items_end 0 (node_items leaf words) =
    elim c.if-lists_nothing.branch as (λ _. c.if-lists_nothing.end ≡ items_end 0 (node_items leaf words)) [
      | then-lists_nothing w ↦ w.end-is ∙ sym (ap (items_end 0) (c.lists_nothing.ensures.none leaf w.if-lists_nothing.true))
      | else-lists_nothing w ↦ w.end-is
          ∙ is.ends (subst (λ (xs : List NodeItem). 1 ≤ length xs) are (c.lists_nothing.ensures.some leaf w.if-lists_nothing.false))
          ∙ sym (ap (items_end 0) are)
    ] in
    root_told writer tree c.if-lists_nothing.end c.from-root.result c.gap_in.result leaf words c.words-words.ensures c.from-root.ensures is.leaf end
    c.gap_in.ensures
