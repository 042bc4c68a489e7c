-- For `root_of`: the root's row is one of the table, and the whole tree is under it.
use Rattle.std.proofs.Common.{◌∙◌, ◌-◌, List, length, ap, arith}
use Rattle.maple_node.specs.declared.item.NodeItem.{NodeItem}
use Rattle.maple_node.specs.Nodes.{node_items}
use Rattle.maple_node.specs.Levels.{is_leaf, items_at}
use Rattle.node_slots.specs.Built.{words_at}
use Rattle.maple_gap.proofs.Roots.{root_there, gap_root, whole_root}
use Rattle.maple_gap.proofs.branch.root_of.Goals as goal

pub words-words-requires : goal.words-words-requires
words-words-requires c =
    let there = root_there c.args.writer.now c.args.tree.now c.requires.tree in
    let same = c.from-row.ensures in
    omega arith

pub returns-then-lists_nothing-clause-root : goal.returns-then-lists_nothing-clause-root
returns-then-lists_nothing-clause-root c =
    let tree = c.args.tree.now in
    let writer = c.args.writer.now in
    let leaf = is_leaf (tree.height - 1) in
    let items = node_items leaf c.words-words.result.now in
    let are = ap (node_items leaf) c.words-words.ensures.words ∙ ap (items_at (words_at writer) leaf) c.from-row.ensures in
    gap_root writer tree items c.requires.tree are (ap (λ (xs : List NodeItem). length xs) (c.lists_nothing.ensures.none leaf c.if-lists_nothing.true))

pub returns-clause-root : goal.returns-clause-root
returns-clause-root c =
    let tree = c.args.tree.now in
    let writer = c.args.writer.now in
    let leaf = is_leaf (tree.height - 1) in
    let items = node_items leaf c.words-words.result.now in
    let are = ap (node_items leaf) c.words-words.ensures.words ∙ ap (items_at (words_at writer) leaf) c.from-row.ensures in
    let some = c.lists_nothing.ensures.some leaf c.if-lists_nothing.false in
    whole_root writer tree items c.from-row.result c.requires.tree are (λ none. omega arith) c.from-row.ensures
