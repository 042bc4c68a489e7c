-- For `put`: the words list the items.
use Rattle.std.proofs.Common.{◌∙◌, ◌≤◌, ◌<◌, List, length, sym, ap, subst}
use Rattle.maple_node.specs.declared.item.NodeItem.{NodeItem}
use Rattle.maple_node.specs.Nodes.{words_of_items, node_items, most, least_items, items_end, Ascends}
use Rattle.maple_node.proofs.Places.{items_of_words}
use Rattle.maple_write.proofs.Packing.{last_end}
use Rattle.maple_write.proofs.rows.put.Goals as goal

pub gap_in-gap-requires : goal.gap_in-gap-requires
gap_in-gap-requires c =
    let back = ap (node_items c.args.leaf) c.node_words-words.ensures ∙ items_of_words c.args.leaf c.args.start c.args.items.now c.requires.ascends c.requires.plain in
    subst (λ (xs : List NodeItem). Ascends c.args.start xs) (sym back) c.requires.ascends

pub put_words-requires-clause-some : goal.put_words-requires-clause-some
put_words-requires-clause-some c =
    let back = ap (node_items c.args.leaf) c.node_words-words.ensures ∙ items_of_words c.args.leaf c.args.start c.args.items.now c.requires.ascends c.requires.plain in
    subst (λ (xs : List NodeItem). 1 ≤ length xs) (sym back) c.requires.some

pub put_words-requires-clause-most : goal.put_words-requires-clause-most
put_words-requires-clause-most c =
    let back = ap (node_items c.args.leaf) c.node_words-words.ensures ∙ items_of_words c.args.leaf c.args.start c.args.items.now c.requires.ascends c.requires.plain in
    subst (λ (xs : List NodeItem). length xs ≤ most c.args.leaf) (sym back) c.requires.most

pub put_words-requires-clause-ascends : goal.put_words-requires-clause-ascends
put_words-requires-clause-ascends c =
    let back = ap (node_items c.args.leaf) c.node_words-words.ensures ∙ items_of_words c.args.leaf c.args.start c.args.items.now c.requires.ascends c.requires.plain in
    subst (λ (xs : List NodeItem). Ascends c.args.start xs) (sym back) c.requires.ascends

pub put_words-requires-clause-end : goal.put_words-requires-clause-end
put_words-requires-clause-end c =
    let back = ap (node_items c.args.leaf) c.node_words-words.ensures ∙ items_of_words c.args.leaf c.args.start c.args.items.now c.requires.ascends c.requires.plain in
    last_end c.args.start c.args.items.now (record { end = 0; word = 0; gap = 0 }) c.requires.some ∙ ap (items_end c.args.start) (sym back)

pub put_words-requires-clause-whole : goal.put_words-requires-clause-whole
put_words-requires-clause-whole c =
    let back = ap (node_items c.args.leaf) c.node_words-words.ensures ∙ items_of_words c.args.leaf c.args.start c.args.items.now c.requires.ascends c.requires.plain in
    c.node_words-words.ensures ∙ ap (words_of_items c.args.leaf) (sym back)

pub returns-clause-node : goal.returns-clause-node
returns-clause-node c limit full =
    let back = ap (node_items c.args.leaf) c.node_words-words.ensures ∙ items_of_words c.args.leaf c.args.start c.args.items.now c.requires.ascends c.requires.plain in
    c.put_words.ensures.node limit
    (subst (λ (xs : List NodeItem). items_end c.args.start xs < limit → least_items c.args.leaf ≤ length xs) (sym back) full)

pub returns-clause-items : goal.returns-clause-items
returns-clause-items c =
    let back = ap (node_items c.args.leaf) c.node_words-words.ensures ∙ items_of_words c.args.leaf c.args.start c.args.items.now c.requires.ascends c.requires.plain in
    c.put_words.ensures.items ∙ back

pub returns-clause-until : goal.returns-clause-until
returns-clause-until c =
    c.put_words.ensures.until ∙ last_end c.args.start c.args.items.now (record { end = 0; word = 0; gap = 0 }) c.requires.some
