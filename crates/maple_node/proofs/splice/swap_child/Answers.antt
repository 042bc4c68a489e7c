-- For `swap_child`: the words and the largest gap once the child is put.
use Rattle.std.proofs.Common.{false, sym, ap, subst, ◌∙◌}
use Rattle.maple_node.specs.Nodes.{Ascends, gap_of}
use Rattle.maple_node.proofs.Swapped.{swapped, swapped_items}
use Rattle.maple_node.proofs.splice.swap_child.Goals as goal

pub gap_then-requires : goal.gap_then-requires
gap_then-requires c =
    let is = swapped c.args.page c.child_place-place.result c.args.words.now c.args.child c.requires.ascends c.requires.whole
    (record { at = c.child_place-place.ensures.place; item = c.child_place-place.ensures.item }) c.if-words-place.false in
    subst (Ascends 0) (sym (swapped_items c.args.page c.child_place-place.result c.args.words.now c.args.child is)) is.ascends

pub returns-clause-words : goal.returns-clause-words
returns-clause-words c =
    (swapped c.args.page c.child_place-place.result c.args.words.now c.args.child c.requires.ascends c.requires.whole
    (record { at = c.child_place-place.ensures.place; item = c.child_place-place.ensures.item }) c.if-words-place.false).put

pub returns-clause-count : goal.returns-clause-count
returns-clause-count c =
    (swapped c.args.page c.child_place-place.result c.args.words.now c.args.child c.requires.ascends c.requires.whole
    (record { at = c.child_place-place.ensures.place; item = c.child_place-place.ensures.item }) c.if-words-place.false).count

pub returns-clause-gap : goal.returns-clause-gap
returns-clause-gap c =
    let is = swapped c.args.page c.child_place-place.result c.args.words.now c.args.child c.requires.ascends c.requires.whole
    (record { at = c.child_place-place.ensures.place; item = c.child_place-place.ensures.item }) c.if-words-place.false in
    let then = ap (gap_of false 0) (swapped_items c.args.page c.child_place-place.result c.args.words.now c.args.child is) in
    c.gap_then.ensures is.others (sym c.requires.gap ∙ is.gap_before) (then ∙ is.gap_after) ∙ sym is.gap_after
