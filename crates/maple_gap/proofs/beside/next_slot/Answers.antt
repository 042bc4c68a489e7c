-- For `next_slot`: the entry that has the page, or the one after it.
use Rattle.std.proofs.Common.{List, sym, ap, ◌∙◌, arith}
use Rattle.maple_node.specs.Trees.{Pair}
use Rattle.node_slots.specs.Built.{words_at}
use Rattle.maple_gap.specs.Gaps.{first_pair_from, slot_in}
use Rattle.maple_gap.specs.Internal.Searches.{entries_under}
use Rattle.maple_gap.proofs.Searching.{entries_of_root}
use Rattle.maple_gap.proofs.Finding.{whole_item, item_above}
use Rattle.maple_gap.proofs.Neighbours.{word_of_found, next_none, next_here, next_last, next_gap}
use Rattle.maple_gap.proofs.beside.next_slot.Goals as goal

pub returns-then-page-limit-clause-slot : goal.returns-then-page-limit-clause-slot
returns-then-page-limit-clause-slot c =
    let root = c.root_of-root.result in
    let is = c.root_of-root.ensures.root in
    let page = c.args.page.0 in
    let entries = entries_under (words_at c.args.writer.now) root in
    let all = entries_of_root c.args.writer.now c.args.tree.now root is in
    let ending = all.ending in
    let limit = is.limit in
    let test = c.if-page-limit.true in
    sym (ap (λ (ps : List Pair). slot_in (first_pair_from ps page)) (sym is.pairs) ∙ ap slot_in (next_none page 0 entries all.ascends (omega arith)))

pub slot_of-requires : goal.slot_of-requires
slot_of-requires c =
    let leaf = c.leaf_at-leaf in
    let found = whole_item (words_at c.args.writer.now) c.root_of-root.result leaf.result c.args.page.0 c.entry_at-here.result.item
    leaf.ensures.same leaf.ensures.above leaf.ensures.within c.entry_at-here.ensures.item in
    word_of_found _ (entries_under (words_at c.args.writer.now) c.root_of-root.result) c.entry_at-here.result.item
    c.root_of-root.ensures.root.numbered found

pub returns-then-here-ne0-clause-slot : goal.returns-then-here-ne0-clause-slot
returns-then-here-ne0-clause-slot c =
    let leaf = c.leaf_at-leaf in
    let found = whole_item (words_at c.args.writer.now) c.root_of-root.result leaf.result c.args.page.0 c.entry_at-here.result.item
    leaf.ensures.same leaf.ensures.above leaf.ensures.within c.entry_at-here.ensures.item in
    let root = c.root_of-root.result in
    let page = c.args.page.0 in
    let entries = entries_under (words_at c.args.writer.now) root in
    c.slot_of.ensures ∙ next_here page 0 entries c.entry_at-here.result.item found c.if-here-ne0.true
    ∙ ap (λ (ps : List Pair). slot_in (first_pair_from ps page)) c.root_of-root.ensures.root.pairs

pub returns-then-here-limit-clause-slot : goal.returns-then-here-limit-clause-slot
returns-then-here-limit-clause-slot c =
    let leaf = c.leaf_at-leaf in
    let found = whole_item (words_at c.args.writer.now) c.root_of-root.result leaf.result c.args.page.0 c.entry_at-here.result.item
    leaf.ensures.same leaf.ensures.above leaf.ensures.within c.entry_at-here.ensures.item in
    let root = c.root_of-root.result in
    let is = c.root_of-root.ensures.root in
    let page = c.args.page.0 in
    let entries = entries_under (words_at c.args.writer.now) root in
    let all = entries_of_root c.args.writer.now c.args.tree.now root is in
    let ending = all.ending in
    let limit = is.limit in
    let test = c.if-here-limit.true in
    sym (ap (λ (ps : List Pair). slot_in (first_pair_from ps page)) (sym is.pairs)
    ∙ ap slot_in (next_last page 0 entries c.entry_at-here.result.item all.ascends found c.if-here-ne0.false (omega arith)))

pub slot_of-requires-2 : goal.slot_of-requires-2
slot_of-requires-2 c =
    word_of_found _ (entries_under (words_at c.args.writer.now) c.root_of-root.result) c.entry_near-next.result.item
    c.root_of-root.ensures.root.numbered c.entry_near-next.ensures.item

pub returns-clause-slot : goal.returns-clause-slot
returns-clause-slot c =
    let leaf = c.leaf_at-leaf in
    let found = whole_item (words_at c.args.writer.now) c.root_of-root.result leaf.result c.args.page.0 c.entry_at-here.result.item
    leaf.ensures.same leaf.ensures.above leaf.ensures.within c.entry_at-here.ensures.item in
    let root = c.root_of-root.result in
    let is = c.root_of-root.ensures.root in
    let page = c.args.page.0 in
    let entries = entries_under (words_at c.args.writer.now) root in
    let all = entries_of_root c.args.writer.now c.args.tree.now root is in
    c.slot_of-2.ensures
    ∙ next_gap page 1 0 entries c.entry_at-here.result.item c.entry_near-next.result.item all.ascends is.apart found
    c.if-here-ne0.false c.entry_near-next.ensures.item
    ∙ ap (λ (ps : List Pair). slot_in (first_pair_from ps page)) is.pairs

pub entry_near-next-requires-clause-ending_after : goal.entry_near-next-requires-clause-ending_after
entry_near-next-requires-clause-ending_after c =
    let leaf = c.leaf_at-leaf in
    let above = leaf.ensures.above in
    let past = item_above c.args.page.0 (entries_under (words_at c.args.writer.now) leaf.result) c.entry_at-here.result.item c.entry_at-here.ensures.item in
    omega arith
