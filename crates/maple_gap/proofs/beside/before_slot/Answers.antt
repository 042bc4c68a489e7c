-- For `before_slot`: the entry that has the page before, or the one before it.
use Rattle.std.proofs.Common.{ℕ, List, None, ◌≤◌, ◌+◌, ◌-◌, ◌⊎◌, sym, ap, subst, ◌∙◌, arith}
use Rattle.maple_node.specs.Nodes.{items_end}
use Rattle.maple_node.specs.Levels.{item_at}
use Rattle.maple_node.specs.Trees.{Pair}
use Rattle.maple_node.specs.Splices.{ending_by}
use Rattle.maple_node.proofs.ItemLists.{ending_by_below}
use Rattle.node_slots.specs.Built.{words_at}
use Rattle.maple_gap.specs.Gaps.{last_pair_before, slot_in}
use Rattle.maple_gap.specs.Internal.Searches.{entries_under, with_gap}
use Rattle.maple_gap.proofs.Under.{under_past}
use Rattle.maple_gap.proofs.Searching.{entries_of_root}
use Rattle.maple_gap.proofs.Neighbours.{word_of_found, before_none, before_here, before_first, before_gap, edge_of}
use Rattle.maple_gap.proofs.beside.before_slot.Goals as goal

pub returns-then-above-eq0-clause-slot : goal.returns-then-above-eq0-clause-slot
returns-then-above-eq0-clause-slot c =
    let root = c.root_of-root.result in
    let is = c.root_of-root.ensures.root in
    let page = c.args.page.0 in
    let entries = entries_under (words_at c.args.writer.now) root in
    let all = entries_of_root c.args.writer.now c.args.tree.now root is in
    let past = under_past (words_at c.args.writer.now) is.branch.limit root.level root.place.start (with_gap is.branch.gap root.place.item) is.branch.under in
    let test = c.if-above-eq0.true in
    let least = c.min-above.ensures in
    sym (ap (λ (ps : List Pair). slot_in (last_pair_before ps page)) (sym is.pairs) ∙ ap slot_in (before_none page 0 None entries all.ascends (omega arith)))

pub slot_of-requires : goal.slot_of-requires
slot_of-requires c =
    word_of_found _ (entries_under (words_at c.args.writer.now) c.root_of-root.result) c.entry_at-here.result.item
    c.root_of-root.ensures.root.numbered c.entry_at-here.ensures.item

pub returns-then-here-ne0-clause-slot : goal.returns-then-here-ne0-clause-slot
returns-then-here-ne0-clause-slot c =
    let root = c.root_of-root.result in
    let is = c.root_of-root.ensures.root in
    let page = c.args.page.0 in
    let above = c.min-above.result in
    let least = c.min-above.ensures in
    let test = c.if-above-eq0.false in
    let entries = entries_under (words_at c.args.writer.now) root in
    let all = entries_of_root c.args.writer.now c.args.tree.now root is in
    let edge : (page ≤ above - 1 + 1) ⊎ (items_end 0 entries ≤ above - 1 + 1) =
    subst (λ (e : ℕ). (page ≤ above - 1 + 1) ⊎ (e ≤ above - 1 + 1)) (is.limit ∙ sym all.ending) (edge_of page root.place.item.end above least test) in
    c.slot_of.ensures
    ∙ before_here page (above - 1) 0 None entries c.entry_at-here.result.item all.ascends (omega arith) (omega arith) edge c.entry_at-here.ensures.item c.if-here-ne0.true
    ∙ ap (λ (ps : List Pair). slot_in (last_pair_before ps page)) is.pairs

pub returns-then-here-eq0-clause-slot : goal.returns-then-here-eq0-clause-slot
returns-then-here-eq0-clause-slot c =
    let root = c.root_of-root.result in
    let is = c.root_of-root.ensures.root in
    let page = c.args.page.0 in
    let above = c.min-above.result in
    let least = c.min-above.ensures in
    let test = c.if-above-eq0.false in
    let entries = entries_under (words_at c.args.writer.now) root in
    let all = entries_of_root c.args.writer.now c.args.tree.now root is in
    let edge : (page ≤ above - 1 + 1) ⊎ (items_end 0 entries ≤ above - 1 + 1) =
    subst (λ (e : ℕ). (page ≤ above - 1 + 1) ⊎ (e ≤ above - 1 + 1)) (is.limit ∙ sym all.ending) (edge_of page root.place.item.end above least test) in
    let begins = c.entry_at-here.ensures.start ∙ ap (λ (p : ℕ). items_end p (ending_by (above - 1) entries)) is.begin in
    let first = c.if-here-eq0.true in
    sym (ap (λ (ps : List Pair). slot_in (last_pair_before ps page)) (sym is.pairs)
    ∙ ap slot_in (before_first page (above - 1) 0 None entries c.entry_at-here.result.item all.ascends (omega arith) (omega arith) edge
    c.entry_at-here.ensures.item c.if-here-ne0.false (omega arith)))

pub entry_at-before-requires-clause-within : goal.entry_at-before-requires-clause-within
entry_at-before-requires-clause-within c =
    let root = c.root_of-root.result in
    let is = c.root_of-root.ensures.root in
    let above = c.min-above.result in
    let least = c.min-above.ensures in
    let test = c.if-above-eq0.false in
    let entries = entries_under (words_at c.args.writer.now) root in
    let begins = c.entry_at-here.ensures.start ∙ ap (λ (p : ℕ). items_end p (ending_by (above - 1) entries)) is.begin in
    let low = ending_by_below 0 (above - 1) entries (omega arith) in
    omega arith

pub slot_of-requires-2 : goal.slot_of-requires-2
slot_of-requires-2 c =
    word_of_found _ (entries_under (words_at c.args.writer.now) c.root_of-root.result) c.entry_at-before.result.item
    c.root_of-root.ensures.root.numbered c.entry_at-before.ensures.item

pub returns-clause-slot : goal.returns-clause-slot
returns-clause-slot c =
    let root = c.root_of-root.result in
    let is = c.root_of-root.ensures.root in
    let page = c.args.page.0 in
    let above = c.min-above.result in
    let least = c.min-above.ensures in
    let test = c.if-above-eq0.false in
    let entries = entries_under (words_at c.args.writer.now) root in
    let all = entries_of_root c.args.writer.now c.args.tree.now root is in
    let edge : (page ≤ above - 1 + 1) ⊎ (items_end 0 entries ≤ above - 1 + 1) =
    subst (λ (e : ℕ). (page ≤ above - 1 + 1) ⊎ (e ≤ above - 1 + 1)) (is.limit ∙ sym all.ending) (edge_of page root.place.item.end above least test) in
    let begins = c.entry_at-here.ensures.start ∙ ap (λ (p : ℕ). items_end p (ending_by (above - 1) entries)) is.begin in
    let later = c.if-here-eq0.false in
    c.slot_of-2.ensures
    ∙ before_gap page (above - 1) 1 0 None entries c.entry_at-here.result.item c.entry_at-before.result.item all.ascends is.apart (omega arith) (omega arith)
    edge c.entry_at-here.ensures.item c.if-here-ne0.false (omega arith)
    (ap (λ (n : ℕ). item_at (n - 1) entries) (sym begins) ∙ c.entry_at-before.ensures.item)
    ∙ ap (λ (ps : List Pair). slot_in (last_pair_before ps page)) is.pairs
