-- For `first_leaf`: the leaf is the tree, and row 0 is kept until it is left.
use Rattle.std.proofs.Common.{◌≡◌, ◌∙◌, List, true, ap, sym, subst, arith}
use Rattle.maple_node.specs.declared.item.NodeItem.{NodeItem}
use Rattle.maple_node.specs.Nodes.{Ascends, KeepsNoGap, words_of_items, items_end}
use Rattle.maple_node.proofs.ItemEntries.{overwrite-ascends, overwrite-ends, overwrite-plain}
use Rattle.node_slots.specs.declared.view.NodeView.{NodeView}
use Rattle.maple_write.specs.Internal.Tables.{table_at}
use Rattle.maple_write.specs.Internal.Stores.{all_gap}
use Rattle.maple_write.proofs.Writers.{fills_none, fills_both, left_more, free_more}
use Rattle.maple_write.proofs.Waiting.{leave_waits}
use Rattle.maple_write.proofs.Stores.{gap_is, leaf_made, kept_after_put, kept_zero}
use Rattle.maple_write.proofs.storing.first_leaf.Goals as goal

pub put-top-requires-clause-ascends : goal.put-top-requires-clause-ascends
put-top-requires-clause-ascends c =
    let lo = c.args.span.lo in
    let hi = c.args.span.hi in
    let some = c.requires.some in
    let within = c.requires.limit in
    let gap = gap_is c.args.limit (omega arith) in
    let are = c.as_slice.ensures.value ∙ c.first_entries-entries.ensures.entries in
    subst (λ (xs : List NodeItem). Ascends 0 xs) (sym are) (overwrite-ascends lo hi c.args.word (all_gap c.args.limit) gap.ascends some within)

pub put-top-requires-clause-plain : goal.put-top-requires-clause-plain
put-top-requires-clause-plain c =
    let lo = c.args.span.lo in
    let hi = c.args.span.hi in
    let some = c.requires.some in
    let within = c.requires.limit in
    let gap = gap_is c.args.limit (omega arith) in
    let are = c.as_slice.ensures.value ∙ c.first_entries-entries.ensures.entries in
    subst (λ (xs : List NodeItem). KeepsNoGap true xs) (sym are) (overwrite-plain lo hi c.args.word (all_gap c.args.limit) gap.plain)

pub leave-requires : goal.leave-requires
leave-requires c = record {
  kept = kept_after_put c.args.writer.now c.put-top.new.writer c.put-top.result.word c.requires.kept c.requires.rows c.put-top.ensures.same c.put-top.ensures.taken
      c.put-top.ensures.left;
}

pub returns-clause-shaped : goal.returns-clause-shaped
returns-clause-shaped c =
    let lo = c.args.span.lo in
    let hi = c.args.span.hi in
    let some = c.requires.some in
    let within = c.requires.limit in
    let gap = gap_is c.args.limit (omega arith) in
    let are = c.as_slice.ensures.value ∙ c.first_entries-entries.ensures.entries in
    let ends : items_end 0 c.as_slice.result.now ≡ c.args.limit =
    ap (items_end 0) are ∙ overwrite-ends lo hi c.args.word (all_gap c.args.limit) gap.ascends some within in
    let old = c.args.writer.now in
    let made = c.put-top.new.writer in
    let after = c.leave.new.self in
    let is = leaf_made (table_at old) (table_at made) (table_at after) c.args.limit c.as_slice.result.now c.put-top.result (words_of_items true c.as_slice.result.now)
    (kept_zero old c.requires.kept) (omega arith) ends c.put-top.ensures.node c.put-top.ensures.items c.put-top.ensures.until c.put-top.ensures.words
    c.put-top.ensures.taken c.put-top.ensures.left (ap (λ (v : NodeView). v.known.writer_state.words) c.leave.ensures.view)
    (λ row. left_more made after 0 row c.leave.ensures.free c.leave.ensures.left) in
    is.shaped

pub returns-clause-entries : goal.returns-clause-entries
returns-clause-entries c =
    let lo = c.args.span.lo in
    let hi = c.args.span.hi in
    let some = c.requires.some in
    let within = c.requires.limit in
    let gap = gap_is c.args.limit (omega arith) in
    let are = c.as_slice.ensures.value ∙ c.first_entries-entries.ensures.entries in
    let ends : items_end 0 c.as_slice.result.now ≡ c.args.limit =
    ap (items_end 0) are ∙ overwrite-ends lo hi c.args.word (all_gap c.args.limit) gap.ascends some within in
    let old = c.args.writer.now in
    let made = c.put-top.new.writer in
    let after = c.leave.new.self in
    let is = leaf_made (table_at old) (table_at made) (table_at after) c.args.limit c.as_slice.result.now c.put-top.result (words_of_items true c.as_slice.result.now)
    (kept_zero old c.requires.kept) (omega arith) ends c.put-top.ensures.node c.put-top.ensures.items c.put-top.ensures.until c.put-top.ensures.words
    c.put-top.ensures.taken c.put-top.ensures.left (ap (λ (v : NodeView). v.known.writer_state.words) c.leave.ensures.view)
    (λ row. left_more made after 0 row c.leave.ensures.free c.leave.ensures.left) in
    is.entries ∙ are

pub returns-clause-limit : goal.returns-clause-limit
returns-clause-limit c =
    let lo = c.args.span.lo in
    let hi = c.args.span.hi in
    let some = c.requires.some in
    let within = c.requires.limit in
    let gap = gap_is c.args.limit (omega arith) in
    let are = c.as_slice.ensures.value ∙ c.first_entries-entries.ensures.entries in
    c.put-top.ensures.until ∙ ap (items_end 0) are ∙ overwrite-ends lo hi c.args.word (all_gap c.args.limit) gap.ascends some within

pub returns-clause-free : goal.returns-clause-free
returns-clause-free c =
    let taken = c.put-top.ensures.free in
    let back = free_more c.put-top.new.writer c.leave.new.self 0 c.leave.ensures.free in
    omega arith

pub returns-clause-same : goal.returns-clause-same
returns-clause-same c =
    let put = c.put-top.new.writer in
    let left = c.leave.new.self in
    fills_both c.args.writer.now put left c.put-top.ensures.same
    (fills_none put left c.leave.ensures.view (λ row. leave_waits put left 0 row c.leave.ensures.view c.leave.ensures.left)
    c.leave.ensures.table)
