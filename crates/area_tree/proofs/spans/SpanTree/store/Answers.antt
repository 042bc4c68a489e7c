-- For `SpanTree::store`: the rows are there, and a store keeps the tree.
use Rattle.std.proofs.Common.{◌≡◌, ◌≤◌, ◌∙◌, true, length, sym, ap, subst}
use Rattle.maple_node.specs.Words.{slot_word}
use Rattle.maple_node.specs.Pairs.{overwritten}
use Rattle.node_slots.specs.Seats.{free_of}
use Rattle.node_slots.specs.Built.{pairs_now}
use Rattle.area_tree.specs.SpanTrees.{SpanView}
use Rattle.area_tree.specs.SpanKept.{span_view}
use Rattle.area_tree.proofs.Counts.{room_left}
use Rattle.area_tree.proofs.SpanStoring.{stored_kept, stored_view}
use Rattle.area_tree.proofs.spans.SpanTree.store.Goals as goal

pub store-requires-clause-free : goal.store-requires-clause-free
store-requires-clause-free c =
    let fields = c.self.inside in
    let kept = c.self.invariant in
    let roomy : fields.roomy ≡ true = ap (λ v. v.roomy) c.self.view_is ∙ c.requires.roomy in
    room_left fields.writer fields.tree fields.areas kept.tree kept.few_pairs kept.few_areas (kept.room roomy)

pub invariant_of-self : goal.invariant_of-self
invariant_of-self c =
    let fields = c.self.inside in
    let kept = c.self.invariant in
    let roomy : fields.roomy ≡ true = ap (λ v. v.roomy) c.self.view_is ∙ c.requires.roomy in
    let few : length (overwritten c.args.span.lo c.args.span.hi (slot_word c.args.slot) (pairs_now fields.writer fields.tree)) ≤ fields.areas =
    subst (λ (v : SpanView). length (overwritten c.args.span.lo c.args.span.hi (slot_word c.args.slot) v.pairs) ≤ v.areas)
    (sym c.self.view_is) c.requires.few in
    stored_kept fields c.store.new.writer c.store.new.tree fields.roomy c.store.ensures.table c.store.ensures.same (c.store.ensures.built c.requires.span.0)
    c.store.ensures.limit
    (rw (c.store.ensures.pairs c.requires.span.0) few)
    (kept.room roomy) kept

pub returns : goal.returns
returns c =
    let fields = c.self.inside in
    let pairs = overwritten c.args.span.lo c.args.span.hi (slot_word c.args.slot) in
    subst (λ (v : SpanView). span_view (record fields { writer = c.store.new.writer; tree = c.store.new.tree; changed = true })
    ≡ record v { pairs = pairs v.pairs; changed = true; free = length (free_of c.store.new.writer) })
    c.self.view_is
    (stored_view fields c.store.new.writer c.store.new.tree (pairs (pairs_now fields.writer fields.tree)) c.store.ensures.same c.store.ensures.limit
    (c.store.ensures.pairs c.requires.span.0))
