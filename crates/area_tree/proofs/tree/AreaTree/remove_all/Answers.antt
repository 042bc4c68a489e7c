-- For `AreaTree::remove_all`: a gap for the pages of areas that adjoin each other.
use Rattle.std.proofs.Common.{◌∙◌, length, sym, ap, subst, arith}
use Rattle.area_tree.specs.SpanTrees.{SpanView}
use Rattle.area_tree.specs.AreaTrees.{AreRecords}
use Rattle.area_tree.proofs.Taking.{adjoin_some, taken_told, taken_shown}
use Rattle.area_tree.proofs.tree.AreaTree.remove_all.Goals as goal

pub store-requires-clause-span : goal.store-requires-clause-span
store-requires-clause-span c =
    let areas = c.requires.areas in
    let told = taken_told c.self.inside c.args.self.now c.self.invariant c.self.view_is c.facts.ensures.pairs c.args.span.lo c.args.span.hi
    areas.0 areas.1 areas.2 (omega (arith, areas.3, areas.4)) in
    (told.some, told.upto)

pub store-requires-clause-few : goal.store-requires-clause-few
store-requires-clause-few c =
    let areas = c.requires.areas in
    let told = taken_told c.self.inside c.args.self.now c.self.invariant c.self.view_is c.facts.ensures.pairs c.args.span.lo c.args.span.hi
    areas.0 areas.1 areas.2 (omega (arith, areas.3, areas.4)) in
    omega (arith, told.count_is, c.facts.ensures.few)

pub overflow_sub-self : goal.overflow_sub-self
overflow_sub-self c =
    let areas = c.requires.areas in
    let told = taken_told c.self.inside c.args.self.now c.self.invariant c.self.view_is c.facts.ensures.pairs c.args.span.lo c.args.span.hi
    areas.0 areas.1 areas.2 (omega (arith, areas.3, areas.4)) in
    omega (arith, told.count_is, areas.3, c.self.invariant.counted)

pub invariant_of-self : goal.invariant_of-self
invariant_of-self c =
    let fields = c.self.inside in
    let kept = c.self.invariant in
    let taken = c.requires.areas in
    let told = taken_told fields c.args.self.now kept c.self.view_is c.facts.ensures.pairs c.args.span.lo c.args.span.hi
    taken.0 taken.1 taken.2 (omega (arith, taken.3, taken.4)) in
    let areas = ap (λ (t : SpanView). t.areas) c.store.ensures in
    record {
      spans = subst (λ (t : SpanView). AreRecords fields.records t.pairs) (sym c.store.ensures) told.spans;
      counted = omega (arith, told.count_is, taken.3, kept.counted, ap (λ (t : SpanView). length t.pairs) c.store.ensures);
      most_is = kept.most_is ∙ sym areas;
      slots = omega (arith, kept.slots, areas);
      limit = kept.limit ∙ sym (ap (λ (t : SpanView). t.limit) c.store.ensures);
      top = kept.top;
      window = kept.window;
      empty = kept.empty;
      room = omega (arith, kept.room, areas);
      unsealed = kept.unsealed;
    }

pub returns-clause-shown : goal.returns-clause-shown
returns-clause-shown c = λ taken members adjoin.
    let areas = c.requires.areas in
    let pages = (taken_told c.self.inside c.args.self.now c.self.invariant c.self.view_is c.facts.ensures.pairs c.args.span.lo c.args.span.hi
    areas.0 areas.1 areas.2 (omega (arith, areas.3, areas.4))).some in
    taken_shown c.self.inside c.args.self.now c.self.invariant c.self.view_is c.facts.ensures.pairs c.args.span.lo c.args.span.hi
    c.store.new.self taken (ap (λ (t : SpanView). t.pairs) c.store.ensures)
    (taken_told c.self.inside c.args.self.now c.self.invariant c.self.view_is c.facts.ensures.pairs c.args.span.lo c.args.span.hi
    taken members adjoin (adjoin_some c.args.span.lo c.args.span.hi taken pages adjoin))
