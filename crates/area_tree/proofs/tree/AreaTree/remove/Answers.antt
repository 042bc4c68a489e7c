-- For `AreaTree::remove`: a pair is taken out.
use Rattle.std.proofs.Common.{◌∙◌, length, sym, ap, subst, arith}
use Rattle.area_tree.specs.SpanTrees.{SpanView}
use Rattle.area_tree.specs.AreaTrees.{AreRecords}
use Rattle.area_tree.proofs.Changing.{less_area, less_shown}
use Rattle.area_tree.proofs.tree.AreaTree.remove.Goals as goal

pub store-requires-clause-span : goal.store-requires-clause-span
store-requires-clause-span c =
    let told = (less_area c.self.inside c.args.self.now c.args.area.now c.self.invariant c.self.view_is c.facts.ensures.pairs c.requires.member).1 in
    (told.some, told.upto)

pub store-requires-clause-few : goal.store-requires-clause-few
store-requires-clause-few c =
    let told = (less_area c.self.inside c.args.self.now c.args.area.now c.self.invariant c.self.view_is c.facts.ensures.pairs c.requires.member).1 in
    omega (arith, told.count_is, c.facts.ensures.few)

pub invariant_of-self : goal.invariant_of-self
invariant_of-self c =
    let fields = c.self.inside in
    let kept = c.self.invariant in
    let told = (less_area fields c.args.self.now c.args.area.now kept c.self.view_is c.facts.ensures.pairs c.requires.member).1 in
    let areas = ap (λ (t : SpanView). t.areas) c.store.ensures in
    record {
      spans = subst (λ (t : SpanView). AreRecords fields.records t.pairs) (sym c.store.ensures) told.spans;
      counted = omega (arith, told.count_is, kept.counted, ap (λ (t : SpanView). length t.pairs) c.store.ensures);
      most_is = kept.most_is ∙ sym areas;
      slots = omega (arith, kept.slots, areas);
      limit = kept.limit ∙ sym (ap (λ (t : SpanView). t.limit) c.store.ensures);
      top = kept.top;
      window = kept.window;
      empty = kept.empty;
      room = omega (arith, kept.room, areas);
      unsealed = kept.unsealed;
    }

pub returns-clause-shown : goal.returns-clause-shown
returns-clause-shown c = λ slot member.
    less_shown c.self.inside c.args.self.now c.store.new.self slot c.args.area.now c.self.invariant c.self.view_is c.facts.ensures.pairs
    (ap (λ (t : SpanView). t.pairs) c.store.ensures) member
