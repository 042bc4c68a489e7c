-- For `AreaTree::insert`: one more pair is stored.
use Rattle.std.proofs.Common.{◌∙◌, List, length, set, sym, ap, subst, arith}
use Rattle.std.proofs.lemmas.List.{length-set}
use Rattle.mm_types.specs.declared.area.Record.{Record}
use Rattle.area_tree.specs.SpanTrees.{SpanView}
use Rattle.area_tree.specs.AreaTrees.{AreaTreeView, AreRecords}
use Rattle.area_tree.proofs.Changing.{counted, more, more_shown}
use Rattle.area_tree.proofs.Unsealed.{set_open}
use Rattle.area_tree.proofs.tree.AreaTree.insert.Goals as goal

pub store-requires-clause-few : goal.store-requires-clause-few
store-requires-clause-few c =
    let told = more c.self.inside c.args.self.now c.args.shown c.self.invariant c.self.view_is c.facts.ensures.pairs c.requires.span.0 c.requires.pages c.requires.slot c.requires.free in
    omega (arith, told.count_is, c.requires.few, counted c.self.inside c.args.self.now c.self.view_is, ap (λ (v : AreaTreeView). v.tree.areas) c.self.view_is)

pub invariant_of-self : goal.invariant_of-self
invariant_of-self c =
    let fields = c.self.inside in
    let kept = c.self.invariant in
    let told = more fields c.args.self.now c.args.shown kept c.self.view_is c.facts.ensures.pairs c.requires.span.0 c.requires.pages c.requires.slot c.requires.free in
    let areas = ap (λ (t : SpanView). t.areas) c.store.ensures in
    record {
      spans = rw c.show.ensures (subst (λ (t : SpanView). AreRecords (set fields.records c.args.shown.slot c.args.shown.area) t.pairs) (sym c.store.ensures) told.spans);
      counted = omega (arith, told.count_is, kept.counted, ap (λ (t : SpanView). length t.pairs) c.store.ensures);
      most_is = kept.most_is ∙ sym areas;
      slots = omega (arith, ap (λ (rs : List Record). length rs) c.show.ensures, length-set fields.records c.args.shown.slot c.args.shown.area, kept.slots, areas);
      limit = kept.limit ∙ sym (ap (λ (t : SpanView). t.limit) c.store.ensures);
      top = kept.top;
      window = kept.window;
      empty = kept.empty;
      room = omega (arith, kept.room, areas);
      unsealed = λ none. rw c.show.ensures (set_open fields.records c.args.shown.slot c.args.shown.area fields.sealed kept.unsealed none);
    }

pub returns-clause-shown : goal.returns-clause-shown
returns-clause-shown c =
    let told = more c.self.inside c.args.self.now c.args.shown c.self.invariant c.self.view_is c.facts.ensures.pairs c.requires.span.0 c.requires.pages c.requires.slot c.requires.free in
    rw c.show.ensures (more_shown c.self.inside c.args.self.now c.store.new.self c.args.shown c.self.view_is (ap (λ (t : SpanView). t.pairs) c.store.ensures) told)
