-- For `AreaTree::grow`: a slot for the pages of an area and for free ones beside them.
use Rattle.std.proofs.Common.{◌∙◌, List, length, set, sym, ap, subst, arith}
use Rattle.std.proofs.lemmas.List.{length-set}
use Rattle.mm_types.specs.declared.area.Record.{Record}
use Rattle.area_tree.specs.SpanTrees.{SpanView}
use Rattle.area_tree.specs.AreaTrees.{AreRecords}
use Rattle.area_tree.proofs.Reshaped.{slot_below, record_below, grown_told, upto_told, told_shown}
use Rattle.area_tree.proofs.Unsealed.{set_open}
use Rattle.area_tree.proofs.tree.AreaTree.grow.Goals as goal

pub show-requires : goal.show-requires
show-requires c =
    let below = record_below c.self.inside c.args.self.now c.args.old.now c.args.shown c.self.invariant c.self.view_is c.facts.ensures.pairs c.requires.member c.requires.once in
    omega (arith, below)

pub store-requires-clause-span : goal.store-requires-clause-span
store-requires-clause-span c =
    let fields = c.self.inside in
    let told = grown_told fields c.args.self.now c.args.old.now c.args.shown c.self.invariant c.self.view_is c.facts.ensures.pairs c.requires.member c.requires.once
    c.requires.pages in (
      omega (arith, told.some, c.requires.pages.under, c.requires.pages.over),
      upto_told fields c.args.self.now c.args.old.now c.args.shown c.self.invariant c.self.view_is c.facts.ensures.pairs c.requires.member c.requires.once c.requires.pages,
    )

pub store-requires-clause-slot : goal.store-requires-clause-slot
store-requires-clause-slot c =
    let below = slot_below c.self.inside c.args.self.now c.args.old.now c.args.shown c.self.invariant c.self.view_is c.facts.ensures.pairs c.requires.member c.requires.once in
    omega (arith, below)

pub store-requires-clause-few : goal.store-requires-clause-few
store-requires-clause-few c =
    let told = grown_told c.self.inside c.args.self.now c.args.old.now c.args.shown c.self.invariant c.self.view_is c.facts.ensures.pairs c.requires.member c.requires.once
    c.requires.pages in
    omega (arith, told.count_is, c.facts.ensures.few)

pub invariant_of-self : goal.invariant_of-self
invariant_of-self c =
    let fields = c.self.inside in
    let kept = c.self.invariant in
    let told = grown_told fields c.args.self.now c.args.old.now c.args.shown kept c.self.view_is c.facts.ensures.pairs c.requires.member c.requires.once
    c.requires.pages in
    let areas = ap (λ (t : SpanView). t.areas) c.store.ensures in
    record {
      spans = rw c.show.ensures (subst (λ (t : SpanView). AreRecords (set fields.records c.args.shown.slot c.args.shown.area) t.pairs) (sym c.store.ensures) told.spans);
      counted = omega (arith, told.count_is, kept.counted, ap (λ (t : SpanView). length t.pairs) c.store.ensures);
      most_is = kept.most_is ∙ sym areas;
      slots = omega (arith, ap (λ (rs : List Record). length rs) c.show.ensures, length-set fields.records c.args.shown.slot c.args.shown.area, kept.slots, areas);
      limit = kept.limit ∙ sym (ap (λ (t : SpanView). t.limit) c.store.ensures);
      top = kept.top;
      window = kept.window;
      empty = kept.empty;
      room = omega (arith, kept.room, areas);
      unsealed = λ none. rw c.show.ensures (set_open fields.records c.args.shown.slot c.args.shown.area fields.sealed kept.unsealed none);
    }

pub returns-clause-shown : goal.returns-clause-shown
returns-clause-shown c =
    let told = grown_told c.self.inside c.args.self.now c.args.old.now c.args.shown c.self.invariant c.self.view_is c.facts.ensures.pairs c.requires.member c.requires.once
    c.requires.pages in
    rw c.show.ensures (told_shown c.self.inside c.args.self.now c.args.old.now c.args.shown c.self.invariant c.self.view_is c.facts.ensures.pairs c.requires.member c.requires.once
    c.store.new.self _ (ap (λ (t : SpanView). t.pairs) c.store.ensures) told)
