-- For `AreaTree::split`: the pages that an area loses are stored for another slot.
use Rattle.std.proofs.Common.{◌≡◌, ◌∙◌, ◌||◌, List, length, set, sym, ap, subst, arith}
use Rattle.std.proofs.lemmas.List.{length-set}
use Rattle.mm_types.specs.declared.area.Record.{Record}
use Rattle.area_tree.specs.SpanTrees.{SpanView}
use Rattle.area_tree.specs.AreaTrees.{AreaTreeView, AreRecords}
use Rattle.area_tree.proofs.Changing.{counted}
use Rattle.area_tree.proofs.Splitting.{CanSplit, shown_below, other_below, split_off_told, split_off_shown}
use Rattle.area_tree.proofs.Unsealed.{set_open}
use Rattle.area_tree.proofs.tree.AreaTree.split.Goals as goal

pub show-requires : goal.show-requires
show-requires c =
    let can : CanSplit c.args.self.now c.args.old.now c.args.shown c.args.other =
    record { member = c.requires.member; part = c.requires.part; lost = c.requires.lost; once = c.requires.once; slot = c.requires.slot; free = c.requires.free } in
    let below = shown_below c.self.inside c.args.self.now c.args.old.now c.args.shown c.args.other c.self.invariant c.self.view_is c.facts.ensures.pairs can in
    omega (arith, below)

pub show-requires-2 : goal.show-requires-2
show-requires-2 c =
    let can : CanSplit c.args.self.now c.args.old.now c.args.shown c.args.other =
    record { member = c.requires.member; part = c.requires.part; lost = c.requires.lost; once = c.requires.once; slot = c.requires.slot; free = c.requires.free } in
    let below = other_below c.self.inside c.args.self.now c.args.old.now c.args.shown c.args.other c.self.invariant c.self.view_is c.facts.ensures.pairs can in
    omega (arith, below, ap (λ (rs : List Record). length rs) c.show.ensures, length-set c.self.inside.records c.args.shown.slot c.args.shown.area)

pub store-requires-clause-span : goal.store-requires-clause-span
store-requires-clause-span c =
    let can : CanSplit c.args.self.now c.args.old.now c.args.shown c.args.other =
    record { member = c.requires.member; part = c.requires.part; lost = c.requires.lost; once = c.requires.once; slot = c.requires.slot; free = c.requires.free } in
    let told = split_off_told c.self.inside c.args.self.now c.args.old.now c.args.shown c.args.other c.self.invariant c.self.view_is c.facts.ensures.pairs can in
    (told.some, told.upto)

pub store-requires-clause-few : goal.store-requires-clause-few
store-requires-clause-few c =
    let can : CanSplit c.args.self.now c.args.old.now c.args.shown c.args.other =
    record { member = c.requires.member; part = c.requires.part; lost = c.requires.lost; once = c.requires.once; slot = c.requires.slot; free = c.requires.free } in
    let told = split_off_told c.self.inside c.args.self.now c.args.old.now c.args.shown c.args.other c.self.invariant c.self.view_is c.facts.ensures.pairs can in
    omega (arith, told.count_is, c.requires.few, counted c.self.inside c.args.self.now c.self.view_is, ap (λ (v : AreaTreeView). v.tree.areas) c.self.view_is)

pub invariant_of-self : goal.invariant_of-self
invariant_of-self c =
    let fields = c.self.inside in
    let kept = c.self.invariant in
    let can : CanSplit c.args.self.now c.args.old.now c.args.shown c.args.other =
    record { member = c.requires.member; part = c.requires.part; lost = c.requires.lost; once = c.requires.once; slot = c.requires.slot; free = c.requires.free } in
    let told = split_off_told fields c.args.self.now c.args.old.now c.args.shown c.args.other kept c.self.view_is c.facts.ensures.pairs can in
    let first : List Record = set fields.records c.args.shown.slot c.args.shown.area in
    let areas = ap (λ (t : SpanView). t.areas) c.store.ensures in
    let records : c.show-2.new.self ≡ set first c.args.other.slot c.args.other.area =
    c.show-2.ensures ∙ ap (λ (rs : List Record). set rs c.args.other.slot c.args.other.area) c.show.ensures in
    record {
      spans = rw records (subst (λ (t : SpanView). AreRecords (set first c.args.other.slot c.args.other.area) t.pairs) (sym c.store.ensures) told.spans);
      counted = omega (arith, told.count_is, kept.counted, ap (λ (t : SpanView). length t.pairs) c.store.ensures);
      most_is = kept.most_is ∙ sym areas;
      slots = omega (
        arith,
        ap (λ (rs : List Record). length rs) records,
        length-set fields.records c.args.shown.slot c.args.shown.area,
        length-set first c.args.other.slot c.args.other.area,
        kept.slots,
        areas,
      );
      limit = kept.limit ∙ sym (ap (λ (t : SpanView). t.limit) c.store.ensures);
      top = kept.top;
      window = kept.window;
      empty = kept.empty;
      room = omega (arith, kept.room, areas);
      unsealed = λ none. rw records (set_open first c.args.other.slot c.args.other.area (fields.sealed || c.args.shown.area.attr.sealed)
          (λ shown_none. set_open fields.records c.args.shown.slot c.args.shown.area fields.sealed kept.unsealed shown_none) none);
    }

pub returns-clause-shown : goal.returns-clause-shown
returns-clause-shown c =
    let can : CanSplit c.args.self.now c.args.old.now c.args.shown c.args.other =
    record { member = c.requires.member; part = c.requires.part; lost = c.requires.lost; once = c.requires.once; slot = c.requires.slot; free = c.requires.free } in
    rw (c.show-2.ensures, c.show.ensures) (split_off_shown c.self.inside c.args.self.now c.args.old.now c.args.shown c.args.other c.self.invariant c.self.view_is c.facts.ensures.pairs can
    c.store.new.self (ap (λ (t : SpanView). t.pairs) c.store.ensures))
