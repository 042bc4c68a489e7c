-- For `store_moved`: the last of what moved is stored.
use Rattle.std.proofs.Common.{◌++◌, ◌∙◌, ap, subst, sym, refl}
use Rattle.std.proofs.lemmas.List.Sorted.{IsPermutation-refl, IsPermutation-trans}
use Rattle.area_tree.specs.AreaTrees.{AreaTreeView, shown_of}
use Rattle.mm_state.specs.Internal.AreaStores.{CanHold}
use Rattle.mm_state.proofs.Changing.{tree_step}
use Rattle.mm_state.proofs.Storing.{hold_permuted, moved_in, last_within, last_slot, last_free, last_few, last_pages}
use Rattle.mm_state.proofs.spans.store_moved.Goals as goal

pub insert-requires-clause-roomy : goal.insert-requires-clause-roomy
insert-requires-clause-roomy c = c.loop-shown.invariant.can.0

pub insert-requires-clause-span : goal.insert-requires-clause-span
insert-requires-clause-span c = last_within c.loop-shown.areas.tree.areas c.loop-shown.areas.tree.limit (shown_of c.loop-shown.areas) c.loop-shown.moved.items
    c.pop.new.self.items c.in-Some.shown c.in-Some.ensures.items c.loop-shown.invariant.can.1

pub insert-requires-clause-pages : goal.insert-requires-clause-pages
insert-requires-clause-pages c = last_pages c.loop-shown.areas.tree.areas c.loop-shown.areas.tree.limit (shown_of c.loop-shown.areas) c.loop-shown.moved.items
    c.pop.new.self.items c.in-Some.shown c.in-Some.ensures.items c.loop-shown.invariant.can.1

pub insert-requires-clause-slot : goal.insert-requires-clause-slot
insert-requires-clause-slot c = last_slot c.loop-shown.areas.tree.areas c.loop-shown.areas.tree.limit (shown_of c.loop-shown.areas) c.loop-shown.moved.items
    c.pop.new.self.items c.in-Some.shown c.in-Some.ensures.items c.loop-shown.invariant.can.1

pub insert-requires-clause-free : goal.insert-requires-clause-free
insert-requires-clause-free c = last_free c.loop-shown.areas.tree.areas c.loop-shown.areas.tree.limit (shown_of c.loop-shown.areas) c.loop-shown.moved.items
    c.pop.new.self.items c.in-Some.shown c.in-Some.ensures.items c.loop-shown.invariant.can.1

pub insert-requires-clause-few : goal.insert-requires-clause-few
insert-requires-clause-few c = last_few c.loop-shown.areas.tree.areas c.loop-shown.areas.tree.limit (shown_of c.loop-shown.areas) c.loop-shown.moved.items
    c.pop.new.self.items c.in-Some.shown c.in-Some.ensures.items c.loop-shown.invariant.can.1

pub loop-shown-init : goal.loop-shown-init
loop-shown-init c = record {
  can = c.requires;
  shown = IsPermutation-refl (shown_of c.args.areas.now ++ c.args.moved.now.items);
  room = refl;
  same = refl;
}

pub loop-shown-preserved : goal.loop-shown-preserved
loop-shown-preserved c =
    let old = c.loop-shown.areas in
    let new = c.insert.new.self in
    let moved = moved_in (shown_of old) c.loop-shown.moved.items (shown_of new) c.pop.new.self.items c.in-Some.shown c.in-Some.ensures.items c.insert.ensures.shown in
    let same = c.insert.ensures.same in
    record {
      can = (
        ap (λ (t : AreaTreeView). t.tree.roomy) same ∙ c.loop-shown.invariant.can.0,
        subst (λ (t : AreaTreeView). CanHold t.tree.areas t.tree.limit (shown_of new ++ c.pop.new.self.items)) (sym same)
            (hold_permuted old.tree.areas old.tree.limit (shown_of old ++ c.loop-shown.moved.items) (shown_of new ++ c.pop.new.self.items) moved c.loop-shown.invariant.can.1),
      );
      shown = IsPermutation-trans (shown_of c.args.areas.now ++ c.args.moved.now.items) (shown_of old ++ c.loop-shown.moved.items) (shown_of new ++ c.pop.new.self.items)
          c.loop-shown.invariant.shown moved;
      room = c.pop.ensures.capacity ∙ c.loop-shown.invariant.room;
      same = tree_step c.args.areas.now old new c.loop-shown.invariant.same
          (same ∙ ap (λ (t : AreaTreeView). record old { tree = record old.tree { pairs = t.tree.pairs; changed = t.tree.changed; free = t.tree.free }; records = t.records; sealed = t.sealed }) (sym same));
    }
