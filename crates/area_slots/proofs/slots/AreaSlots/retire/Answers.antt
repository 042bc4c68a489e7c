-- For `AreaSlots::retire`: the slot has its place among those that left.
use Rattle.std.proofs.Common.{◌≡◌, ◌≤◌, ◌++◌, ◌∷◌, length, arith, subst, sym, ap, ◌∙◌, true, false, deque_len, deque_capacity}
use Rattle.std.specs.List.{insert}
use Rattle.std.specs.List.Sorted.{IsPartitionPoint}
use Rattle.area_slots.specs.Slots.{SlotSet, IsSlotTaken, retired_by, gone_by, gone_after}
use Rattle.area_slots.proofs.Keeping.{on_ok, once_retired, room_retired, rises_retired, left_retired}
use Rattle.area_slots.proofs.slots.AreaSlots.retire.Goals as goal

taken : (c : goal.After-insert-fits) → IsSlotTaken (record { free = c.self.inside.free.items; left = c.self.inside.left.items; count = c.self.inside.count }) c.args.slot.0
taken c = subst (λ (set : SlotSet). IsSlotTaken set c.args.slot.0) (sym c.self.view_is) c.requires

items : (c : goal.After-insert-fits) → c.insert-fits.new.self.items ≡ insert c.self.inside.left.items c.place_of-place.result (record { slot = c.args.slot.0; tree = c.args.tree })
items c = on_ok c.insert-fits.result _ (deque_capacity c.self.inside.left ≤ deque_len c.self.inside.left) c.insert-fits.ensures.items c.insert-fits.ensures.full
    (λ full. omega (
      arith,
      room_retired c.self.inside.free.items c.self.inside.left.items c.self.inside.count c.args.slot.0 c.self.invariant.once (taken c),
      c.self.invariant.all_left,
      c.self.inside.left.ok.0,
    ))

point : (c : goal.After-insert-fits) → (c.place_of-place.result ≤ length c.self.inside.left.items)
    × IsPartitionPoint (λ leaving. retired_by c.args.tree leaving ≡ true) (λ leaving. retired_by c.args.tree leaving ≡ false) c.self.inside.left.items c.place_of-place.result
point c = subst (λ (set : SlotSet). (c.place_of-place.result ≤ length set.left)
    × IsPartitionPoint (λ leaving. retired_by c.args.tree leaving ≡ true) (λ leaving. retired_by c.args.tree leaving ≡ false) set.left c.place_of-place.result) (sym c.self.view_is)
    (c.place_of-place.ensures.within, c.place_of-place.ensures.point)

pub invariant_of-self : goal.invariant_of-self
invariant_of-self c = let is = items c in record {
  once = rw is (once_retired c.self.inside.free.items c.self.inside.left.items c.self.inside.count c.place_of-place.result c.args.slot.0 c.args.tree c.self.invariant.once (taken c));
  rises = rw is (rises_retired c.self.inside.left.items c.place_of-place.result c.args.slot.0 c.args.tree c.self.invariant.rises (point c).0 (point c).1);
  all_free = c.self.invariant.all_free;
  all_left = omega (arith, c.self.invariant.all_left, c.insert-fits.ensures.capacity);
}

pub returns : goal.returns
returns c = ap (λ left. record { free = c.self.inside.free.items; left = left; count = c.self.inside.count })
    (items c ∙ left_retired c.self.inside.left.items c.place_of-place.result c.args.slot.0 c.args.tree (point c).0 (point c).1)
    ∙ ap (λ (set : SlotSet). record {
      free = set.free;
      left = gone_by c.args.tree set.left ++ record { slot = c.args.slot.0; tree = c.args.tree } ∷ gone_after c.args.tree set.left;
      count = set.count;
    }) c.self.view_is
