-- For `AreaSlots::seen`: the first that left is freed, until none is left that left by the tree.
use Rattle.std.proofs.Common.{◌≡◌, ◌∷◌, ◌++◌, List, length, drop, sym, ap, subst, ◌∙◌, arith}
use Rattle.std.specs.List.Sorted.{IsNonDecreasingBy}
use Rattle.area_slots.specs.declared.leaving.Leaving.{Leaving}
use Rattle.area_slots.specs.Slots.{SlotSet, slots_left, gone_by, gone_after}
use Rattle.area_slots.proofs.Keeping.{Once, length-both, once_freed, rises_tail, none_gone, set_is}
use Rattle.area_slots.proofs.slots.AreaSlots.seen.Goals as goal

first : (c : goal.After-push_reserved) → c.self.inside.left.items ≡ c.in-Some.leaving ∷ c.pop_front-first.new.self.items
first c = ap (λ (set : SlotSet). set.left) c.self.view_is ∙ c.in-Some.ensures.first.1
    ∙ ap (λ rest. c.in-Some.leaving ∷ rest) (ap (λ (set : SlotSet). drop 1 set.left) (sym c.self.view_is) ∙ sym c.pop_front-first.ensures.rest)

pub push_reserved-requires : goal.push_reserved-requires
push_reserved-requires c =
    let some = ap length (ap (λ (set : SlotSet). set.left) c.self.view_is ∙ c.in-Some.ensures.first.1) in
    omega (
      arith,
      length-both c.self.inside.free.items c.self.inside.left.items c.self.inside.count c.self.invariant.once,
      some,
      c.self.invariant.all_free,
      c.self.inside.free.ok.0,
    )

pub invariant_of-self : goal.invariant_of-self
invariant_of-self c = let is = first c in record {
  once = rw c.push_reserved.ensures.items (once_freed c.self.inside.free.items c.in-Some.leaving c.pop_front-first.new.self.items c.self.inside.count
      (subst (λ (left : List Leaving). Once c.self.inside.free.items left c.self.inside.count) is c.self.invariant.once));
  rises = rises_tail c.in-Some.leaving c.pop_front-first.new.self.items
      (subst (λ (left : List Leaving). IsNonDecreasingBy (λ (leaving : Leaving). leaving.tree) left) is c.self.invariant.rises);
  all_free = omega (arith, c.self.invariant.all_free, c.push_reserved.ensures.capacity);
  all_left = omega (arith, c.self.invariant.all_left, c.pop_front-first.ensures.capacity);
}

pub returns : goal.returns
returns c =
    let ends = none_gone c.args.tree c.loop-leaving.self.free c.loop-leaving.self.left c.args.self.now.free c.args.self.now.left
    (subst (λ (set : SlotSet). IsNonDecreasingBy (λ (leaving : Leaving). leaving.tree) set.left) c.self.view_is c.self.invariant.rises)
    c.in_default.ensures.none c.loop-leaving.invariant.becomes in
    set_is c.loop-leaving.self (c.args.self.now.free ++ slots_left (gone_by c.args.tree c.args.self.now.left)) (gone_after c.args.tree c.args.self.now.left)
    c.args.self.now.count ends.0 ends.1 c.loop-leaving.invariant.count
