-- For `AreaSlots::place_of`: the trees rise, so a binary search finds the place.
use Rattle.std.proofs.Common.{◌≡◌, true, false, subst, rules, tests}
use Rattle.std.specs.List.Sorted.{IsPartitionPoint}
use Rattle.std.proofs.lemmas.List.Sorted.{IsPartitionPoint-from_clause, IsPartitionedBy-leb}
use Rattle.area_slots.specs.declared.leaving.Leaving.{Leaving}
use Rattle.area_slots.specs.Slots.{SlotSet, retired_by}
use Rattle.area_slots.proofs.slots.AreaSlots.place_of.Goals as goal

pub returns-in-Some-clause-point : goal.returns-in-Some-clause-point
returns-in-Some-clause-point c = let left = c.self.inside.left.items in subst (λ (set : SlotSet). IsPartitionPoint (λ leaving. retired_by c.args.tree leaving ≡ true) (λ leaving. retired_by c.args.tree leaving ≡ false) set.left c.partition_point.result) c.self.view_is (
    IsPartitionPoint-from_clause (retired_by c.args.tree) left c.partition_point.result
    c.partition_point.ensures.partitioned (IsPartitionedBy-leb (λ (leaving : Leaving). leaving.tree) left c.args.tree c.self.invariant.rises)
    (λ x r q k. search (rules, tests)))
