-- For `AreaSlots::take`: a slot that was free is taken.
use Rattle.area_slots.proofs.Keeping.{taken_from}
use Rattle.area_slots.proofs.slots.AreaSlots.take.Goals as goal

pub returns-clause-taken : goal.returns-clause-taken
returns-clause-taken c = taken_from c.self.inside.free.items c.pop.new.self.items c.self.inside.left.items c.self.inside.count c.in_ok-slot.slot
    c.in_ok-slot.ensures.items c.self.invariant.once
