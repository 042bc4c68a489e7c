-- The proof of `seen`: what its loop keeps, and that it ends.
use Rattle.std.proofs.Common.{◌≡◌, length}
use Rattle.area_slots.proofs.Keeping.{Becomes}
use Rattle.area_slots.proofs.slots.AreaSlots.seen.Given as goal

abbrev pub invariant-loop-leaving : goal.invariant-loop-leaving
invariant-loop-leaving l = record {
  count : l.self.count ≡ l.initial.self.count;
  becomes : Becomes l.tree l.self.free l.self.left l.initial.self.free l.initial.self.left;
}

abbrev pub decreases-loop-leaving : goal.decreases-loop-leaving
decreases-loop-leaving l = length l.self.left
