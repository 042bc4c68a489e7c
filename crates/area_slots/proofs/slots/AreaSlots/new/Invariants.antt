-- The proof of `new`: what its loop keeps, and that it ends.
use Rattle.std.proofs.Common.{◌≡◌, ◌-◌, reverse}
use Rattle.std.specs.Vec.{vec_capacity}
use Rattle.std.specs.List.{range_with_len}
use Rattle.area_slots.proofs.slots.AreaSlots.new.Given as goal

abbrev pub invariant-loop-pushed : goal.invariant-loop-pushed
invariant-loop-pushed l = record { counted : l.free.items ≡ reverse (range_with_len (l.slots - l.pushed) l.pushed); room : vec_capacity l.free ≡ l.slots }
