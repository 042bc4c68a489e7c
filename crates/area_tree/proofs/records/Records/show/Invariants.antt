-- The proof of `show`: what its loop keeps, and that it ends.
use Rattle.std.proofs.Common.{◌≡◌, ◌≤◌, ◌+◌, ◌-◌, length}
use Rattle.std.specs.Vec.{vec_capacity}
use Rattle.area_tree.specs.Internal.Records.{padded_records}
use Rattle.area_tree.proofs.records.Records.show.Given as goal

abbrev pub invariant-loop-self : goal.invariant-loop-self
invariant-loop-self l = record {
  same : padded_records l.initial.self-inside.slots l.self-inside.shown.items ≡ padded_records l.initial.self-inside.slots l.initial.self-inside.shown.items;
  slots : l.self-inside.slots ≡ l.initial.self-inside.slots;
  few : length l.self-inside.shown.items ≤ l.initial.self-inside.slots;
  room : vec_capacity l.self-inside.shown ≡ l.initial.self-inside.slots;
}

abbrev pub decreases-loop-self : goal.decreases-loop-self
decreases-loop-self l = l.place + 1 - length l.self-inside.shown.items
