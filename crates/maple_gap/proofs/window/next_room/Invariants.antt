-- The loop of `next_room`: what is chosen from the first spot on is chosen from the spot that is reached.
use Rattle.std.proofs.Common.{◌≡◌, ◌≤◌, ◌-◌}
use Rattle.maple_node.specs.Codec.{width_of}
use Rattle.maple_gap.specs.declared.window.Side.{Side}
use Rattle.maple_gap.specs.declared.window.Choice.{Choice}
use Rattle.maple_gap.specs.Internal.Spots.{chosen_after}
use Rattle.maple_gap.proofs.window.next_room.Given as goal

abbrev pub invariant-loop-spot : goal.invariant-loop-spot
invariant-loop-spot l = record {
  within : l.spot.place ≤ 32;
  width : l.width ≡ width_of l.leaf;
  above : l.fn.from.place ≤ l.spot.place;
  same : (side : Side) (choice : Choice) → chosen_after side l.window l.leaf l.words choice l.fn.from
      ≡ chosen_after side l.window l.leaf l.words choice l.spot;
}

-- the words that are left
abbrev pub decreases-loop-spot : goal.decreases-loop-spot
decreases-loop-spot l = 32 - l.spot.place
