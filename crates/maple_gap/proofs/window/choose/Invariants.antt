-- The loop of `choose`: what is chosen of the items that are left is chosen of all.
use Rattle.std.proofs.Common.{◌≡◌, ◌≤◌, ◌-◌}
use Rattle.maple_node.specs.Nodes.{node_items}
use Rattle.maple_gap.specs.Internal.Searches.{nothing_chosen, chosen_from}
use Rattle.maple_gap.specs.Internal.Spots.{chosen_after}
use Rattle.maple_gap.proofs.window.choose.Given as goal

abbrev pub invariant-loop-spot : goal.invariant-loop-spot
invariant-loop-spot l = record {
  within : l.from.place ≤ 32;
  chosen_so : chosen_after l.side l.window l.leaf l.words l.choice l.from
      ≡ chosen_from l.side l.window l.leaf nothing_chosen l.fn.start (node_items l.leaf l.words);
}

-- the words that are left
abbrev pub decreases-loop-spot : goal.decreases-loop-spot
decreases-loop-spot l = 32 - l.from.place
