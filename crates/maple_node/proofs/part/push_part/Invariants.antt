-- The loop of `push_part`.
use Rattle.std.proofs.Common.{◌-◌, ◌≡◌, ◌≤◌}
use Rattle.maple_node.specs.Codec.{width_of}
use Rattle.maple_node.proofs.Parts.{Lists}
use Rattle.maple_node.proofs.part.push_part.Given as goal

-- the items before the place were added, those of the part
abbrev pub invariant-loop-place : goal.invariant-loop-place
invariant-loop-place l = record {
  within : l.place ≤ 32;
  width : l.width ≡ width_of l.leaf;
  lists : Lists l.part l.leaf l.words l.place l.initial.list.items l.list.items;
}

-- the words that are left
abbrev pub decreases-loop-place : goal.decreases-loop-place
decreases-loop-place l = 32 - l.place
