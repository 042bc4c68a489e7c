-- The loop of `item_in`.
use Rattle.std.proofs.Common.{◌-◌, ◌≡◌}
use Rattle.maple_node.specs.Codec.{width_of}
use Rattle.maple_node.proofs.Listed.{Comes}
use Rattle.maple_node.proofs.place.item_in.Given as goal

-- the items before the place end up to the page
abbrev pub invariant-loop-place : goal.invariant-loop-place
invariant-loop-place l = record {
  width : l.width ≡ width_of l.leaf;
  comes : Comes l.leaf l.fn.start l.page l.place l.start l.words;
}

-- the words that are left
abbrev pub decreases-loop-place : goal.decreases-loop-place
decreases-loop-place l = 32 - l.place
