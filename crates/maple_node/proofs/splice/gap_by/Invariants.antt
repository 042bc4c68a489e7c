-- The loop of `gap_by`.
use Rattle.std.proofs.Common.{◌-◌, ◌≡◌, ◌≤◌}
use Rattle.maple_node.specs.Codec.{width_of}
use Rattle.maple_node.proofs.Spliced.{Gapped}
use Rattle.maple_node.proofs.splice.gap_by.Given as goal

-- the items before the place have this largest gap
abbrev pub invariant-loop-place : goal.invariant-loop-place
invariant-loop-place l = record {
  within : l.place ≤ 32;
  width : l.width ≡ width_of l.leaf;
  gap : Gapped l.leaf l.fn.start l.place l.start l.largest l.words;
}

-- the words that are left
abbrev pub decreases-loop-place : goal.decreases-loop-place
decreases-loop-place l = 32 - l.place
