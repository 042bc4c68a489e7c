-- The loop of `words_ending_by`.
use Rattle.std.proofs.Common.{ℕ, ◌-◌, ◌≡◌, ◌≤◌}
use Rattle.maple_node.specs.Codec.{width_of}
use Rattle.maple_node.specs.Internal.Counts.{IsCounted}
use Rattle.maple_node.proofs.splice.words_ending_by.Given as goal

-- the items before the place end up to the page
abbrev pub invariant-loop-place : goal.invariant-loop-place
invariant-loop-place l = record {
  within : l.place ≤ 32;
  width : l.width ≡ width_of l.leaf;
  counts : (later : ℕ) → l.page ≤ later → IsCounted l.leaf later l.place l.words;
}

-- the words that are left
abbrev pub decreases-loop-place : goal.decreases-loop-place
decreases-loop-place l = 32 - l.place
