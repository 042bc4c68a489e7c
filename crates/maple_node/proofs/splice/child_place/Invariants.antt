-- The loop of `child_place`.
use Rattle.std.proofs.Common.{◌-◌}
use Rattle.maple_node.proofs.Swapped.{Near}
use Rattle.maple_node.proofs.splice.child_place.Given as goal

-- the children before the place end up to the page
abbrev pub invariant-loop-place : goal.invariant-loop-place
invariant-loop-place l = Near l.page l.place l.words

-- the words that are left
abbrev pub decreases-loop-place : goal.decreases-loop-place
decreases-loop-place l = 32 - l.place
