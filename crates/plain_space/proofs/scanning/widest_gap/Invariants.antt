-- For `widest_gap`: what its loop keeps.
use Rattle.std.proofs.Common.{◌≡◌, max, length}
use Rattle.plain_space.specs.Internal.Gaps.{widest_gap}
use Rattle.plain_space.proofs.scanning.widest_gap.Given as goal

-- the widest gap of the list is the wider of the one so far and that of the rest
abbrev pub invariant-loop-rest : goal.invariant-loop-rest
invariant-loop-rest l = max l.widest (widest_gap l.rest) ≡ widest_gap l.areas

abbrev pub decreases-loop-rest : goal.decreases-loop-rest
decreases-loop-rest l = length l.rest
