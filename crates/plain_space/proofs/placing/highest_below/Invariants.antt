-- For `highest_below`: what its loop keeps.
use Rattle.std.proofs.Common.{◌≡◌, ℕ, ◌+◌, ◌<◌, ◌≤◌, false, length, drop}
use Rattle.std.specs.List.{AllByRecursion as Each}
use Rattle.area_rules.specs.Placement.{is_free}
use Rattle.plain_space.specs.Internal.Chunks.{areas_in_chunks}
use Rattle.plain_space.proofs.placing.highest_below.Given as goal

-- no place whose pages end past the end is free, and no area of the chunks that were looked at begins below it
abbrev pub invariant-loop-left : goal.invariant-loop-left
invariant-loop-left l = record {
  within : l.end ≤ l.last;
  place : l.left ≤ length l.chunks;
  above : Each (λ area. l.end ≤ area.span.lo) (areas_in_chunks (drop l.left l.chunks));
  none : (start : ℕ) → l.end < start + l.pages → start + l.pages ≤ l.last → is_free (areas_in_chunks l.chunks) l.pages start ≡ false;
}

abbrev pub decreases-loop-left : goal.decreases-loop-left
decreases-loop-left l = l.left
