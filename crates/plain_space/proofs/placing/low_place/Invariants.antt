-- For `low_place`: what its loop keeps.
use Rattle.std.proofs.Common.{◌≡◌, ℕ, ◌-◌, ◌<◌, ◌≤◌, max, false, length, take}
use Rattle.std.specs.List.{AllByRecursion as Each}
use Rattle.area_rules.specs.declared.placement.TheConstants.{FLOOR}
use Rattle.area_rules.specs.Placement.{is_free}
use Rattle.plain_space.specs.Internal.Chunks.{areas_in_chunks}
use Rattle.plain_space.proofs.placing.low_place.Given as goal

-- no place from the floor on before the start is free, and no area of the chunks that were looked at ends above it
abbrev pub invariant-loop-next : goal.invariant-loop-next
invariant-loop-next l = record {
  above : max FLOOR l.fn.bounds.low ≤ l.start;
  place : l.next ≤ length l.chunks;
  below : Each (λ area. area.span.hi ≤ l.start) (areas_in_chunks (take l.next l.chunks));
  none : (start : ℕ) → max FLOOR l.fn.bounds.low ≤ start → start < l.start → is_free (areas_in_chunks l.chunks) l.pages start ≡ false;
}

abbrev pub decreases-loop-next : goal.decreases-loop-next
decreases-loop-next l = length l.chunks - l.next
