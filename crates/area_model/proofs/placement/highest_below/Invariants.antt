-- For `highest_below`: what its loop keeps.
use Rattle.std.proofs.Common.{◌≡◌, ℕ, ◌+◌, ◌<◌, ◌≤◌, false}
use Rattle.area_rules.specs.Placement.{is_free}
use Rattle.area_model.proofs.placement.highest_below.Given as goal

-- no place whose pages end past the last end to be tried is free
abbrev pub invariant-loop-bounds : goal.invariant-loop-bounds
invariant-loop-bounds l = record {
  within : l.last ≤ l.end;
  none : (start : ℕ) → l.last < start + l.pages → start + l.pages ≤ l.end → is_free l.areas l.pages start ≡ false;
}

abbrev pub decreases-loop-bounds : goal.decreases-loop-bounds
decreases-loop-bounds l = l.last
