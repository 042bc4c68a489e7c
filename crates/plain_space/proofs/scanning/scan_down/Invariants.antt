-- For `scan_down`: what its loop keeps.
use Rattle.std.proofs.Common.{◌≡◌, ℕ, ◌+◌, ◌<◌, ◌≤◌, false}
use Rattle.area_rules.specs.Placement.{is_free}
use Rattle.plain_space.proofs.Searching.{IsParted}
use Rattle.plain_space.proofs.scanning.scan_down.Given as goal

-- no place whose pages end past the page is free, and the next area to be looked at is the last that begins below it
abbrev pub invariant-loop-area : goal.invariant-loop-area
invariant-loop-area l = record {
  within : l.page ≤ l.end;
  around : IsParted (λ area. area.span.lo) l.areas l.below l.page;
  none : (start : ℕ) → l.page < start + l.pages → start + l.pages ≤ l.end → is_free l.areas l.pages start ≡ false;
}

abbrev pub decreases-loop-area : goal.decreases-loop-area
decreases-loop-area l = l.below
