-- For `scan_up`: what its loop keeps.
use Rattle.std.proofs.Common.{◌≡◌, ℕ, ◌+◌, ◌-◌, ◌<◌, ◌≤◌, false, length}
use Rattle.area_rules.specs.Placement.{is_free}
use Rattle.plain_space.proofs.Searching.{IsParted}
use Rattle.plain_space.proofs.scanning.scan_up.Given as goal

-- no place before the page is free, and the next area to be looked at is the first that ends above it
abbrev pub invariant-loop-area : goal.invariant-loop-area
invariant-loop-area l = record {
  within : l.start ≤ l.page;
  around : IsParted (λ area. area.span.hi) l.areas l.next (l.page + 1);
  none : (other : ℕ) → l.start ≤ other → other < l.page → is_free l.areas l.pages other ≡ false;
}

abbrev pub decreases-loop-area : goal.decreases-loop-area
decreases-loop-area l = length l.areas - l.next
