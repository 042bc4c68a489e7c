-- For `low_place`: what each loop keeps.
use Rattle.std.proofs.Common.{◌≡◌, ℕ, ◌+◌, ◌-◌, ◌<◌, ◌≤◌, max, false}
use Rattle.area_rules.specs.declared.placement.TheConstants.{FLOOR, WINDOW_END}
use Rattle.area_rules.specs.Placement.{is_free}
use Rattle.area_model.proofs.placement.low_place.Given as goal

-- no place from the floor on that lies before the start is free
abbrev pub invariant-loop-pages : goal.invariant-loop-pages
invariant-loop-pages l = record {
  above : max FLOOR l.fn.bounds.low ≤ l.start;
  none : (start : ℕ) → max FLOOR l.fn.bounds.low ≤ start → start < l.start → is_free l.areas l.pages start ≡ false;
}

abbrev pub decreases-loop-pages : goal.decreases-loop-pages
decreases-loop-pages l = WINDOW_END + 1 - l.start
