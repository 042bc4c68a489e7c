-- For `lowered`: no place is free whose pages end past the last end to be tried, and the areas are those that are left and others behind.
use Rattle.std.proofs.Common.{◌≡◌, ◌<◌, ◌≤◌, ◌+◌, ◌++◌, List, ℕ, false}
use Rattle.mm_types.specs.declared.area.Record.{Record}
use Rattle.area_rules.specs.Placement.{is_free}
use Rattle.area_model.proofs.placement.lowered.Given as goal

abbrev pub invariant-loop-area : goal.invariant-loop-area
invariant-loop-area l = record {
  within : l.last ≤ l.end;
  none : (start : ℕ) → l.last < start + l.pages → start + l.pages ≤ l.end → is_free l.areas l.pages start ≡ false;
  left : (behind : List Record) × (l.areas ≡ l.area-iterator.iter.rest.now ++ behind);
}
