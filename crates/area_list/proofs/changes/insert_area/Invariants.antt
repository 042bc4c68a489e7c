-- For `insert_area`: what each loop keeps.
use Rattle.std.proofs.Common.{◌≡◌, ◌≤◌, ◌-◌, ◌++◌, length, take, drop}
use Rattle.area_list.specs.Changes.{insert_area}
use Rattle.area_list.proofs.changes.insert_area.Given as goal

-- the areas so far lie before the place of the new one
abbrev pub invariant-loop-place : goal.invariant-loop-place
invariant-loop-place l = record {
  within : l.place ≤ length l.areas.items;
  before : take l.place l.areas.items ++ insert_area l.area (drop l.place l.areas.items) ≡ insert_area l.area l.areas.items;
}

abbrev pub decreases-loop-place : goal.decreases-loop-place
decreases-loop-place l = length l.areas.items - l.place
