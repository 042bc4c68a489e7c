-- What is planned so far, and what is left to plan along the areas that end above the page.
use Rattle.std.proofs.Common.{◌≡◌, ◌≤◌, ◌+◌, ◌++◌, length}
use Rattle.split_merge.specs.Internal.Becoming.{BeginsOne}
use Rattle.split_merge.specs.Internal.Planner.{planned, changes_left, weight, events_along, all_planned}
use Rattle.split_merge.proofs.Walking.{ending_above}
use Rattle.split_merge.proofs.walk.plan_changes.Given as goal

abbrev pub invariant-loop-area : goal.invariant-loop-area
invariant-loop-area g l = let areas = g.A.Areas.list l.areas in let rest = events_along l.becoming (ending_above l.page areas) in record {
  low : l.low.lo ≤ l.page + 1;
  room : l.plan.room ≡ l.fn.plan.room;
  within : length l.plan.changes + (changes_left l.planner + weight rest) ≤ l.plan.room;
  planned : l.plan.changes ++ planned l.planner rest ≡ l.fn.plan.changes ++ all_planned l.becoming l.fn.new areas;
  coming : BeginsOne l.becoming l.planner.coming;
}

abbrev pub decreases-loop-area : goal.decreases-loop-area
decreases-loop-area g l = length (ending_above l.page (g.A.Areas.list l.areas))
