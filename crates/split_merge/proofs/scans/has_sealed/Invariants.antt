-- For `has_sealed` of scans.rt: what its loop keeps.
use Rattle.std.proofs.Common.{◌≡◌, ◌≤◌, length}
use Rattle.area_rules.specs.Seals.{has_sealed}
use Rattle.split_merge.proofs.Walking.{ending_above}
use Rattle.split_merge.proofs.Scanning.{has_sealed_above}
use Rattle.split_merge.proofs.scans.has_sealed.Given as goal

-- only areas that end above the page are left to look at
abbrev pub invariant-loop-area : goal.invariant-loop-area
invariant-loop-area g l = let areas = g.A.Areas.list l.areas in record {
  from : l.span.lo ≤ l.page;
  rest : has_sealed_above l.span areas l.page ≡ has_sealed l.span areas;
}

abbrev pub decreases-loop-area : goal.decreases-loop-area
decreases-loop-area g l = length (ending_above l.page (g.A.Areas.list l.areas))
