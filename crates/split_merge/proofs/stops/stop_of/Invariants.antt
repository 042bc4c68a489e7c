-- For `stop_of` of stops.rt: what its loop keeps.
use Rattle.std.proofs.Common.{◌≡◌, ℕ, ◌-◌, ◌<◌, ◌≤◌, true}
use Rattle.area_list.specs.Areas.{area_at}
use Rattle.area_rules.specs.Mprotect.{may_have}
use Rattle.split_merge.proofs.stops.stop_of.Given as goal

-- each page of the span before this one may have the protection
abbrev pub invariant-loop-page : goal.invariant-loop-page
invariant-loop-page g l = record {
  above : l.span.lo ≤ l.page;
  all : (page : ℕ) → l.span.lo ≤ page → page < l.page → may_have l.prot (area_at (g.A.Areas.list l.areas) page) ≡ true;
}

abbrev pub decreases-loop-page : goal.decreases-loop-page
decreases-loop-page g l = l.span.hi - l.page
