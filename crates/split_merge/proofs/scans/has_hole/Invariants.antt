-- For `has_hole` of scans.rt: what its loop keeps.
use Rattle.std.proofs.Common.{◌≡◌, ℕ, ◌-◌, ◌<◌, ◌≤◌, false}
use Rattle.std.specs.Prelude.{is_none}
use Rattle.area_list.specs.Areas.{area_at}
use Rattle.split_merge.proofs.scans.has_hole.Given as goal

-- each page of the span before this one is mapped
abbrev pub invariant-loop-page : goal.invariant-loop-page
invariant-loop-page g l = record {
  above : l.span.lo ≤ l.page;
  mapped : (page : ℕ) → l.span.lo ≤ page → page < l.page → is_none (area_at (g.A.Areas.list l.areas) page) ≡ false;
}

abbrev pub decreases-loop-page : goal.decreases-loop-page
decreases-loop-page g l = l.span.hi - l.page
