-- For `has_hole`: what its loop keeps.
use Rattle.std.proofs.Common.{◌≡◌, ℕ, ◌-◌, ◌<◌, ◌≤◌, false, is_none}
use Rattle.area_list.specs.Areas.{area_at}
use Rattle.area_model.proofs.mseal_table.has_hole.Given as goal

-- each page of the span before this one is mapped
abbrev pub invariant-loop-page : goal.invariant-loop-page
invariant-loop-page l = record {
  above : l.span.lo ≤ l.page;
  all : (page : ℕ) → l.span.lo ≤ page → page < l.page → is_none (area_at l.areas page) ≡ false;
}

abbrev pub decreases-loop-page : goal.decreases-loop-page
decreases-loop-page l = l.span.hi - l.page
