-- For `stop_of`: what each loop keeps.
use Rattle.std.proofs.Common.{◌≡◌, ℕ, ◌-◌, ◌<◌, ◌≤◌, true}
use Rattle.area_list.specs.Areas.{area_at}
use Rattle.area_rules.specs.Mprotect.{may_have}
use Rattle.area_model.proofs.mprotect_table.stop_of.Given as goal

-- each page of the range before this one may have the protection
abbrev pub invariant-loop-page : goal.invariant-loop-page
invariant-loop-page l = record {
  above : l.range.lo ≤ l.page;
  all : (page : ℕ) → l.range.lo ≤ page → page < l.page → may_have l.prot (area_at l.areas page) ≡ true;
}

abbrev pub decreases-loop-page : goal.decreases-loop-page
decreases-loop-page l = l.range.hi - l.page
