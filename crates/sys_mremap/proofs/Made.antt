-- For `plan_change`, `plan_elsewhere`, `plan_longer` and others: the lists that the plans of mremap(2)'s changes make, and that these plans are local to the old range and the new one.
use Rattle.std.proofs.Common.{◌≡◌, ◌≤◌, ◌<◌, ◌+◌, ℕ, false, nat_lt, List, [], Option, Some, refl, ap, ◌∙◌, sym, subst, arith}
use Rattle.std.proofs.lemmas.Bool.{cond-true, cond-false, lt-ltb, le-ltb}
use Rattle.mm_types.specs.declared.area.Span.{Span}
use Rattle.mm_types.specs.declared.area.Record.{Record}
use Rattle.area_rules.specs.declared.mremap_request.Moved.{Moved}
use Rattle.area_rules.specs.declared.mremap_request.MremapArgs.{MremapArgs}
use Rattle.area_list.specs.Areas.{page_of}
use Rattle.area_list.specs.Changes.{cut, put}
use Rattle.area_rules.specs.Tables.{pages_of}
use Rattle.area_rules.specs.Munmap.{range_of}
use Rattle.area_rules.specs.Mremap.{carried_area, added_range, old_range, moved_list, lengthened_list, shrunk_list}
use Rattle.area_list.specs.Areas.{overlap}
use Rattle.area_rules.specs.Laws.{moved_range}
use Rattle.split_merge.specs.declared.plan.Change.{Change}
use Rattle.split_merge.specs.Plans.{PlanView, Makes, IsLocal, IsLocalToEither}
use Rattle.split_merge.proofs.Refusing.{nothing_made}
use Rattle.sys_mremap.specs.Internal.Cases.{MakesAt, PlansChange}
use Rattle.sys_mremap.proofs.Nearness.{local_in_first, local_in_second, nothing_local}

-- the pages of the old range past the new length
abbrev rest_range : MremapArgs → Span
rest_range args = record { lo = page_of args.old + pages_of args.new_len; hi = page_of args.old + pages_of args.old_len }

pub rest_is : (args : MremapArgs) (first new old : ℕ) → first ≡ page_of args.old → new ≡ pages_of args.new_len → old ≡ pages_of args.old_len
    → record { lo = first + new; hi = first + old } ≡ rest_range args
rest_is args first new old at shorter longer = λ i. record { lo = at i + shorter i; hi = at i + longer i }

-- they end where the old range ends
pub rest_end : (args : MremapArgs) → (old_range args).hi ≡ page_of args.old + pages_of args.old_len
unfolding range_of
rest_end args = refl

-- the area at its new place, by the parts of that
pub carried_there : (args : MremapArgs) (area carried : Record) (start from pages : ℕ) → carried ≡ carried_area area from (record { lo = start; hi = start + pages })
    → from ≡ page_of args.old → pages ≡ pages_of args.new_len → carried ≡ carried_area area (page_of args.old) (moved_range args start)
carried_there args area carried start from pages is first many =
    is ∙ (λ i. carried_area area (first i) (record { lo = start; hi = start + many i }))

pub beside_there : (args : MremapArgs) (area carried : Record) (hole : Span) (start : ℕ) → carried ≡ carried_area area (page_of args.old) (moved_range args start)
    → hole ≡ old_range args → overlap (old_range args) (moved_range args start) ≡ false → overlap hole carried.span ≡ false
unfolding carried_area
beside_there args area carried hole start is from apart =
    subst (λ span. overlap span carried.span ≡ false) (sym from)
    (subst (λ span. overlap (old_range args) span ≡ false) (sym (ap (λ (a : Record). a.span) is)) apart)

-- the plan of a range that begins where it began
pub made_in_place : (args : MremapArgs) (plan planned : PlanView) (areas after : List Record) (change : Option Moved) (page : ℕ)
    → change ≡ Some (record { areas = after; page = page_of args.old }) → MakesAt (page_of args.old) args planned.changes areas after → plan ≡ planned
    → page ≡ page_of args.old → PlansChange args plan.changes areas change (Some page)
made_in_place args plan planned areas after change page is made same at =
    subst (λ first. PlansChange args plan.changes areas change (Some first)) (sym at)
    (after, is, subst (λ (p : PlanView). MakesAt (page_of args.old) args p.changes areas after) (sym same) made)

module _ (areas : List Record) (args : MremapArgs) (plan : List Change) where
  pub shrunk_by_cut : (rest : Span) → rest ≡ rest_range args → rest.lo < rest.hi → Makes plan areas (cut rest areas) → IsLocal rest areas plan
      → MakesAt (page_of args.old) args plan areas (shrunk_list areas args)
  unfolding shrunk_list range_of
  shrunk_by_cut rest is some made local =
      let ends = ap (λ (span : Span). span.hi) is in
      let begins = ap (λ (span : Span). span.lo) is in
      record {
        makes = subst (Makes plan areas) (ap (λ span. cut span areas) is
            ∙ sym (cond-true (nat_lt (pages_of args.new_len) (pages_of args.old_len)) (cut (rest_range args) areas) areas
            (lt-ltb (pages_of args.new_len) (pages_of args.old_len) (omega arith)))) made;
        local = local_in_first rest (old_range args) (moved_range args (page_of args.old)) areas plan (omega arith) (omega arith) local;
      }

  pub same_length : (rest : Span) → rest ≡ rest_range args → rest.hi ≤ rest.lo → plan ≡ []
      → MakesAt (page_of args.old) args plan areas (shrunk_list areas args)
  unfolding shrunk_list
  same_length rest is none empty =
      let ends = ap (λ (span : Span). span.hi) is in
      let begins = ap (λ (span : Span). span.lo) is in
      record {
        makes = nothing_made plan areas (shrunk_list areas args) empty
            (cond-false (nat_lt (pages_of args.new_len) (pages_of args.old_len)) (cut (rest_range args) areas) areas
            (le-ltb (pages_of args.new_len) (pages_of args.old_len) (omega arith)));
        local = nothing_local (old_range args) (moved_range args (page_of args.old)) areas plan empty;
      }

  pub grown_by_put : (area grown : Record) → grown ≡ carried_area area (added_range args).lo (added_range args) → Makes plan areas (put grown areas)
      → IsLocal grown.span areas plan → MakesAt (page_of args.old) args plan areas (lengthened_list areas area args)
  unfolding lengthened_list carried_area added_range
  grown_by_put area grown is made local = let span = ap (λ (a : Record). a.span) is in record {
    makes = subst (λ a. Makes plan areas (put a areas)) is made;
    local = local_in_second grown.span (old_range args) (moved_range args (page_of args.old)) areas plan
        (omega (arith, ap (λ (s : Span). s.lo) span)) (omega (arith, ap (λ (s : Span). s.hi) span)) local;
  }

  pub moved_by_plan : (area carried : Record) (hole : Span) (start : ℕ) → hole ≡ old_range args
      → carried ≡ carried_area area (page_of args.old) (moved_range args start)
      → Makes plan areas (cut hole (put carried areas)) → IsLocalToEither hole carried.span areas plan
      → MakesAt start args plan areas (moved_list areas area args start)
  unfolding moved_list carried_area
  moved_by_plan area carried hole start from is made local = record {
    makes = subst (Makes plan areas) (ap (λ span. cut span (put carried areas)) from ∙ ap (λ a. cut (old_range args) (put a areas)) is) made;
    local = subst (λ span. IsLocalToEither (old_range args) span areas plan) (ap (λ (a : Record). a.span) is)
        (subst (λ span. IsLocalToEither span carried.span areas plan) from local);
  }
