-- For `plan_cut`, `plan_move`, `plan_protect` and others: what an area joins that is made of two, for the runs of the planner.
use Rattle.std.proofs.Common.{◌≡◌, ◌<◌, ◌+◌, ◌-◌, ◌⊎◌, ℕ, false, ◌&&◌, ◌||◌, nat_eq, ap, ◌∙◌, arith}
use Rattle.std.proofs.lemmas.Bool.{and_left, ne_eqb}
use Rattle.std.proofs.lemmas.Bool.Decides.{nat_tests}
use Rattle.mm_types.specs.declared.area.Record.{Record}
use Rattle.area_list.specs.Areas.{joins, same_attr}
use Rattle.area_list.specs.Changes.{joined_area}
use Rattle.area_list.proofs.Merging.{Joins}

-- areas that do not touch do not join
pub joins_far : (a b : Record) → (a.span.hi ≡ b.span.lo → ⊥) → joins a b ≡ false
unfolding joins
joins_far a b far = and_left (nat_eq a.span.hi b.span.lo) _ (ne_eqb a.span.hi b.span.lo far)

-- two areas as one join what the second does
pub joins-joined_area : (a b other : Record) → a.span.lo < a.span.hi → b.span.lo < b.span.hi → Joins a b
    → joins (joined_area a b) other ≡ joins b other
unfolding joins
joins-joined_area a b other first second j =
    ap (λ attr. nat_eq b.span.hi other.span.lo && (same_attr attr other.attr && (nat_eq a.object other.object
    && (nat_eq a.object 0 || nat_eq other.offset (a.offset + (b.span.hi - a.span.lo)))))) j.attr
    ∙ ap (λ run. nat_eq b.span.hi other.span.lo && (same_attr b.attr other.attr && (nat_eq a.object other.object && run)))
    (runs a.object a.offset b.offset a.span.lo a.span.hi b.span.lo b.span.hi other.offset j.touch first second j.offset)
    ∙ ap (λ object. nat_eq b.span.hi other.span.lo && (same_attr b.attr other.attr && (nat_eq object other.object
    && (nat_eq object 0 || nat_eq other.offset (b.offset + (b.span.hi - b.span.lo)))))) j.object
  where
    runs : (object offset next from mid start to other : ℕ) → mid ≡ start → from < mid → start < to
        → (object ≡ 0) ⊎ (next ≡ offset + (mid - from))
        → (nat_eq object 0 || nat_eq other (offset + (to - from))) ≡ (nat_eq object 0 || nat_eq other (next + (to - start)))
    runs object offset next from mid start to other touch first second run = grind (arith, nat_tests)
