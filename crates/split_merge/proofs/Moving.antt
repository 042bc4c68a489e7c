-- For `plan_move`: the plan of a move.
use Rattle.std.proofs.Common.{◌≡◌, ◌<◌, ◌⊎◌, inl, inr, ℕ, Bool, true, false, ◌||◌, List, Some, refl, ap, ◌∙◌, sym, subst, arith}
use Rattle.std.proofs.lemmas.List.Elements.{All-from_recursion, recursion_from_All}
use Rattle.mm_types.specs.declared.area.Span.{Span}
use Rattle.mm_types.specs.declared.area.Record.{Record}
use Rattle.area_list.specs.Areas.{IsCanonical}
use Rattle.area_list.specs.Changes.{cut, put, merge, insert_area}
use Rattle.area_list.specs.Areas.{overlap}
use Rattle.area_list.proofs.Elements.{Each-weaker, Each-always}
use Rattle.area_list.proofs.Order.{IsGood}
use Rattle.area_list.proofs.Cutting.{cut_canonical}
use Rattle.area_list.proofs.Putting.{put_canonical}
use Rattle.split_merge.specs.declared.plan.Change.{Change}
use Rattle.split_merge.specs.declared.becoming.Becoming.TheVariants.{Outside}
use Rattle.split_merge.specs.Plans.{olds_of, Makes, IsLocalToEither, is_near, is_near_either}
use Rattle.split_merge.specs.Internal.Becoming.{BeginsOne}
use Rattle.split_merge.specs.Internal.Planner.{all_planned}
use Rattle.split_merge.proofs.Lists.{length-filter_wider}
use Rattle.split_merge.proofs.Walking.{in_order}
use Rattle.split_merge.proofs.Results.{plan_makes, plan_local_either, fits_in}
use Rattle.split_merge.proofs.Spans.{AreApart, apart_in_order, cut_apart, cut_put}

-- the place is one of the two spans
place_is : (hole place low high : Span) → AreApart hole place low high → (place ≡ low) ⊎ (place ≡ high)
place_is hole place low high o = by o.either
  where
    by : ((low ≡ hole) × (high ≡ place)) ⊎ ((low ≡ place) × (high ≡ hole)) → (place ≡ low) ⊎ (place ≡ high)
    by (inl same) = inr (sym same.1)
    by (inr same) = inl (sym same.0)

pub move_begins : (hole : Span) (area : Record) (low high : Span) → AreApart hole area.span low high → BeginsOne (Outside low high) (Some area)
move_begins hole area low high o = by (place_is hole area.span low high o)
  where
    by : (area.span ≡ low) ⊎ (area.span ≡ high) → (area.span.lo ≡ low.lo) ⊎ (area.span.lo ≡ high.lo)
    by (inl same) = inl (ap (λ (s : Span). s.lo) same)
    by (inr same) = inr (ap (λ (s : Span). s.lo) same)

pub move_makes : (end : ℕ) (hole : Span) (area : Record) (low high : Span) (areas : List Record) (plan : List Change) → IsCanonical end areas → IsGood end area
    → hole.lo < hole.hi → overlap hole area.span ≡ false → AreApart hole area.span low high → plan ≡ all_planned (Outside low high) (Some area) areas
    → Makes plan areas (cut hole (put area areas))
move_makes end hole area low high areas plan c good some beside o is =
    let valid = (in_order end areas c).valid in
    let order = apart_in_order hole area.span low high o in
    subst (λ changes. Makes changes areas (cut hole (put area areas))) (sym is)
    (plan_makes end (Outside low high) (Some area) areas (cut hole (put area areas)) c order
    (fits_in low high areas area order valid good.valid.some_pages (place_is hole area.span low high o))
    (cut_put end hole area areas c good some beside
    ∙ ap (λ rest. merge (insert_area area rest)) (sym (cut_apart end hole area.span low high areas c valid o)))
    (cut_canonical end hole (put area areas) some (put_canonical end area areas good c)))

either_way : (a b : Bool) → (a || b) ≡ true → (b || a) ≡ true
either_way true true h = refl
either_way true false h = refl
either_way false b h = ap (λ x. x || false) h

-- a plan that is local to two spans is local to them in the other order
local_swap : (a b : Span) (areas : List Record) (plan : List Change) → IsLocalToEither a b areas plan → IsLocalToEither b a areas plan
local_swap a b areas plan l = record {
  near = All-from_recursion (λ old. is_near_either b a old ≡ true) (olds_of plan)
      (Each-weaker (λ old. is_near_either a b old ≡ true) (λ old. is_near_either b a old ≡ true) swap (olds_of plan)
      (recursion_from_All (λ old. is_near_either a b old ≡ true) (olds_of plan) l.near));
  short = omega (
    arith,
    l.short,
    length-filter_wider (is_near_either a b) (is_near_either b a) areas
        (Each-always (λ area. is_near_either a b area ≡ true → is_near_either b a area ≡ true) swap areas),
  );
}
  where
    swap : (area : Record) → is_near_either a b area ≡ true → is_near_either b a area ≡ true
    swap area close = either_way (is_near a area) (is_near b area) close

pub move_local : (end : ℕ) (hole place low high : Span) (area : Record) (areas : List Record) (plan : List Change) → IsCanonical end areas → AreApart hole place low high
    → plan ≡ all_planned (Outside low high) (Some area) areas → IsLocalToEither hole place areas plan
move_local end hole place low high area areas plan c o is = by o.either
  where
    local : IsLocalToEither low high areas plan
    local = subst (IsLocalToEither low high areas) (sym is) (plan_local_either end (Outside low high) (Some area) areas c (apart_in_order hole place low high o))

    by : ((low ≡ hole) × (high ≡ place)) ⊎ ((low ≡ place) × (high ≡ hole)) → IsLocalToEither hole place areas plan
    by (inl same) = subst (λ s. IsLocalToEither s place areas plan) same.0 (subst (λ s. IsLocalToEither low s areas plan) same.1 local)
    by (inr same) = local_swap place hole areas plan (subst (λ s. IsLocalToEither s hole areas plan) same.0 (subst (λ s. IsLocalToEither low s areas plan) same.1 local))
