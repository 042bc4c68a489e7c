-- For `plan_changes`: the walk, turn by turn.
use Rattle.std.proofs.Common.{◌≡◌, ◌≤◌, ◌<◌, ◌+◌, ◌-◌, ◌*◌, ◌⊎◌, inl, inr, ℕ, Bool, true, false, if◌then◌else◌, List, [], ◌∷◌, ◌++◌, length, map, Option, Some, None, IfSome, refl, ap, ◌∙◌, sym, subst, arith}
use Rattle.std.specs.List.{AllByRecursion as Each}
use Rattle.std.specs.Option.{option_len}
use Rattle.mm_types.specs.declared.area.Record.{Record}
use Rattle.mm_types.specs.Records.{IsValid}
use Rattle.area_list.proofs.Elements.{Each-weaker, Each-also}
use Rattle.split_merge.specs.declared.becoming.Becoming.{Becoming}
use Rattle.split_merge.specs.declared.planner.Planner.{Planner}
use Rattle.split_merge.specs.Finding.{first_from}
use Rattle.split_merge.specs.Plans.{PlanView}
use Rattle.split_merge.specs.Internal.Becoming.{lower_span, upper_span, parts_left, AreSpansInOrder, BeginsOne}
use Rattle.split_merge.specs.Internal.Planner.{Event, along, come, planned, changes_left, weight, events_at, events_along, all_planned, GoesAlong}
use Rattle.split_merge.proofs.Walking.{ending_above, each_ending_above, InOrder, Spares, IsNext, none_above}
use Rattle.split_merge.proofs.Lists.{length-filter_at_most}
use Rattle.split_merge.proofs.Steps.{weight-append, weight-comes}
use Rattle.split_merge.proofs.Passing.{is_close, events_close, events_far, is_far, close_one, IsSkipped, skipped, skipped_weight, skipped_low, skipped_between, passed_high, last_planned, ending_higher, in_order_above}
use Rattle.split_merge.proofs.Parting.{counted, counted_short}

module _ (becoming : Becoming) (spans : AreSpansInOrder (lower_span becoming) (upper_span becoming)) (areas : List Record) (order : InOrder areas) where
  -- what the areas above a page bring
  abbrev pub rest_from : ℕ → List Event
  rest_from page = events_along becoming (ending_above page areas)

  -- at the begin nothing is planned
  pub first_planned : (new : Option Record) (planner : Planner) (page : ℕ) → BeginsOne becoming new → planner ≡ record { coming = new; pending = None; merging = None }
      → page ≡ (lower_span becoming).lo - 1 → planned planner (rest_from page) ≡ all_planned becoming new areas
  first_planned new planner page begins is low =
      ap (λ (p : Planner). planned p (rest_from page)) is
      ∙ sym (skipped becoming new page areas order
      (Each-weaker IsValid (λ area. area.span.hi ≤ page → IsSkipped becoming new area)
      (λ area valid below. skipped_low becoming spans new page area begins valid low below) areas order.valid))

  -- the next area is near a span
  pub next_close : (page : ℕ) (area : Record) → IsNext areas page area → (lower_span becoming).lo ≤ page + 1 → area.span.lo ≤ (upper_span becoming).hi
      → (area.span.lo ≤ (lower_span becoming).hi) ⊎ ((upper_span becoming).lo ≤ area.span.hi)
      → rest_from page ≡ (Event.Begins area ∷ map Event.Comes (parts_left becoming area)) ++ rest_from area.span.hi
  next_close page area n low high either =
      ap (events_along becoming) n.rest
      ∙ ap (λ events. events ++ rest_from area.span.hi) (events_close becoming area (close_one becoming area (omega (arith, n.above)) high either))

  pub next_planned : (page from : ℕ) (events : List Event) {planner next : Planner} {old new : PlanView} → GoesAlong events planner next old new
      → rest_from page ≡ events ++ rest_from from
      → new.changes ++ planned next (rest_from from) ≡ old.changes ++ planned planner (rest_from page)
  next_planned page from events {planner = planner} {old = old} goes is = goes.planned (rest_from from)
      ∙ ap (λ rest. old.changes ++ planned planner rest) (sym is)

  pub next_within : (page from : ℕ) (events : List Event) {planner next : Planner} {old new : PlanView} → GoesAlong events planner next old new
      → rest_from page ≡ events ++ rest_from from
      → length new.changes + (changes_left next + weight (rest_from from)) ≤ length old.changes + (changes_left planner + weight (rest_from page))
  next_within page from events goes is = omega (arith, goes.within, ap weight is, weight-append events (rest_from from))

  -- the next area lies between the two spans
  pub next_far : (page : ℕ) (area : Record) → IsNext areas page area → (lower_span becoming).hi < area.span.lo → area.span.hi < (upper_span becoming).lo
      → rest_from page ≡ (Event.Passed area ∷ []) ++ rest_from area.span.hi
  next_far page area n low high =
      ap (events_along becoming) n.rest
      ∙ ap (λ events. events ++ rest_from area.span.hi) (events_far becoming area (is_far becoming area (inr low) (inl high)))

  -- and then all are passed over up to the upper one
  pub passed_planned : (area : Record) (from : ℕ) (planner : Planner) → IsValid area → Each (Spares area.span.hi) areas → planner.pending ≡ None → planner.merging ≡ None
      → IfSome planner.coming (λ new. new.span.lo ≡ (upper_span becoming).lo) → (lower_span becoming).hi < area.span.lo → area.span.hi < (upper_span becoming).lo
      → from ≡ (upper_span becoming).lo - 1 → planned planner (rest_from from) ≡ planned planner (rest_from area.span.hi)
  passed_planned area from planner valid spares pending merging begins low high is =
      let above = ending_above area.span.hi areas in
      let settled : (events : List Event) → planned planner events ≡ along None None (come planner.coming events) =
      λ events. ap (λ p. along p planner.merging (come planner.coming events)) pending ∙ ap (λ r. along None r (come planner.coming events)) merging in
      settled (rest_from from)
      ∙ ap (λ list. along None None (come planner.coming (events_along becoming list))) (sym (ending_higher area.span.hi from areas (omega arith)))
      ∙ sym (skipped becoming planner.coming from above (in_order_above area.span.hi areas order)
      (each_ending_above (λ next. next.span.hi ≤ from → IsSkipped becoming planner.coming next) area.span.hi areas (Each-also IsValid (Spares area.span.hi) (λ next. area.span.hi < next.span.hi → next.span.hi ≤ from → IsSkipped becoming planner.coming next)
      (λ next v spares higher below. skipped_between becoming spans planner.coming area.span.hi next begins v (omega (arith, valid.some_pages)) (spares higher) (omega arith))
      areas order.valid spares)))
      ∙ sym (settled (rest_from area.span.hi))

  pub passed_weight : (area : Record) (from : ℕ) → area.span.hi ≤ from → weight (rest_from from) ≤ weight (rest_from area.span.hi)
  passed_weight area from later = omega (
    arith,
    skipped_weight becoming from (ending_above area.span.hi areas),
    ap (λ list. weight (events_along becoming list)) (ending_higher area.span.hi from areas later),
  )

  -- at the end nothing is left
  pub end_planned : (page : ℕ) (planner : Planner) → first_from areas page ≡ None → planned planner (rest_from page) ≡ planned planner []
  end_planned page planner none = ap (λ list. planned planner (events_along becoming list)) (none_above areas page none)

  pub high_planned : (page : ℕ) (area : Record) (planner : Planner) → IsNext areas page area → BeginsOne becoming planner.coming → (upper_span becoming).hi < area.span.lo
      → planned planner (rest_from page) ≡ planned planner []
  high_planned page area planner n begins above = last_planned becoming planner (ending_above page areas)
      (subst (Each (λ next. (is_close becoming next ≡ false) × IfSome planner.coming (λ new. new.span.lo < next.span.lo))) (sym n.rest) (
        passed_high becoming spans planner.coming area begins above,
        each_ending_above (λ next. (is_close becoming next ≡ false) × IfSome planner.coming (λ new. new.span.lo < next.span.lo)) area.span.hi areas (Each-weaker (Spares area.span.hi)
            (λ next. area.span.hi < next.span.hi → (is_close becoming next ≡ false) × IfSome planner.coming (λ new. new.span.lo < next.span.lo))
            (λ next spares higher. passed_high becoming spans planner.coming next begins (omega (arith, spares higher, n.valid.some_pages))) areas n.spares),
      ))

pub still_begins : (becoming : Becoming) (before after : Option Record) → (after ≡ None) ⊎ (after ≡ before) → BeginsOne becoming before → BeginsOne becoming after
still_begins becoming before after (inl none) begins = subst (BeginsOne becoming) (sym none) tt
still_begins becoming before after (inr same) begins = subst (BeginsOne becoming) (sym same) begins

-- the weight of what a list brings
pub weight_along : (becoming : Becoming) (areas : List Record) → weight (events_along becoming areas) ≡ counted becoming areas
weight_along becoming [] = refl
weight_along becoming (area ∷ areas) = by (is_close becoming area) refl (weight_along becoming areas)
  where
    by : (test : Bool) → is_close becoming area ≡ test → weight (events_along becoming areas) ≡ counted becoming areas
        → weight (events_at becoming area ++ events_along becoming areas) ≡ (if test then 1 + length (parts_left becoming area) else 0) + counted becoming areas
    by true close rest = omega (
      arith,
      ap (λ events. weight (events ++ events_along becoming areas)) (events_close becoming area close),
      weight-append (map Event.Comes (parts_left becoming area)) (events_along becoming areas),
      weight-comes (parts_left becoming area),
      rest,
    )
    by false far rest = omega (
      arith,
      ap (λ events. weight (events ++ events_along becoming areas)) (events_far becoming area far),
      rest,
    )

-- the room that the walk wants
pub first_within : (becoming : Becoming) (areas : List Record) (new : Option Record) (planner : Planner) (page : ℕ) → AreSpansInOrder (lower_span becoming) (upper_span becoming) → InOrder areas
    → planner ≡ record { coming = new; pending = None; merging = None }
    → changes_left planner + weight (events_along becoming (ending_above page areas)) ≤ 2 * length areas + 3
first_within becoming areas new planner page spans order is = omega (
  arith,
  ap (λ (p : Planner). changes_left p) is,
  one new,
  skipped_weight becoming page areas,
  weight_along becoming areas,
  counted_short becoming areas spans order,
  length-filter_at_most (is_close becoming) areas,
)
  where
    one : (found : Option Record) → option_len found ≤ 1
    one None = omega arith
    one (Some area) = omega arith

-- the area that is found is near a span where it does not lie between the two
pub near_either : {low high from to lo hi : ℕ} → low ≡ from → high ≡ to → ((low < lo) × (high ≤ hi)) ⊎ (lo ≤ low) → (lo ≤ from) ⊎ (to ≤ hi)
near_either first second (inl both) = inr (omega (arith, second, both.1))
near_either first second (inr below) = inl (omega (arith, first, below))

pub taken_weight : (becoming : Becoming) (area : Record) (areas : List Record) {whole : ℕ}
    → whole ≡ weight ((Event.Begins area ∷ map Event.Comes (parts_left becoming area)) ++ events_along becoming areas)
    → 1 + length (parts_left becoming area) ≤ whole
taken_weight becoming area areas is = omega (
  arith,
  is,
  weight-append (map Event.Comes (parts_left becoming area)) (events_along becoming areas),
  weight-comes (parts_left becoming area),
)
