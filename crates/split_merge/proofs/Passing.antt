-- For `plan_changes`: what the walk passes over brings nothing.
use Rattle.std.proofs.Common.{◌≡◌, ◌≤◌, ◌<◌, ◌-◌, ◌⊎◌, inl, inr, ℕ, Bool, true, false, ◌&&◌, ◌||◌, nat_le, nat_lt, if◌then◌else◌, List, [], ◌∷◌, ◌++◌, length, map, Option, Some, None, IfSome, refl, ap, ◌∙◌, sym, subst, arith}
use Rattle.std.specs.List.{AllByRecursion as Each}
use Rattle.std.proofs.lemmas.Bool.{cond_both, cond-true, cond-false, lt-ltb, le-ltb, ltb-true, ltb-false}
use Rattle.std.proofs.lemmas.Bool.Decides.{nat_tests}
use Rattle.std.proofs.lemmas.List.{append-nil}
use Rattle.mm_types.specs.declared.area.Span.{Span}
use Rattle.mm_types.specs.declared.area.Record.{Record}
use Rattle.mm_types.specs.Records.{IsValid}
use Rattle.area_list.proofs.Elements.{Each-weaker, Each-also}
use Rattle.area_list.proofs.Order.{Before}
use Rattle.split_merge.specs.declared.becoming.Becoming.{Becoming}
use Rattle.split_merge.specs.declared.planner.Merging.{Merging}
use Rattle.split_merge.specs.declared.planner.Planner.{Planner}
use Rattle.split_merge.specs.Plans.{is_near_either}
use Rattle.split_merge.specs.Internal.Becoming.{lower_span, upper_span, parts_left, AreSpansInOrder, BeginsOne}
use Rattle.split_merge.specs.Internal.Planner.{Event, page_at, detaching, closing, merging_behind, unsettled, planned_with, left, merging_with, along, come, come_in, planned, reached, reached_with, laid, weight, events_at, events_along}
use Rattle.split_merge.proofs.Lists.{filter_all, Each-filter, length-filter_at_most}
use Rattle.split_merge.proofs.Ascending.{Pairs-filter}
use Rattle.split_merge.proofs.Steps.{weight-append}
use Rattle.split_merge.proofs.Walking.{ending_above, InOrder, rest_in_order}

-- whether an area is near a span whose pages change
abbrev pub is_close : Becoming → Record → Bool
is_close becoming area = is_near_either (lower_span becoming) (upper_span becoming) area

pub events_close : (becoming : Becoming) (area : Record) → is_close becoming area ≡ true
    → events_at becoming area ≡ Event.Begins area ∷ map Event.Comes (parts_left becoming area)
unfolding events_at
events_close becoming area close = cond-true (is_close becoming area) (Event.Begins area ∷ map Event.Comes (parts_left becoming area)) (Event.Passed area ∷ []) close

pub events_far : (becoming : Becoming) (area : Record) → is_close becoming area ≡ false → events_at becoming area ≡ Event.Passed area ∷ []
unfolding events_at
events_far becoming area far = cond-false (is_close becoming area) (Event.Begins area ∷ map Event.Comes (parts_left becoming area)) (Event.Passed area ∷ []) far

-- the new area does not begin below what comes
pub come_later : (coming : Option Record) (event : Event) (events : List Event) → IfSome coming (λ new. page_at event ≤ new.span.lo)
    → come coming (event ∷ events) ≡ event ∷ come coming events
come_later None event events later = refl
come_later (Some new) event events later =
    cond-false (nat_lt new.span.lo (page_at event)) (Event.Comes new ∷ (event ∷ events)) (event ∷ come_in new events) (le-ltb new.span.lo (page_at event) later)

-- an area that is passed over before the new one comes
pub record IsSkipped (becoming : Becoming) (coming : Option Record) (area : Record) : Type 0 where
  pub far : is_close becoming area ≡ false
  pub later : IfSome coming (λ new. area.span.lo ≤ new.span.lo)

-- the first areas are passed over, and the others all end above the page
pub skipped : (becoming : Becoming) (coming : Option Record) (page : ℕ) (areas : List Record) → InOrder areas
    → Each (λ area. area.span.hi ≤ page → IsSkipped becoming coming area) areas
    → along None None (come coming (events_along becoming areas)) ≡ along None None (come coming (events_along becoming (ending_above page areas)))
skipped becoming coming page [] o each = refl
skipped becoming coming page (area ∷ areas) o each =
    cond_both (nat_lt page area.span.hi) (area ∷ ending_above page areas) (ending_above page areas)
    (λ list. along None None (come coming (events_along becoming (area ∷ areas))) ≡ along None None (come coming (events_along becoming list)))
    (λ above. ap (λ list. along None None (come coming (events_along becoming (area ∷ list)))) (sym (all_above (ltb-true page area.span.hi above))))
    (λ below. let s = each.0 (ltb-false page area.span.hi below) in
    ap (λ events. along None None (come coming (events ++ events_along becoming areas))) (events_far becoming area s.far)
    ∙ ap (along None None) (come_later coming (Event.Passed area) (events_along becoming areas) s.later)
    ∙ skipped becoming coming page areas (rest_in_order area areas o) each.1)
  where
    all_above : page < area.span.hi → ending_above page areas ≡ areas
    all_above above = filter_all (λ next. nat_lt page next.span.hi) areas
        (Each-also IsValid (Before area) (λ next. nat_lt page next.span.hi ≡ true)
        (λ next valid before. lt-ltb page next.span.hi (omega (arith, valid.some_pages))) areas o.valid.1 o.ordered.0)

-- they have no weight
pub skipped_weight : (becoming : Becoming) (page : ℕ) (areas : List Record)
    → weight (events_along becoming (ending_above page areas)) ≤ weight (events_along becoming areas)
skipped_weight becoming page [] = omega arith
skipped_weight becoming page (area ∷ areas) =
    cond_both (nat_lt page area.span.hi) (area ∷ ending_above page areas) (ending_above page areas)
    (λ list. weight (events_along becoming list) ≤ weight (events_along becoming (area ∷ areas)))
    (λ above. omega (
      arith,
      weight-append (events_at becoming area) (events_along becoming (ending_above page areas)),
      weight-append (events_at becoming area) (events_along becoming areas),
      skipped_weight becoming page areas,
    ))
    (λ below. omega (arith, weight-append (events_at becoming area) (events_along becoming areas), skipped_weight becoming page areas))

-- at the end all are passed over
all_passed : (becoming : Becoming) (pending : Option Record) (merging : Option Merging) (areas : List Record) → Each (λ area. is_close becoming area ≡ false) areas
    → along pending merging (events_along becoming areas) ≡ along pending merging []
all_passed becoming pending merging [] far = refl
all_passed becoming pending merging (area ∷ areas) far =
    ap (λ events. along pending merging (events ++ events_along becoming areas)) (events_far becoming area far.0)
    ∙ ap (λ rest. (detaching (unsettled pending merging) ++ closing (merging_behind pending merging)) ++ rest) (all_passed becoming None None areas far.1)
    ∙ append-nil (detaching (unsettled pending merging) ++ closing (merging_behind pending merging))

pub last_planned : (becoming : Becoming) (planner : Planner) (areas : List Record)
    → Each (λ area. (is_close becoming area ≡ false) × IfSome planner.coming (λ new. new.span.lo < area.span.lo)) areas
    → planned planner (events_along becoming areas) ≡ planned planner []
last_planned becoming planner [] each = refl
last_planned becoming planner (area ∷ areas) each = by planner.coming each.0.1
  where
    rest : List Event
    rest = events_along becoming areas

    far : Each (λ next. is_close becoming next ≡ false) (area ∷ areas)
    far = Each-weaker (λ next. (is_close becoming next ≡ false) × IfSome planner.coming (λ new. new.span.lo < next.span.lo)) (λ next. is_close becoming next ≡ false)
        (λ next both. both.0) (area ∷ areas) each

    by : (coming : Option Record) → IfSome coming (λ new. new.span.lo < area.span.lo)
        → along planner.pending planner.merging (come coming (events_along becoming (area ∷ areas))) ≡ along planner.pending planner.merging (come coming [])
    by None before = all_passed becoming planner.pending planner.merging (area ∷ areas) far
    by (Some new) before =
        ap (λ events. along planner.pending planner.merging (come_in new (events ++ rest))) (events_far becoming area each.0.0)
        ∙ ap (along planner.pending planner.merging) (cond-true (nat_lt new.span.lo area.span.lo) (Event.Comes new ∷ (Event.Passed area ∷ rest)) (Event.Passed area ∷ come_in new rest)
        (lt-ltb new.span.lo area.span.lo before))
        ∙ ap (λ changes. planned_with planner.pending planner.merging new ++ changes)
        (ap (λ events. along (left planner.pending new) (Some (merging_with planner.pending planner.merging new)) (events ++ rest)) (sym (events_far becoming area each.0.0))
        ∙ all_passed becoming (left planner.pending new) (Some (merging_with planner.pending planner.merging new)) (area ∷ areas) far)

-- a filter by a higher page
pub ending_higher : (page from : ℕ) (areas : List Record) → page ≤ from → ending_above from (ending_above page areas) ≡ ending_above from areas
ending_higher page from [] later = refl
ending_higher page from (area ∷ areas) later =
    cond_both (nat_lt page area.span.hi) (area ∷ ending_above page areas) (ending_above page areas)
    (λ list. ending_above from list ≡ ending_above from (area ∷ areas))
    (λ above. ap (λ rest. if nat_lt from area.span.hi then area ∷ rest else rest) (ending_higher page from areas later))
    (λ below. ending_higher page from areas later
    ∙ sym (cond-false (nat_lt from area.span.hi) (area ∷ ending_above from areas) (ending_above from areas)
    (le-ltb from area.span.hi (omega (arith, ltb-false page area.span.hi below)))))

pub ending_shorter : (page from : ℕ) (areas : List Record) → page ≤ from → length (ending_above from areas) ≤ length (ending_above page areas)
ending_shorter page from areas later = omega (
  arith,
  ap length (ending_higher page from areas later),
  length-filter_at_most (λ area. nat_lt from area.span.hi) (ending_above page areas),
)

pub in_order_above : (page : ℕ) (areas : List Record) → InOrder areas → InOrder (ending_above page areas)
in_order_above page areas o = record {
  valid = Each-filter IsValid (λ area. nat_lt page area.span.hi) areas o.valid;
  ordered = Pairs-filter Before (λ area. nat_lt page area.span.hi) areas o.ordered;
}

apart_tests : (lo hi from to begin end : ℕ) → (hi < from) ⊎ (to < lo) → (hi < begin) ⊎ (end < lo)
    → ((nat_le lo to && nat_le from hi) || (nat_le lo end && nat_le begin hi)) ≡ false
apart_tests lo hi from to begin end low high = grind (arith, nat_tests)

close_tests : (lo hi from to begin end : ℕ) → from ≤ hi → lo ≤ end → (lo ≤ to) ⊎ (begin ≤ hi)
    → ((nat_le lo to && nat_le from hi) || (nat_le lo end && nat_le begin hi)) ≡ true
close_tests lo hi from to begin end low high either = grind (arith, nat_tests)

-- an area away from both spans is passed over
pub is_far : (becoming : Becoming) (area : Record) → (area.span.hi < (lower_span becoming).lo) ⊎ ((lower_span becoming).hi < area.span.lo)
    → (area.span.hi < (upper_span becoming).lo) ⊎ ((upper_span becoming).hi < area.span.lo) → is_close becoming area ≡ false
is_far becoming area low high =
    apart_tests area.span.lo area.span.hi (lower_span becoming).lo (lower_span becoming).hi (upper_span becoming).lo (upper_span becoming).hi low high

pub close_one : (becoming : Becoming) (area : Record) → (lower_span becoming).lo ≤ area.span.hi → area.span.lo ≤ (upper_span becoming).hi
    → (area.span.lo ≤ (lower_span becoming).hi) ⊎ ((upper_span becoming).lo ≤ area.span.hi) → is_close becoming area ≡ true
close_one becoming area low high either =
    close_tests area.span.lo area.span.hi (lower_span becoming).lo (lower_span becoming).hi (upper_span becoming).lo (upper_span becoming).hi low high either

-- the lower span begins and ends no higher than the upper
pub record AreAscending (low high : Span) : Type 0 where
  pub upwards : low.lo ≤ low.hi
  pub begins : low.lo ≤ high.lo
  pub ends : low.hi ≤ high.hi

pub ascend : (low high : Span) → AreSpansInOrder low high → AreAscending low high
ascend low high o = by o.one_or_below
  where
    by : (low ≡ high) ⊎ (low.hi ≤ high.lo) → AreAscending low high
    by (inl same) = record {
      upwards = o.lower;
      begins = omega (arith, ap (λ (s : Span). s.lo) same);
      ends = omega (arith, ap (λ (s : Span). s.hi) same);
    }
    by (inr below) = record { upwards = o.lower; begins = omega (arith, o.lower); ends = omega (arith, o.upper) }

module _ (becoming : Becoming) (order : AreSpansInOrder (lower_span becoming) (upper_span becoming)) where
  spans : AreAscending (lower_span becoming) (upper_span becoming)
  spans = ascend (lower_span becoming) (upper_span becoming) order

  -- the areas that end below the lower span
  pub skipped_low : (coming : Option Record) (page : ℕ) (area : Record) → BeginsOne becoming coming → IsValid area → page ≡ (lower_span becoming).lo - 1
      → area.span.hi ≤ page → IsSkipped becoming coming area
  skipped_low coming page area begins valid is below = record {
    far = is_far becoming area (inl (omega (arith, valid.some_pages))) (inl (omega (arith, valid.some_pages, spans.begins)));
    later = by coming begins;
  }
    where
      by : (coming : Option Record) → BeginsOne becoming coming → IfSome coming (λ new. area.span.lo ≤ new.span.lo)
      by None begins = tt
      by (Some new) (inl low) = omega (arith, valid.some_pages)
      by (Some new) (inr high) = omega (arith, valid.some_pages, spans.begins)

  -- those between the two spans
  pub skipped_between : (coming : Option Record) (from : ℕ) (area : Record) → IfSome coming (λ new. new.span.lo ≡ (upper_span becoming).lo) → IsValid area
      → (lower_span becoming).hi < from → from ≤ area.span.lo → area.span.hi < (upper_span becoming).lo → IsSkipped becoming coming area
  skipped_between coming from area begins valid after low high = record {
    far = is_far becoming area (inr (omega arith)) (inl high);
    later = by coming begins;
  }
    where
      by : (coming : Option Record) → IfSome coming (λ new. new.span.lo ≡ (upper_span becoming).lo) → IfSome coming (λ new. area.span.lo ≤ new.span.lo)
      by None begins = tt
      by (Some new) is = omega (arith, valid.some_pages)

  -- and those above the upper one
  pub passed_high : (coming : Option Record) (area : Record) → BeginsOne becoming coming → (upper_span becoming).hi < area.span.lo
      → (is_close becoming area ≡ false) × IfSome coming (λ new. new.span.lo < area.span.lo)
  passed_high coming area begins above = (is_far becoming area (inr (omega (arith, spans.ends))) (inr above), by coming begins)
    where
      by : (coming : Option Record) → BeginsOne becoming coming → IfSome coming (λ new. new.span.lo < area.span.lo)
      by None begins = tt
      by (Some new) (inl low) = omega (arith, spans.upwards, spans.ends)
      by (Some new) (inr high) = omega (arith, order.upper)

  -- where an area between the two is passed over, the new area begins with the upper span, if it is still to come
  pub coming_high : (planner : Planner) (page : ℕ) → BeginsOne becoming planner.coming → (lower_span becoming).hi < page
      → IfSome (reached planner page).coming (λ new. new.span.lo ≡ (upper_span becoming).lo)
  coming_high planner page begins after = by planner.coming begins refl
    where
      by : (coming : Option Record) → BeginsOne becoming coming → planner.coming ≡ coming
          → IfSome (reached_with coming planner page).coming (λ new. new.span.lo ≡ (upper_span becoming).lo)
      by None begins is = subst (λ (c : Option Record). IfSome c (λ new. new.span.lo ≡ (upper_span becoming).lo)) (sym is) tt
      by (Some new) (inr high) is = cond_both (nat_lt new.span.lo page) (laid (record planner { coming = None }) new) planner
          (λ (p : Planner). IfSome p.coming (λ other. other.span.lo ≡ (upper_span becoming).lo))
          (λ below. tt) (λ above. subst (λ (c : Option Record). IfSome c (λ other. other.span.lo ≡ (upper_span becoming).lo)) (sym is) high)
      by (Some new) (inl low) is = cond_both (nat_lt new.span.lo page) (laid (record planner { coming = None }) new) planner
          (λ (p : Planner). IfSome p.coming (λ other. other.span.lo ≡ (upper_span becoming).lo))
          (λ below. tt) (λ above. absurd (omega (arith, ltb-false new.span.lo page above, spans.upwards)))
