-- For `area_at`, `is_free`, `plan_changes` and others: walks from one area to the next: what is found above a page.
use Rattle.std.proofs.Common.{◌≡◌, ◌≤◌, ◌<◌, ℕ, true, nat_lt, List, [], ◌∷◌, Some, None, refl, ap, ◌∙◌, sym, subst, arith}
use Rattle.std.specs.List.{filter, AllByRecursion as Each}
use Rattle.std.proofs.lemmas.Bool.{cond_both, cond-true, cond-false, lt-ltb, le-ltb, ltb-true, ltb-false}
use Rattle.std.proofs.lemmas.Option.{same_Some}
use Rattle.mm_types.specs.declared.area.Record.{Record}
use Rattle.mm_types.specs.Records.{IsValid}
use Rattle.area_list.specs.Areas.{IsCanonical}
use Rattle.area_list.proofs.Elements.{Pairs, Each-weaker, Each-also, Pairs-weaker}
use Rattle.area_list.proofs.Parts.{Apart}
use Rattle.area_list.proofs.Order.{IsGood, Before, good_from_canonical, pairs_from_canonical}
use Rattle.split_merge.specs.Finding.{first_from}
use Rattle.split_merge.proofs.Lists.{filter_all}

-- the areas that end above the page
abbrev pub ending_above : ℕ → List Record → List Record
ending_above page areas = filter (λ area. nat_lt page area.span.hi) areas

-- what holds of each area that ends above the page holds of these
pub each_ending_above : (P : Record → Type 0) (page : ℕ) (areas : List Record) → Each (λ area. page < area.span.hi → P area) areas → Each P (ending_above page areas)
each_ending_above P page [] each = tt
each_ending_above P page (area ∷ areas) each =
    cond_both (nat_lt page area.span.hi) (area ∷ ending_above page areas) (ending_above page areas) (Each P)
    (λ above. (each.0 (ltb-true page area.span.hi above), each_ending_above P page areas each.1)) (λ below. each_ending_above P page areas each.1)

-- the page cuts no area, where it is one at which an area ends
abbrev pub Spares : ℕ → Record → Type 0
Spares page area = page < area.span.hi → page ≤ area.span.lo

-- areas in order, by recursion
pub record InOrder (areas : List Record) : Type 0 where
  pub valid : Each IsValid areas
  pub ordered : Pairs Before areas

pub in_order : (end : ℕ) (areas : List Record) → IsCanonical end areas → InOrder areas
in_order end areas c = record {
  valid = Each-weaker (IsGood end) IsValid (λ area g. g.valid) areas (good_from_canonical end areas c);
  ordered = Pairs-weaker Apart Before (λ a b p. p.order) areas (pairs_from_canonical end areas c);
}

pub rest_in_order : (area : Record) (areas : List Record) → InOrder (area ∷ areas) → InOrder areas
rest_in_order area areas o = record { valid = o.valid.1; ordered = o.ordered.1 }

-- each area after one in order ends above it
behind : (area : Record) (areas : List Record) → InOrder (area ∷ areas)
    → Each (λ next. nat_lt area.span.hi next.span.hi ≡ true) areas
behind area areas o = Each-also IsValid (Before area) (λ next. nat_lt area.span.hi next.span.hi ≡ true)
    (λ next valid before. lt-ltb area.span.hi next.span.hi (omega (arith, valid.some_pages))) areas o.valid.1 o.ordered.0

-- what a walk finds at a page
pub record IsNext (areas : List Record) (page : ℕ) (area : Record) : Type 0 where
  pub valid : IsValid area
  pub above : page < area.span.hi
  pub rest : ending_above page areas ≡ area ∷ ending_above area.span.hi areas
  pub spares : Each (Spares area.span.hi) areas

next_here : (page : ℕ) (area : Record) (areas : List Record) → InOrder (area ∷ areas) → page < area.span.hi
    → IsNext (area ∷ areas) page area
next_here page area areas o above = record {
  valid = o.valid.0;
  above = above;
  rest = cond-true (nat_lt page area.span.hi) (area ∷ ending_above page areas) (ending_above page areas) (lt-ltb page area.span.hi above)
      ∙ ap (λ rest. area ∷ rest) (all ∙ sym later);
  spares = ((λ less. absurd (omega arith)), Each-weaker (Before area) (Spares area.span.hi) (λ next before _. before) areas o.ordered.0);
}
  where
    all : ending_above page areas ≡ areas
    all = filter_all (λ next. nat_lt page next.span.hi) areas
        (Each-weaker (λ next. nat_lt area.span.hi next.span.hi ≡ true) (λ next. nat_lt page next.span.hi ≡ true)
        (λ next h. lt-ltb page next.span.hi (omega (arith, ltb-true area.span.hi next.span.hi h))) areas (behind area areas o))

    later : ending_above area.span.hi (area ∷ areas) ≡ areas
    later = cond-false (nat_lt area.span.hi area.span.hi) (area ∷ ending_above area.span.hi areas) (ending_above area.span.hi areas)
        (le-ltb area.span.hi area.span.hi (omega arith))
        ∙ filter_all (λ next. nat_lt area.span.hi next.span.hi) areas (behind area areas o)

next_later : (page : ℕ) (area first : Record) (areas : List Record) → first.span.hi ≤ page → IsNext areas page area
    → IsNext (first ∷ areas) page area
next_later page area first areas past n = record {
  valid = n.valid;
  above = n.above;
  rest = cond-false (nat_lt page first.span.hi) (first ∷ ending_above page areas) (ending_above page areas) (le-ltb page first.span.hi past)
      ∙ n.rest
      ∙ ap (λ rest. area ∷ rest) (sym (cond-false (nat_lt area.span.hi first.span.hi) (first ∷ ending_above area.span.hi areas)
      (ending_above area.span.hi areas) (le-ltb area.span.hi first.span.hi (omega (arith, n.above)))));
  spares = ((λ less. absurd (omega (arith, n.above))), n.spares);
}

-- the first area that ends above a page is the next of a walk
pub next_is : (areas : List Record) (page : ℕ) (area : Record) → InOrder areas → first_from areas page ≡ Some area
    → IsNext areas page area
next_is [] page area o found = cc
next_is (first ∷ areas) page area o found =
    cond_both (nat_lt page first.span.hi) (Some first) (first_from areas page) (λ found. found ≡ Some area → IsNext (first ∷ areas) page area)
    (λ here is. subst (λ next. IsNext (first ∷ areas) page next) (same_Some first area is)
    (next_here page first areas o (ltb-true page first.span.hi here)))
    (λ past later. next_later page area first areas (ltb-false page first.span.hi past)
    (next_is areas page area (rest_in_order first areas o) later))
    found

-- without a first area that ends above a page there is none
pub none_above : (areas : List Record) (page : ℕ) → first_from areas page ≡ None → ending_above page areas ≡ []
none_above [] page none = refl
none_above (first ∷ areas) page none =
    cond_both (nat_lt page first.span.hi) (Some first) (first_from areas page) (λ found. found ≡ None → ending_above page (first ∷ areas) ≡ [])
    (λ here is. cc)
    (λ past later. cond-false (nat_lt page first.span.hi) (first ∷ ending_above page areas) (ending_above page areas) past
    ∙ none_above areas page later)
    none

-- no area below a page, where none begins below it
pub filter_none : (page : ℕ) (areas : List Record) → Each (λ area. page ≤ area.span.lo) areas
    → filter (λ area. nat_lt area.span.lo page) areas ≡ []
filter_none page [] above = refl
filter_none page (area ∷ areas) above =
    cond-false (nat_lt area.span.lo page) (area ∷ filter (λ other. nat_lt other.span.lo page) areas) (filter (λ other. nat_lt other.span.lo page) areas)
    (le-ltb area.span.lo page above.0)
    ∙ filter_none page areas above.1
