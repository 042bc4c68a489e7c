-- For `grower` and `plan_growth`: the area that grows into a page, by the first area that ends above the page below it.
use Rattle.std.proofs.Common.{◌≡◌, ◌≤◌, ◌<◌, ◌+◌, ◌-◌, ℕ, Bool, true, false, ◌&&◌, ◌||◌, if◌then◌else◌, nat_le, nat_lt, ◌⊎◌, inl, inr, List, [], ◌∷◌, Option, Some, None, refl, ap, ◌∙◌, sym, subst, arith}
use Rattle.std.specs.Bool.{then_some}
use Rattle.std.specs.List.{find, Contains, AllByRecursion as Each}
use Rattle.std.proofs.lemmas.Bool.{cases_lt, cond_both, cond-false, ltb-true, ltb-false}
use Rattle.std.proofs.lemmas.Bool.Decides.{nat_tests}
use Rattle.std.proofs.lemmas.List.Elements.{All-cons, All-nil, recursion_from_All}
use Rattle.std.proofs.lemmas.Option.{same_Some}
use Rattle.mm_types.specs.declared.area.Record.{Record}
use Rattle.mm_types.specs.declared.config.Config.{Config}
use Rattle.mm_types.specs.Records.{IsValid}
use Rattle.area_list.specs.Areas.{page_of, IsCanonical}
use Rattle.area_list.proofs.Elements.{Each-weaker}
use Rattle.area_list.proofs.Finding.{find_passes}
use Rattle.area_list.proofs.Order.{Before, pairs_from_canonical}
use Rattle.area_rules.specs.Growing.{is_above, grower, grown_to, grown_list}
use Rattle.area_rules.specs.Placement.{is_free}
use Rattle.area_rules.proofs.Growing.{IsClear, clear_from_free}
use Rattle.split_merge.specs.declared.plan.Change.TheVariants.{Alter}
use Rattle.split_merge.specs.Finding.{first_from}
use Rattle.split_merge.specs.Plans.{Makes}
use Rattle.split_merge.proofs.Counting.{contains_cases, contains_later}
use Rattle.split_merge.proofs.Freeing.{free_below}
use Rattle.split_merge.proofs.OneChange.{plan_grows}
use Rattle.split_merge.proofs.Walking.{InOrder, in_order, rest_in_order}

not_above : (page : ℕ) (area : Record) → (area.span.lo ≡ page + 1 → ⊥) → is_above page area ≡ false
not_above page area apart = grind (arith, nat_tests, apart)

-- no area above the next page grows into a page
none_above_it : (page : ℕ) (areas : List Record) → Each (λ area. page + 1 < area.span.lo) areas → find (is_above page) areas ≡ None
none_above_it page [] above = refl
none_above_it page (area ∷ areas) above =
    cond-false (is_above page area) (Some area) (find (is_above page) areas) (not_above page area (λ same. omega (arith, above.0)))
    ∙ none_above_it page areas above.1

-- what is found where the range is free
abbrev found_if : Bool → ℕ → List Record → Option Record
found_if free page areas = if free then find (is_above page) areas else None

found_past : (page : ℕ) (first : Record) (areas : List Record) → 1 ≤ page → IsValid first → first.span.hi ≤ page - 1
    → found_if (is_free (first ∷ areas) 2 (page - 1)) page (first ∷ areas) ≡ found_if (is_free areas 2 (page - 1)) page areas
unfolding is_free
found_past page first areas some valid past =
    let free : is_free (first ∷ areas) 2 (page - 1) ≡ is_free areas 2 (page - 1) = grind (arith, nat_tests, past) in
    ap (λ test. found_if test page (first ∷ areas)) free
    ∙ ap (λ found. if is_free areas 2 (page - 1) then found else None)
    (cond-false (is_above page first) (Some first) (find (is_above page) areas) (not_above page first (λ same. omega (arith, valid.some_pages))))

found_here : (page : ℕ) (first : Record) (areas : List Record) → 1 ≤ page → InOrder (first ∷ areas) → page - 1 < first.span.hi
    → then_some (is_above page first) first ≡ found_if (is_free (first ∷ areas) 2 (page - 1)) page (first ∷ areas)
unfolding is_free
found_here page first areas some o here = by (nat_le (page + 1) first.span.lo) refl
  where
    free_test : (lo hi from : ℕ) (rest : Bool) → from < hi → (nat_le (from + 2) lo ≡ true → rest ≡ true) → ((nat_le (from + 2) lo || nat_le hi from) && rest) ≡ nat_le (from + 2) lo
    free_test lo hi from rest above later = grind (arith, nat_tests)

    later_above : nat_le (page + 1) first.span.lo ≡ true → Each (λ area. page + 1 < area.span.lo) areas
    later_above begins = Each-weaker (Before first) (λ area. page + 1 < area.span.lo)
        (λ next before. let low : page + 1 ≤ first.span.lo = grind (arith, nat_tests, begins) in omega (arith, low, o.valid.0.some_pages)) areas o.ordered.0

    same : page - 1 + 2 ≡ page + 1
    same = omega arith

    free : is_free (first ∷ areas) 2 (page - 1) ≡ nat_le (page + 1) first.span.lo
    free = free_test first.span.lo first.span.hi (page - 1) (is_free areas 2 (page - 1)) here
        (λ begins. free_below areas 2 (page - 1) (Each-weaker (λ (area : Record). page + 1 < area.span.lo) (λ area. page - 1 + 2 ≤ area.span.lo) (λ area above. omega arith) areas
        (later_above (ap (λ n. nat_le n first.span.lo) (sym same) ∙ begins))))
        ∙ ap (λ n. nat_le n first.span.lo) same

    by : (test : Bool) → nat_le (page + 1) first.span.lo ≡ test
        → then_some (is_above page first) first ≡ found_if (is_free (first ∷ areas) 2 (page - 1)) page (first ∷ areas)
    by true begins = sym (ap (λ test. found_if test page (first ∷ areas)) (free ∙ begins)
        ∙ ap (λ rest. if is_above page first then Some first else rest) (none_above_it page areas (later_above begins))
        ∙ then_is (is_above page first))
      where
        then_is : (test : Bool) → (if test then Some first else None) ≡ then_some test first
        then_is true = refl
        then_is false = refl
    by false taken = ap (λ test. then_some test first)
        (not_above page first (λ is. absurd (begins_tests first.span.lo page is taken)))
        ∙ sym (ap (λ test. found_if test page (first ∷ areas)) (free ∙ taken))
      where
        begins_tests : (lo page : ℕ) → lo ≡ page + 1 → nat_le (page + 1) lo ≡ false → ⊥
        begins_tests lo page is taken = grind (arith, nat_tests)

found_by : (areas : List Record) (page : ℕ) (area : Record) → 1 ≤ page → InOrder areas → first_from areas (page - 1) ≡ Some area
    → then_some (is_above page area) area ≡ found_if (is_free areas 2 (page - 1)) page areas
found_by [] page area some o found = cc
found_by (first ∷ areas) page area some o found =
    cond_both (nat_lt (page - 1) first.span.hi) (Some first) (first_from areas (page - 1))
    (λ found. found ≡ Some area → then_some (is_above page area) area ≡ found_if (is_free (first ∷ areas) 2 (page - 1)) page (first ∷ areas))
    (λ here is. subst (λ (a : Record). then_some (is_above page a) a ≡ found_if (is_free (first ∷ areas) 2 (page - 1)) page (first ∷ areas)) (same_Some first area is)
    (found_here page first areas some o (ltb-true (page - 1) first.span.hi here)))
    (λ past is. found_by areas page area some (rest_in_order first areas o) is
    ∙ sym (found_past page first areas some o.valid.0 (ltb-false (page - 1) first.span.hi past)))
    found

found_none : (areas : List Record) (page : ℕ) → 1 ≤ page → Each IsValid areas → first_from areas (page - 1) ≡ None → found_if (is_free areas 2 (page - 1)) page areas ≡ None
found_none [] page some valid none = by (is_free [] 2 (page - 1))
  where
    by : (test : Bool) → found_if test page [] ≡ None
    by true = refl
    by false = refl
found_none (first ∷ areas) page some valid none =
    cond_both (nat_lt (page - 1) first.span.hi) (Some first) (first_from areas (page - 1))
    (λ found. found ≡ None → found_if (is_free (first ∷ areas) 2 (page - 1)) page (first ∷ areas) ≡ None)
    (λ here is. cc)
    (λ past is. found_past page first areas some valid.0 (ltb-false (page - 1) first.span.hi past) ∙ found_none areas page some valid.1 is)
    none

low_enough : (config : Config) (areas : List Record) (page : ℕ) → page_of config.min ≤ page → grower config areas page ≡ found_if (is_free areas 2 (page - 1)) page areas
unfolding grower
low_enough config areas page above = ap (λ test. if test && is_free areas 2 (page - 1) then find (is_above page) areas else None)
    (let test : nat_le (page_of config.min) page ≡ true = grind (arith, nat_tests, above) in test)

-- the first area that ends above the page below grows into the page, if it grows and begins at the next one
pub grower_found : (config : Config) (areas : List Record) (page : ℕ) (area : Record) → 1 ≤ page → page_of config.min ≤ page → InOrder areas
    → first_from areas (page - 1) ≡ Some area → then_some (is_above page area) area ≡ grower config areas page
grower_found config areas page area some above o found = found_by areas page area some o found ∙ sym (low_enough config areas page above)

-- and none does where there is no such area
pub grower_none : (config : Config) (areas : List Record) (page : ℕ) → 1 ≤ page → page_of config.min ≤ page → Each IsValid areas
    → first_from areas (page - 1) ≡ None → grower config areas page ≡ None
grower_none config areas page some above valid none = low_enough config areas page above ∙ found_none areas page some valid none

-- nor into a page below the lowest
pub grower_low : (config : Config) (areas : List Record) (page : ℕ) → page < page_of config.min → grower config areas page ≡ None
unfolding grower
grower_low config areas page below = ap (λ test. if test && is_free areas 2 (page - 1) then find (is_above page) areas else None)
    (let test : nat_le (page_of config.min) page ≡ false = grind (arith, nat_tests, below) in test)

free_zero : (areas : List Record) → Each IsValid areas → is_free areas 2 0 ≡ true → Each (λ area. 0 + 1 < area.span.lo) areas
unfolding is_free
free_zero [] valid free = tt
free_zero (area ∷ areas) valid free = (begins area.span.lo area.span.hi (is_free areas 2 0) valid.0.some_pages free, free_zero areas valid.1 (grind (arith, nat_tests, free)))
  where
    begins : (lo hi : ℕ) (rest : Bool) → lo < hi → ((nat_le 2 lo || nat_le hi 0) && rest) ≡ true → 1 < lo
    begins lo hi rest some free = grind (arith, nat_tests)

-- nor into page 0
pub grower_zero : (config : Config) (areas : List Record) (page : ℕ) → page ≡ 0 → Each IsValid areas → grower config areas page ≡ None
unfolding grower
grower_zero config areas page is valid = ap (λ n. grower config areas n) is ∙ by (nat_le (page_of config.min) 0) (is_free areas 2 0) refl
  where
    by : (low free : Bool) → is_free areas 2 0 ≡ free → (if low && free then find (is_above 0) areas else None) ≡ None
    by true true free = none_above_it 0 areas (free_zero areas valid free)
    by true false free = refl
    by false free is = refl

found_free : (low free : Bool) (found : Option Record) (old : Record) → (if low && free then found else None) ≡ Some old → (free ≡ true) × (found ≡ Some old)
found_free true true found old is = (refl, is)
found_free true false found old is = cc
found_free false free found old is = cc

found_contained : (passes : Record → Bool) (areas : List Record) (old : Record) → find passes areas ≡ Some old → Contains areas old
found_contained passes [] old found = cc
found_contained passes (area ∷ areas) old found =
    cond_both (passes area) (Some area) (find passes areas) (λ o. o ≡ Some old → Contains (area ∷ areas) old)
    (λ here is. (0, omega arith, same_Some area old is))
    (λ later is. contains_later area areas old (found_contained passes areas old is)) found

-- the area grows by one real change
pub growth_makes : (end : ℕ) (config : Config) (areas : List Record) (page : ℕ) (old : Record) → IsCanonical end areas → grower config areas page ≡ Some old
    → Makes (Alter old (grown_to page old) ∷ []) areas (grown_list page areas)
unfolding grower
growth_makes end config areas page old c found =
    let o = in_order end areas c in
    let parts = found_free (nat_le (page_of config.min) page) (is_free areas 2 (page - 1)) (find (is_above page) areas) old found in
    let begins : old.span.lo ≡ page + 1 = above_begins (find_passes (is_above page) areas old parts.1) in
    record {
      plan_of = record {
        members = All-cons (Contains areas) old [] (found_contained (is_above page) areas old parts.1) (All-nil (Contains areas));
        distinct = λ i j d before within. absurd (omega arith);
      };
      result = plan_grows page areas old o.valid (recursion_from_All (IsClear page) areas (clear_from_free page areas some parts.0)) (pairs_from_canonical end areas c) parts.1;
      real = All-cons (λ new. ¬ (Contains (old ∷ []) new)) (grown_to page old) [] (λ member. other begins (contains_cases old [] (grown_to page old) member))
          (All-nil (λ new. ¬ (Contains (old ∷ []) new)));
    }
  where
    above_begins : is_above page old ≡ true → old.span.lo ≡ page + 1
    above_begins above = grind (arith, nat_tests, above)

    other : old.span.lo ≡ page + 1 → (old ≡ grown_to page old) ⊎ Contains [] (grown_to page old) → ⊥
    other begins (inl same) = omega (arith, begins, ap (λ (r : Record). r.span.lo) same)
    other begins (inr later) = omega (arith, later.1)

    none_is : None ≡ Some old → ⊥
    none_is is = cc

    zero_not : page ≡ 0 → None ≡ Some old
    zero_not is = sym (grower_zero config areas page is (in_order end areas c).valid) ∙ found

    some : 1 ≤ page
    some = elim (cases_lt 0 page) [ inl above ↦ above | inr zero ↦ absurd (none_is (zero_not (omega arith))) ]
