-- For the law `seals_and_holes_are_of_pages`: what the tests of seals and of holes say of pages.
use Rattle.std.proofs.Common.{◌≡◌, ◌<◌, ◌≤◌, ◌↔◌, ℕ, Bool, true, false, ◌&&◌, ◌||◌, max, nat_le, nat_lt, List, [], ◌∷◌, Option, Some, None, option_map, refl, sym, subst, arith}
use Rattle.std.specs.List.{AllByRecursion as Each, list_any}
use Rattle.std.specs.Option.{IsSomeAnd, is_some, is_none}
use Rattle.std.proofs.lemmas.Bool.{and_parts, ltb-true}
use Rattle.std.proofs.lemmas.Bool.Decides.{nat_tests}
use Rattle.mm_types.specs.declared.area.Record.{Record}
use Rattle.mm_types.specs.declared.area.Span.{Span}
use Rattle.area_list.specs.Areas.{MappedPage, IsCanonical, has_page, overlap, mapped_page, page_map, area_at}
use Rattle.area_list.proofs.Elements.{Each-also}
use Rattle.area_list.proofs.Holding.{Finds, each_found, lies_in, inside}
use Rattle.area_list.proofs.Order.{IsGood, good_from_canonical, pairs_from_canonical}
use Rattle.area_rules.specs.Laws.{HasPageWith, IsSealed}
use Rattle.area_rules.specs.Mseal.{has_hole}
use Rattle.area_rules.specs.Placement.{least_below}
use Rattle.area_rules.specs.Seals.{has_sealed}
use Rattle.area_rules.proofs.Searching.{least_some, none_from_least}
use Rattle.area_rules.proofs.Unmapped.{sealed_from_page}

-- an area of the list that has pages, and is found at each
record IsFound (areas : List Record) (area : Record) : Type 0 where
  some_pages : area.span.lo < area.span.hi
  finds : Finds areas area

-- what each element has, one that passes the test has
record Passes {A : Type 0} (P : A → Type 0) (test : A → Bool) : Type 0 where
  element : A
  keeps : P element
  passes : test element ≡ true

-- one element more, by its test
passes_more : {A : Type 0} (P : A → Type 0) (test : A → Bool) (x : A) (rest holds : Bool) → test x ≡ holds → P x
    → (rest ≡ true → Passes P test) → (holds || rest) ≡ true → Passes P test
passes_more P test x rest true holds here later some = record { element = x; keeps = here; passes = holds }
passes_more P test x rest false fails here later some = later some

-- where some element passes, there is one
any_passes : {A : Type 0} (P : A → Type 0) (test : A → Bool) (xs : List A) → Each P xs → list_any test xs ≡ true
    → Passes P test
any_passes P test [] each some = cc
any_passes P test (x ∷ xs) each some =
    passes_more P test x (list_any test xs) (test x) refl each.0 (any_passes P test xs each.1) some

-- a page of a sealed area is sealed
sealed_page : (areas : List Record) (area : Record) (page : ℕ) → Finds areas area → has_page area.span page ≡ true
    → area.attr.sealed ≡ true → IsSealed areas page
unfolding page_map mapped_page
sealed_page areas area page finds here sealed =
    subst (λ (found : Option Record). IsSomeAnd (option_map (mapped_page page) found) (λ mapped. mapped.attr.sealed ≡ true))
    (sym (finds page here)) sealed

-- a span with a sealed area has a sealed page
page_from_sealed : (end : ℕ) (span : Span) (areas : List Record) → span.lo < span.hi → IsCanonical end areas
    → has_sealed span areas ≡ true → HasPageWith (IsSealed areas) span
unfolding has_sealed
page_from_sealed end span areas some canonical sealed =
    let each : Each (IsFound areas) areas = Each-also (IsGood end) (Finds areas) (IsFound areas)
    (λ area good finds. record { some_pages = good.valid.some_pages; finds = finds }) areas
    (good_from_canonical end areas canonical) (each_found areas (pairs_from_canonical end areas canonical)) in
    let found = any_passes (IsFound areas) (λ area. area.attr.sealed && overlap area.span span) areas each sealed in
    let area = found.element in
    let parts = and_parts area.attr.sealed (overlap area.span span) found.passes in
    let both = and_parts (nat_lt area.span.lo span.hi) (nat_lt span.lo area.span.hi) parts.1 in
    let low : area.span.lo < span.hi = ltb-true area.span.lo span.hi both.0 in
    let high : span.lo < area.span.hi = ltb-true span.lo area.span.hi both.1 in
    let pages = found.keeps.some_pages in
    let page = max area.span.lo span.lo in
    record {
      page = page;
      within = inside span page (omega arith) (omega arith);
      holds = sealed_page areas area page found.keeps.finds (inside area.span page (omega arith) (omega arith)) parts.0;
    }

-- and the other way round
sealed_from_some : (span : Span) (areas : List Record) → HasPageWith (IsSealed areas) span → has_sealed span areas ≡ true
sealed_from_some span areas has = at (page_map areas has.page) refl has.holds
  where
    at : (found : Option MappedPage) → page_map areas has.page ≡ found
        → IsSomeAnd found (λ mapped. mapped.attr.sealed ≡ true) → has_sealed span areas ≡ true
    at (Some mapped) is sealed = sealed_from_page span areas has.page mapped has.within is sealed
    at None is sealed = absurd sealed

-- the test of seals
pub sealed_is : (end : ℕ) (span : Span) (areas : List Record) → span.lo < span.hi → IsCanonical end areas
    → (has_sealed span areas ≡ true) ↔ HasPageWith (IsSealed areas) span
sealed_is end span areas some canonical = (page_from_sealed end span areas some canonical, sealed_from_some span areas)

-- no area has a page that is not mapped
unmapped_at : (areas : List Record) (page : ℕ) → page_map areas page ≡ None → area_at areas page ≡ None
unfolding page_map
unmapped_at areas page none = at (area_at areas page) none
  where
    at : (found : Option Record) → option_map (mapped_page page) found ≡ None → found ≡ None
    at None h = refl
    at (Some area) h = cc

-- a page that no area has is not mapped
at_unmapped : (areas : List Record) (page : ℕ) → is_none (area_at areas page) ≡ true → page_map areas page ≡ None
unfolding page_map
at_unmapped areas page none = at (area_at areas page) none
  where
    at : (found : Option Record) → is_none found ≡ true → option_map (mapped_page page) found ≡ None
    at None h = refl
    at (Some area) h = cc

-- the page of a hole
page_from_hole : (span : Span) (areas : List Record) → has_hole span areas ≡ true
    → HasPageWith (λ page. page_map areas page ≡ None) span
unfolding has_hole
page_from_hole span areas hole = at (least_below fails span.hi) refl hole
  where
    fails : ℕ → Bool
    fails page = nat_le span.lo page && is_none (area_at areas page)

    low : (lo page : ℕ) (none : Bool) → (nat_le lo page && none) ≡ true → (lo ≤ page) × (none ≡ true)
    low lo page none h = (grind (arith, nat_tests), grind arith)

    at : (found : Option ℕ) → least_below fails span.hi ≡ found → is_some found ≡ true
        → HasPageWith (λ page. page_map areas page ≡ None) span
    at (Some page) is some =
        let least = least_some fails span.hi page is in
        let tests = low span.lo page (is_none (area_at areas page)) least.1 in
        record { page = page; within = inside span page tests.0 least.0; holds = at_unmapped areas page tests.1 }
    at None is some = cc

-- a page that is not mapped makes a hole
hole_from_page : (span : Span) (areas : List Record) → HasPageWith (λ page. page_map areas page ≡ None) span
    → has_hole span areas ≡ true
unfolding has_hole
hole_from_page span areas has = at (least_below fails span.hi) refl
  where
    fails : ℕ → Bool
    fails page = nat_le span.lo page && is_none (area_at areas page)

    test : (lo page : ℕ) (found : Option Record) → lo ≤ page → found ≡ None → (nat_le lo page && is_none found) ≡ false → ⊥
    test lo page None low is h = grind (arith, nat_tests)
    test lo page (Some area) low is h = cc

    at : (found : Option ℕ) → least_below fails span.hi ≡ found → is_some found ≡ true
    at (Some page) is = refl
    at None is =
        let lies = lies_in span has.page has.within in
        absurd (test span.lo has.page (area_at areas has.page) lies.low (unmapped_at areas has.page has.holds)
        (none_from_least fails span.hi is has.page lies.high))

-- the test of holes
pub hole_is : (span : Span) (areas : List Record)
    → (has_hole span areas ≡ true) ↔ HasPageWith (λ page. page_map areas page ≡ None) span
hole_is span areas = (page_from_hole span areas, hole_from_page span areas)
