-- For the laws of protect and of moves: the area of a list that has a page.
use Rattle.std.proofs.Common.{◌≡◌, ◌≤◌, ◌<◌, ℕ, true, false, ◌&&◌, nat_le, nat_lt, List, [], ◌∷◌, Some, ◌∙◌, subst, arith}
use Rattle.std.specs.List.{AllByRecursion as Each}
use Rattle.std.proofs.lemmas.Bool.{cond_both, cond-true, cond-false, and_parts, and_from, le-leb, lt-ltb, leb-true, ltb-true}
use Rattle.std.proofs.lemmas.Bool.Decides.{nat_tests}
use Rattle.std.proofs.lemmas.Option.{same_Some}
use Rattle.mm_types.specs.declared.area.Span.{Span}
use Rattle.mm_types.specs.declared.area.Record.{Record}
use Rattle.area_list.specs.Areas.{has_page, area_at}
use Rattle.area_list.proofs.Elements.{Pairs, Each-also}
use Rattle.area_list.proofs.Parts.{Apart}

-- what it means that a page lies in a span
pub record Lies (span : Span) (page : ℕ) : Type 0 where
  pub low : span.lo ≤ page
  pub high : page < span.hi

pub lies_in : (span : Span) (page : ℕ) → has_page span page ≡ true → Lies span page
lies_in span page h = let parts = and_parts (nat_le span.lo page) (nat_lt page span.hi) h in
    record { low = leb-true span.lo page parts.0; high = ltb-true page span.hi parts.1 }

pub inside : (span : Span) (page : ℕ) → span.lo ≤ page → page < span.hi → has_page span page ≡ true
inside span page low high = and_from (nat_le span.lo page) (nat_lt page span.hi) (le-leb span.lo page low)
    (lt-ltb page span.hi high)

-- the list finds this area at each of the area's pages
abbrev pub Finds : List Record → Record → Type 0
Finds areas area = (page : ℕ) → has_page area.span page ≡ true → area_at areas page ≡ Some area

-- each area of a list in order is found at its pages
pub each_found : (areas : List Record) → Pairs Apart areas → Each (Finds areas) areas
each_found [] pairs = tt
each_found (first ∷ areas) pairs = (
  λ page here. cond-true (has_page first.span page) (Some first) (area_at areas page) here,
  Each-also (Finds areas) (Apart first) (Finds (first ∷ areas)) (λ area finds apart page here.
      cond-false (has_page first.span page) (Some first) (area_at areas page)
      (passed area apart page (lies_in area.span page here))
      ∙ finds page here) areas (each_found areas pairs.1) pairs.0,
)
  where
    beyond : (lo hi page : ℕ) → hi ≤ page → (nat_le lo page && nat_lt page hi) ≡ false
    beyond lo hi page past = grind (arith, nat_tests)

    passed : (area : Record) → Apart first area → (page : ℕ) → Lies area.span page → has_page first.span page ≡ false
    passed area apart page here = beyond first.span.lo first.span.hi page (omega (arith, apart.order, here.low))

-- what is found has the page
pub found_has : (areas : List Record) (page : ℕ) (area : Record) → area_at areas page ≡ Some area
    → has_page area.span page ≡ true
found_has [] page area h = cc
found_has (first ∷ areas) page area h =
    cond_both (has_page first.span page) (Some first) (area_at areas page)
    (λ o. o ≡ Some area → has_page area.span page ≡ true)
    (λ here e. subst (λ a. has_page a.span page ≡ true) (same_Some first area e) here)
    (λ fails e. found_has areas page area e) h

-- and what each area of the list has
pub found_keeps : (P : Record → Type 0) (areas : List Record) (page : ℕ) (area : Record) → Each P areas
    → area_at areas page ≡ Some area → P area
found_keeps P [] page area each h = cc
found_keeps P (first ∷ areas) page area each h =
    cond_both (has_page first.span page) (Some first) (area_at areas page) (λ o. o ≡ Some area → P area)
    (λ here e. subst P (same_Some first area e) each.0)
    (λ fails e. found_keeps P areas page area each.1 e) h
