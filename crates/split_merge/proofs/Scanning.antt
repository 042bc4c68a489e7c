-- For `has_sealed` and `has_hole`: walks along the areas of a span.
use Rattle.std.proofs.Common.{◌≡◌, ◌≤◌, ◌<◌, ℕ, Bool, true, false, ◌&&◌, ◌||◌, nat_le, nat_lt, List, [], ◌∷◌, Option, Some, None, All, inl, inr, refl, ap, ◌∙◌, sym, arith}
use Rattle.std.specs.Prelude.{is_some, is_none}
use Rattle.std.specs.List.{list_any, AllByRecursion as Each}
use Rattle.std.proofs.lemmas.Bool.{cases_lt, cond_both, ltb-false, both_ways}
use Rattle.std.proofs.lemmas.Bool.Decides.{nat_tests}
use Rattle.std.proofs.lemmas.List.Elements.{recursion_from_All}
use Rattle.mm_types.specs.declared.area.Span.{Span}
use Rattle.mm_types.specs.declared.area.Record.{Record}
use Rattle.mm_types.specs.Records.{IsValid}
use Rattle.area_list.specs.Areas.{overlap, area_at}
use Rattle.area_list.proofs.Elements.{Each-weaker}
use Rattle.area_list.proofs.Ordered.{IsOrdered, same_area}
use Rattle.area_rules.specs.Mseal.{has_hole}
use Rattle.area_rules.specs.Placement.{least_below}
use Rattle.area_rules.specs.Seals.{has_sealed}
use Rattle.area_rules.proofs.Searching.{least_none, none_from_least}
use Rattle.split_merge.specs.Finding.{first_from}
use Rattle.split_merge.proofs.Walking.{ending_above, each_ending_above, IsNext, Spares, none_above}

-- whether an area is sealed and shares a page with the span
abbrev pub is_sealed_in : Span → Record → Bool
is_sealed_in span area = area.attr.sealed && overlap area.span span

-- and one that ends above a page
abbrev pub has_sealed_above : Span → List Record → ℕ → Bool
has_sealed_above span areas page = list_any (is_sealed_in span) (ending_above page areas)

sealed_below : (span : Span) (area : Record) → area.span.hi ≤ span.lo → is_sealed_in span area ≡ false
sealed_below span area below = grind (arith, nat_tests, below)

sealed_behind : (span : Span) (area : Record) → span.hi ≤ area.span.lo → is_sealed_in span area ≡ false
sealed_behind span area behind = grind (arith, nat_tests, behind)

any_none : (span : Span) (areas : List Record) → Each (λ area. is_sealed_in span area ≡ false) areas → list_any (is_sealed_in span) areas ≡ false
any_none span [] each = refl
any_none span (area ∷ areas) each = ap (λ test. test || list_any (is_sealed_in span) areas) each.0 ∙ any_none span areas each.1

-- without a sealed area no page is sealed
pub none_sealed : (span : Span) (areas : List Record) → All (λ area. area.attr.sealed ≡ false) areas → has_sealed span areas ≡ false
unfolding has_sealed
none_sealed span areas none = any_none span areas (Each-weaker (λ (area : Record). area.attr.sealed ≡ false) (λ area. is_sealed_in span area ≡ false)
    (λ area is. ap (λ test. test && overlap area.span span) is) areas (recursion_from_All (λ (area : Record). area.attr.sealed ≡ false) areas none))

-- areas that end below the span are not in it
pub sealed_from : (span : Span) (areas : List Record) → has_sealed_above span areas span.lo ≡ has_sealed span areas
unfolding has_sealed
sealed_from span [] = refl
sealed_from span (area ∷ areas) =
    cond_both (nat_lt span.lo area.span.hi) (area ∷ ending_above span.lo areas) (ending_above span.lo areas)
    (λ list. list_any (is_sealed_in span) list ≡ list_any (is_sealed_in span) (area ∷ areas))
    (λ above. ap (λ rest. is_sealed_in span area || rest) (sealed_from span areas))
    (λ below. sealed_from span areas
    ∙ sym (ap (λ test. test || list_any (is_sealed_in span) areas) (sealed_below span area (ltb-false span.lo area.span.hi below))))

-- an area that is not sealed is passed over
pub sealed_next : (span : Span) (areas : List Record) (page : ℕ) (area : Record) → IsNext areas page area → area.attr.sealed ≡ false
    → has_sealed_above span areas page ≡ has_sealed_above span areas area.span.hi
sealed_next span areas page area n is = ap (list_any (is_sealed_in span)) n.rest
    ∙ ap (λ test. (test && overlap area.span span) || has_sealed_above span areas area.span.hi) is

-- one that is sealed, and begins below the span's end, is found
pub sealed_here : (span : Span) (areas : List Record) (page : ℕ) (area : Record) → IsNext areas page area → area.attr.sealed ≡ true → span.lo ≤ page
    → area.span.lo < span.hi → has_sealed_above span areas page ≡ true
sealed_here span areas page area n is from below = ap (list_any (is_sealed_in span)) n.rest
    ∙ ap (λ test. test || has_sealed_above span areas area.span.hi) here
  where
    here : is_sealed_in span area ≡ true
    here = let above = n.above in grind (arith, nat_tests, is, from, below, above)

-- none is, where the next area begins at the span's end or above it
pub sealed_past : (span : Span) (areas : List Record) (page : ℕ) (area : Record) → IsNext areas page area → span.hi ≤ area.span.lo
    → has_sealed_above span areas page ≡ false
sealed_past span areas page area n past = ap (list_any (is_sealed_in span)) n.rest
    ∙ any_none span (area ∷ ending_above area.span.hi areas) (
      sealed_behind span area past,
      each_ending_above (λ next. is_sealed_in span next ≡ false) area.span.hi areas (Each-weaker (Spares area.span.hi)
          (λ next. area.span.hi < next.span.hi → is_sealed_in span next ≡ false)
          (λ next spares higher. sealed_behind span next (omega (arith, spares higher, past, n.valid.some_pages))) areas n.spares),
    )

-- or where there is none
pub sealed_end : (span : Span) (areas : List Record) (page : ℕ) → first_from areas page ≡ None → has_sealed_above span areas page ≡ false
sealed_end span areas page none = ap (list_any (is_sealed_in span)) (none_above areas page none)

hole_tests : (lo page : ℕ) (hole : Bool) → (lo ≤ page → hole ≡ false) → (nat_le lo page && hole) ≡ false
hole_tests lo page hole mapped = grind (arith, nat_tests)

found_tests : (lo page : ℕ) (hole : Bool) → lo ≤ page → hole ≡ true → (nat_le lo page && hole) ≡ true
found_tests lo page hole from is = grind (arith, nat_tests)

-- a page of the span that is not mapped
pub hole_at : (span : Span) (areas : List Record) (page : ℕ) → span.lo ≤ page → page < span.hi → area_at areas page ≡ None → has_hole span areas ≡ true
unfolding has_hole
hole_at span areas page from below none = by (least_below passes span.hi) refl
  where
    passes : ℕ → Bool
    passes p = nat_le span.lo p && is_none (area_at areas p)

    by : (found : Option ℕ) → least_below passes span.hi ≡ found → is_some found ≡ true
    by (Some p) is = refl
    by None is = absurd (both_ways (passes page) (none_from_least passes span.hi is page below)
        (found_tests span.lo page (is_none (area_at areas page)) from (ap (λ (o : Option Record). is_none o) none)))

-- each page of the span is mapped
pub no_hole : (span : Span) (areas : List Record) → ((page : ℕ) → span.lo ≤ page → page < span.hi → is_none (area_at areas page) ≡ false) → has_hole span areas ≡ false
unfolding has_hole
no_hole span areas mapped = ap (λ (o : Option ℕ). is_some o) (least_none (λ page. nat_le span.lo page && is_none (area_at areas page)) span.hi
    (λ page below. hole_tests span.lo page (is_none (area_at areas page)) (λ from. mapped page from below)))

-- each page up to the end of an area is mapped, where those before the area's page are
pub mapped_up_to : (areas : List Record) (lo page : ℕ) (area : Record) → All IsValid areas → IsOrdered areas → area_at areas page ≡ Some area
    → ((p : ℕ) → lo ≤ p → p < page → is_none (area_at areas p) ≡ false) → (p : ℕ) → lo ≤ p → p < area.span.hi → is_none (area_at areas p) ≡ false
mapped_up_to areas lo page area valid ordered found before p from within = elim (cases_lt p page) [
  | inl less ↦ before p from less
  | inr behind ↦ ap (λ (o : Option Record). is_none o) (same_area areas page p area valid ordered found behind within)
]
