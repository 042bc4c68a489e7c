-- For the laws of growth, of brk and of seals: the pages of a free place are not mapped, and a span without a seal has no sealed page.
use Rattle.std.proofs.Common.{◌≡◌, ◌<◌, ◌≤◌, ◌+◌, ℕ, Bool, true, false, ◌&&◌, ◌||◌, nat_le, nat_lt, List, [], ◌∷◌, Some, None, option_map, refl, ap, ◌∙◌, sym, subst, arith, inl, inr}
use Rattle.std.specs.List.{list_any}
use Rattle.std.proofs.lemmas.Bool.{cond_both, cond-false, and_parts, and_from, or_left, or_right, lt-ltb, cases_Bool}
use Rattle.std.proofs.lemmas.Bool.Decides.{nat_tests}
use Rattle.std.proofs.lemmas.Option.{same_Some}
use Rattle.mm_types.specs.declared.area.Record.{Record}
use Rattle.mm_types.specs.declared.area.Span.{Span}
use Rattle.area_list.specs.Areas.{MappedPage, has_page, overlap, mapped_page, page_map, area_at}
use Rattle.area_list.proofs.Holding.{lies_in}
use Rattle.area_list.proofs.Pages.{page_map-cons}
use Rattle.area_rules.specs.Placement.{is_free}
use Rattle.area_rules.specs.Seals.{has_sealed}

-- no area has a page of a free place
pub free_at : (areas : List Record) (pages start page : ℕ) → is_free areas pages start ≡ true → start ≤ page
    → page < start + pages → area_at areas page ≡ None
unfolding is_free
free_at [] pages start page free from to = refl
free_at (area ∷ areas) pages start page free from to =
    let parts = and_parts (nat_le (start + pages) area.span.lo || nat_le area.span.hi start) _ free in
    cond-false (has_page area.span page) (Some area) (area_at areas page)
    (apart area.span.lo area.span.hi (start + pages) start page parts.0 from to)
    ∙ free_at areas pages start page parts.1 from to
  where
    apart : (lo hi end start page : ℕ) → (nat_le end lo || nat_le hi start) ≡ true → start ≤ page → page < end
        → (nat_le lo page && nat_lt page hi) ≡ false
    apart lo hi end start page free from to = grind (arith, nat_tests)

-- no page of a free place is mapped
pub free_unmapped : (areas : List Record) (pages start page : ℕ) → is_free areas pages start ≡ true → start ≤ page
    → page < start + pages → page_map areas page ≡ None
unfolding page_map
free_unmapped areas pages start page free from to =
    ap (option_map (mapped_page page)) (free_at areas pages start page free from to)

-- so a page that is mapped lies outside a span of a free place
pub mapped_outside : (areas : List Record) (pages start page : ℕ) (mapped : MappedPage) (span : Span)
    → page_map areas page ≡ Some mapped → is_free areas pages start ≡ true → start ≤ span.lo → span.hi ≤ start + pages
    → has_page span page ≡ false
mapped_outside areas pages start page mapped span here free low high = elim (cases_Bool (has_page span page)) [
  | inl within ↦
      let lies = lies_in span page within in
      let none : page_map areas page ≡ None =
      free_unmapped areas pages start page free (omega (arith, lies.low)) (omega (arith, lies.high)) in
      absurd (cc)
  | inr outside ↦ outside
]

-- a span that has a sealed page of an area overlaps it
overlaps : (area : Record) (span : Span) (page : ℕ) → has_page area.span page ≡ true → has_page span page ≡ true
    → overlap area.span span ≡ true
overlaps area span page here within =
    let a = lies_in area.span page here in
    let s = lies_in span page within in
    and_from (nat_lt area.span.lo span.hi) (nat_lt span.lo area.span.hi)
    (lt-ltb area.span.lo span.hi (omega (arith, a.low, s.high))) (lt-ltb span.lo area.span.hi (omega (arith, s.low, a.high)))

-- a span with a sealed page has a sealed area
pub sealed_from_page : (span : Span) (areas : List Record) (page : ℕ) (mapped : MappedPage) → has_page span page ≡ true
    → page_map areas page ≡ Some mapped → mapped.attr.sealed ≡ true → has_sealed span areas ≡ true
unfolding has_sealed mapped_page
sealed_from_page span [] page mapped within here sealed = absurd (no_page page mapped here)
  where
    no_page : (page : ℕ) (mapped : MappedPage) → page_map [] page ≡ Some mapped → ⊥
    no_page page mapped here = unfold page_map in cc
sealed_from_page span (area ∷ areas) page mapped within here sealed =
    let rest : Bool = list_any (λ area. area.attr.sealed && overlap area.span span) areas in
    let cell : MappedPage = mapped_page page area in
    cond_both (has_page area.span page) (Some cell) (page_map areas page)
    (λ o. o ≡ Some mapped → ((area.attr.sealed && overlap area.span span) || rest) ≡ true)
    (λ has is. or_left (area.attr.sealed && overlap area.span span) rest
    (and_from area.attr.sealed (overlap area.span span)
    (subst (λ (m : MappedPage). m.attr.sealed ≡ true) (sym (same_Some cell mapped is)) sealed)
    (overlaps area span page has within)))
    (λ other is. or_right (area.attr.sealed && overlap area.span span) rest
    (sealed_from_page span areas page mapped within is sealed))
    (sym (page_map-cons area areas page) ∙ here)

-- so a sealed page lies outside a span that has none
pub sealed_outside : (span : Span) (areas : List Record) (page : ℕ) (mapped : MappedPage)
    → page_map areas page ≡ Some mapped → mapped.attr.sealed ≡ true → has_sealed span areas ≡ false
    → has_page span page ≡ false
sealed_outside span areas page mapped here sealed none = elim (cases_Bool (has_page span page)) [
  | inl within ↦
      let some = sealed_from_page span areas page mapped within here sealed in absurd (cc)
  | inr outside ↦ outside
]
