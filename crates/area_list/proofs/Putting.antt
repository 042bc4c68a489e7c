-- For the law `put_maps_the_span`: a put keeps a list canonical, and maps the pages of the new area anew.
use Rattle.std.proofs.Common.{◌≡◌, ◌≤◌, ◌<◌, ◌⊎◌, ℕ, Bool, true, false, if◌then◌else◌, nat_lt, List, [], ◌∷◌, Option, Some, None, refl, ap, ◌∙◌, sym, arith}
use Rattle.std.specs.List.{AllByRecursion as Each}
use Rattle.std.proofs.lemmas.Bool.{cond_both, ltb-true, ltb-false}
use Rattle.std.proofs.lemmas.Bool.Decides.{nat_tests}
use Rattle.mm_types.specs.declared.area.Span.{Span}
use Rattle.mm_types.specs.declared.area.Record.{Record}
use Rattle.mm_types.specs.Records.{IsValid}
use Rattle.area_list.specs.Areas.{MappedPage, joins, IsCanonical, has_page, mapped_page, page_map}
use Rattle.area_list.specs.Changes.{joined_area, parts_outside, cut, insert_area, put}
use Rattle.area_list.proofs.Elements.{Pairs, Pairs-weaker, Each-flat_map, Each-weaker}
use Rattle.area_list.proofs.Parts.{part, Apart, Each-outside}
use Rattle.area_list.proofs.Order.{IsGood, Before, Neighbours-from_Pairs, good_from_canonical, pairs_from_canonical}
use Rattle.area_list.proofs.Pages.{lies, page_map-cons}
use Rattle.area_list.proofs.Cutting.{cut_each, cut_good, cut_pairs, page_map-cut}
use Rattle.area_list.proofs.Merging.{merge_each, merge_canonical, page_map-merge}

-- an area with a page, outside the span
pub record IsOutside (span : Span) (area : Record) : Type 0 where
  pub some_pages : area.span.lo < area.span.hi
  pub outside : (area.span.hi ≤ span.lo) ⊎ (span.hi ≤ area.span.lo)

cut_outside : (end : ℕ) (span : Span) (areas : List Record) → Each (IsGood end) areas
    → Each (IsOutside span) (cut span areas)
cut_outside end span areas good = Each-flat_map (IsGood end) (IsOutside span) (parts_outside span)
    (λ area g. Each-outside (IsOutside span) span area
    (λ lo hi low some high out. record { some_pages = some; outside = out })) areas good

pub insert_each : (P : Record → Type 0) (area : Record) (areas : List Record) → P area → Each P areas
    → Each P (insert_area area areas)
insert_each P area [] p each = (p, tt)
insert_each P area (first ∷ areas) p each =
    cond_both (nat_lt first.span.lo area.span.lo) (first ∷ insert_area area areas) (area ∷ (first ∷ areas)) (Each P)
    (λ h. (each.0, insert_each P area areas p each.1))
    (λ h. (p, each))

below : (area first : Record) → area.span.lo < area.span.hi → IsOutside area.span first
    → nat_lt first.span.lo area.span.lo ≡ true → Before first area
below area first some out less =
    omega (arith, ltb-true first.span.lo area.span.lo less, out.some_pages, out.outside)

above : (area first : Record) → IsOutside area.span first → nat_lt first.span.lo area.span.lo ≡ false
    → Before area first
above area first out less = omega (arith, ltb-false first.span.lo area.span.lo less, out.some_pages, out.outside)

-- an area after the first lies after what ends before the first
behind_first : (area first : Record) (areas : List Record) → first.span.lo < first.span.hi → Before area first
    → Each (Before first) areas → Each (Before area) (first ∷ areas)
behind_first area first areas some here later =
    (here, Each-weaker (Before first) (Before area) (λ next order. omega arith) areas later)

insert_pairs : (area : Record) (areas : List Record) → area.span.lo < area.span.hi
    → Each (IsOutside area.span) areas → Pairs Before areas
    → Pairs Before (insert_area area areas)
insert_pairs area [] some out pairs = (tt, tt)
insert_pairs area (first ∷ areas) some out pairs =
    cond_both (nat_lt first.span.lo area.span.lo) (first ∷ insert_area area areas) (area ∷ (first ∷ areas))
    (Pairs Before)
    (λ h. (
      insert_each (Before first) area areas (below area first some out.0 h) pairs.0,
      insert_pairs area areas some out.1 pairs.1,
    ))
    (λ h. (behind_first area first areas out.0.some_pages (above area first out.0 h) pairs.0, pairs))

swap_tests : (lo hi from to page : ℕ) (c d : MappedPage) (rest : Option MappedPage) → (to ≤ lo) ⊎ (hi ≤ from)
    → (if lies from to page then Some c else (if lies lo hi page then Some d else rest))
    ≡ (if lies lo hi page then Some d else (if lies from to page then Some c else rest))
swap_tests lo hi from to page c d rest out = grind (arith, nat_tests)

page_map-insert : (area : Record) (areas : List Record) (page : ℕ) → Each (IsOutside area.span) areas
    → page_map (insert_area area areas) page
    ≡ (if has_page area.span page then Some (mapped_page page area) else page_map areas page)
page_map-insert area [] page out = page_map-cons area [] page
page_map-insert area (first ∷ areas) page out =
    cond_both (nat_lt first.span.lo area.span.lo) (first ∷ insert_area area areas) (area ∷ (first ∷ areas))
    (λ list. page_map list page
    ≡ (if has_page area.span page then Some (mapped_page page area) else page_map (first ∷ areas) page))
    (λ h. page_map-cons first (insert_area area areas) page
    ∙ ap (λ o. if has_page first.span page then Some (mapped_page page first) else o)
    (page_map-insert area areas page out.1)
    ∙ swap_tests area.span.lo area.span.hi first.span.lo first.span.hi page (mapped_page page first) (mapped_page page area)
    (page_map areas page) out.0.outside
    ∙ ap (λ o. if has_page area.span page then Some (mapped_page page area) else o) (sym (page_map-cons first areas page)))
    (λ h. page_map-cons area (first ∷ areas) page)

-- what holds of an area and so of its parts, and of two as one where they join, holds of each area after a put
pub put_each : (P : Record → Type 0) → ((area : Record) (lo hi : ℕ) → P area → P (part area lo hi))
    → ((a b : Record) → P a → P b → joins a b ≡ true → P (joined_area a b))
    → (area : Record) (areas : List Record) → P area → Each P areas → Each P (put area areas)
put_each P cuts joins area areas p each = merge_each P joins (insert_area area (cut area.span areas))
    (insert_each P area (cut area.span areas) p (cut_each P cuts area.span areas each))

-- the list with the new area in its place, before neighbours join
pub placed_good : (end : ℕ) (area : Record) (areas : List Record) → IsGood end area → Each (IsGood end) areas
    → Each (IsGood end) (insert_area area (cut area.span areas))
placed_good end area areas good each =
    insert_each (IsGood end) area (cut area.span areas) good (cut_good end area.span areas each)

pub put_canonical : (end : ℕ) (area : Record) (areas : List Record) → IsGood end area → IsCanonical end areas
    → IsCanonical end (put area areas)
put_canonical end area areas good c =
    let each : Each (IsGood end) areas = good_from_canonical end areas c in
    let apart : Pairs Apart (cut area.span areas) = cut_pairs end area.span areas good.valid.some_pages each
    (pairs_from_canonical end areas c) in
    let pairs : Pairs Before (cut area.span areas) = Pairs-weaker Apart Before (λ a b p. p.order)
    (cut area.span areas) apart in
    merge_canonical end (insert_area area (cut area.span areas)) (placed_good end area areas good each)
    (Neighbours-from_Pairs Before (insert_area area (cut area.span areas))
    (insert_pairs area (cut area.span areas) good.valid.some_pages (cut_outside end area.span areas each) pairs))

over : (b : Bool) (x : MappedPage) (y : Option MappedPage)
    → (if b then Some x else (if b then None else y)) ≡ (if b then Some x else y)
over true x y = refl
over false x y = refl

pub page_map-put : (end : ℕ) (area : Record) (areas : List Record) (page : ℕ) → IsGood end area
    → Each (IsGood end) areas
    → page_map (put area areas) page
    ≡ (if has_page area.span page then Some (mapped_page page area) else page_map areas page)
page_map-put end area areas page good each =
    page_map-merge (insert_area area (cut area.span areas)) page
    (Each-weaker (IsGood end) IsValid (λ a g. g.valid) (insert_area area (cut area.span areas))
    (placed_good end area areas good each))
    ∙ page_map-insert area (cut area.span areas) page (cut_outside end area.span areas each)
    ∙ ap (λ o. if has_page area.span page then Some (mapped_page page area) else o)
    (page_map-cut area.span areas page good.valid.some_pages)
    ∙ over (has_page area.span page) (mapped_page page area) (page_map areas page)
