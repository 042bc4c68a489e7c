-- For the law `cut_unmaps_the_span`: a cut keeps a list canonical, and unmaps the pages of its span.
use Rattle.std.proofs.Common.{◌≡◌, ◌≤◌, ◌<◌, ℕ, Bool, true, false, if◌then◌else◌, min, max, List, [], ◌∷◌, Option, Some, None, refl, ap, ◌∙◌, sym, arith}
use Rattle.std.specs.Option.{option_or}
use Rattle.std.specs.List.{AllByRecursion as Each}
use Rattle.std.proofs.lemmas.Bool.Decides.{nat_tests}
use Rattle.mm_types.specs.declared.area.Span.{Span}
use Rattle.mm_types.specs.declared.area.Record.{Record}
use Rattle.area_list.specs.Areas.{MappedPage, IsCanonical, has_page, mapped_page, page_map}
use Rattle.area_list.specs.Changes.{parts_outside, cut}
use Rattle.area_list.proofs.Elements.{Pairs, Each-flat_map, Pairs-flat_map}
use Rattle.area_list.proofs.Parts.{piece_below, piece_above, Apart, part, part_valid, parts_apart, joins_touching, Each-outside, Pairs-outside}
use Rattle.area_list.proofs.Order.{IsGood, Neighbours-from_Pairs, good_from_canonical, pairs_from_canonical, canonical_from_good}
use Rattle.area_list.proofs.Pages.{lies, page_map-nil, page_map-append, page_map-single, page_map-piece}

pub good_part : (end : ℕ) (area : Record) (lo hi : ℕ) → IsGood end area → area.span.lo ≤ lo → lo < hi
    → hi ≤ area.span.hi → IsGood end (part area lo hi)
good_part end area lo hi good low some high =
    record { valid = part_valid area lo hi good.valid low some high; below_end = omega (arith, good.below_end) }

-- what holds of an area and so of its parts, holds of each area after a cut
pub cut_each : (P : Record → Type 0) → ((area : Record) (lo hi : ℕ) → P area → P (part area lo hi))
    → (span : Span) (areas : List Record) → Each P areas → Each P (cut span areas)
cut_each P keeps span areas each = Each-flat_map P P (parts_outside span)
    (λ area p. Each-outside P span area (λ lo hi low some high out. keeps area lo hi p)) areas each

pub cut_good : (end : ℕ) (span : Span) (areas : List Record) → Each (IsGood end) areas
    → Each (IsGood end) (cut span areas)
cut_good end span areas good = Each-flat_map (IsGood end) (IsGood end) (parts_outside span)
    (λ area g. Each-outside (IsGood end) span area
    (λ lo hi low some high out. good_part end area lo hi g low some high)) areas good

pub cut_pairs : (end : ℕ) (span : Span) (areas : List Record) → span.lo < span.hi → Each (IsGood end) areas
    → Pairs Apart areas → Pairs Apart (cut span areas)
cut_pairs end span areas some good pairs = Pairs-flat_map (IsGood end) Apart Apart (parts_outside span)
    (λ area g. Pairs-outside Apart span area
    (λ l h m n below above. record {
      order = omega arith;
      apart = joins_touching (part area l h) (part area m n) (omega arith);
    }))
    (λ a b g k p. Each-outside (λ u. Each (Apart u) (parts_outside span b)) span a (λ l h low first high out.
    Each-outside (Apart (part a l h)) span b
    (λ m n second last top beside. parts_apart a b l h m n p low first high second)))
    areas good pairs

pub cut_canonical : (end : ℕ) (span : Span) (areas : List Record) → span.lo < span.hi → IsCanonical end areas
    → IsCanonical end (cut span areas)
cut_canonical end span areas some c =
    let good : Each (IsGood end) areas = good_from_canonical end areas c in
    canonical_from_good end (cut span areas) (cut_good end span areas good)
    (Neighbours-from_Pairs Apart (cut span areas)
    (cut_pairs end span areas some good (pairs_from_canonical end areas c)))

outside_tests : (lo hi from to page : ℕ) (c : MappedPage) → from < to
    → option_or (if lies lo (min hi from) page then Some c else None)
    (if lies (max lo to) hi page then Some c else None)
    ≡ (if lies from to page then None else (if lies lo hi page then Some c else None))
outside_tests lo hi from to page c some = grind (arith, nat_tests)

page_map-outside : (span : Span) (area : Record) (page : ℕ) → span.lo < span.hi
    → page_map (parts_outside span area) page ≡ (if has_page span page then None else page_map (area ∷ []) page)
unfolding parts_outside
page_map-outside span area page some =
    page_map-append (piece_below span area) (piece_above span area) page
    ∙ ap (λ o. option_or o (page_map (piece_above span area) page))
    (page_map-piece area area.span.lo (min area.span.hi span.lo) page (omega arith))
    ∙ ap (option_or (if lies area.span.lo (min area.span.hi span.lo) page then Some (mapped_page page area) else None))
    (page_map-piece area (max area.span.lo span.hi) area.span.hi page (omega arith))
    ∙ outside_tests area.span.lo area.span.hi span.lo span.hi page (mapped_page page area) some
    ∙ ap (λ o. if has_page span page then None else o) (sym (page_map-single area page))

unless : (b : Bool) (x y : Option MappedPage)
    → option_or (if b then None else x) (if b then None else y) ≡ (if b then None else option_or x y)
unless true x y = refl
unless false x y = refl

nothing : (b : Bool) → ◌≡◌ {A = Option MappedPage} None (if b then None else None)
nothing true = refl
nothing false = refl

pub page_map-cut : (span : Span) (areas : List Record) (page : ℕ) → span.lo < span.hi
    → page_map (cut span areas) page ≡ (if has_page span page then None else page_map areas page)
page_map-cut span [] page some = page_map-nil page ∙ nothing (has_page span page)
    ∙ ap (λ o. if has_page span page then None else o) (sym (page_map-nil page))
page_map-cut span (area ∷ areas) page some =
    page_map-append (parts_outside span area) (cut span areas) page
    ∙ ap (λ o. option_or o (page_map (cut span areas) page)) (page_map-outside span area page some)
    ∙ ap (λ o. option_or (if has_page span page then None else page_map (area ∷ []) page) o)
    (page_map-cut span areas page some)
    ∙ unless (has_page span page) (page_map (area ∷ []) page) (page_map areas page)
    ∙ ap (λ o. if has_page span page then None else o) (sym (page_map-append (area ∷ []) areas page))
