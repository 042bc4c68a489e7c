-- For the law `new_attributes_change_the_span`: new attributes keep a list canonical, and change the pages of their span.
use Rattle.std.proofs.Common.{◌≡◌, ◌≤◌, ◌<◌, ℕ, Bool, true, false, if◌then◌else◌, nat_lt, min, max, List, [], ◌∷◌, ◌++◌, map, Option, Some, None, option_map, refl, ap, ◌∙◌, sym, subst, arith}
use Rattle.std.specs.Option.{option_or, IfSome}
use Rattle.std.specs.List.{flat_map, AllByRecursion as Each}
use Rattle.std.proofs.lemmas.Bool.{cond_both, ltb-true}
use Rattle.std.proofs.lemmas.Bool.Decides.{nat_tests}
use Rattle.mm_types.specs.declared.area.Span.{Span}
use Rattle.mm_types.specs.declared.area.Record.{Record}
use Rattle.mm_types.specs.Records.{IsValid}
use Rattle.area_list.specs.declared.attributes.AttrChange.{AttrChange}
use Rattle.area_list.specs.declared.attributes.AttrChange.TheVariants.{Protection, Seal}
use Rattle.area_list.specs.Attributes.{may_become, with_attr, changed_page}
use Rattle.area_list.specs.Areas.{MappedPage, IsCanonical, has_page, index_of, joins, mapped_page, page_map}
use Rattle.area_list.specs.Changes.{piece, joined_area, parts_changed, changed_list}
use Rattle.area_list.specs.Laws.{AllMayBecome}
use Rattle.area_list.proofs.Elements.{Pairs, Pairs-append, Pairs-flat_map, Each-append, Each-also, Each-weaker, Each-flat_map}
use Rattle.area_list.proofs.Parts.{part, Apart, Each-piece, Pairs-piece, piece_below, piece_above}
use Rattle.area_list.proofs.Order.{IsGood, Before, Neighbours-from_Pairs, good_from_canonical, pairs_from_canonical}
use Rattle.area_list.proofs.Pages.{lies, page_map-nil, page_map-append, page_map-single, page_map-piece, mapped_page-part, option_map-cond}
use Rattle.area_list.proofs.Cutting.{good_part}
use Rattle.area_list.proofs.Merging.{merge_each, merge_canonical, page_map-merge}
use Rattle.area_list.proofs.Holding.{inside, Finds, each_found}

-- the part of an area from lo up to hi, with the new attributes
abbrev changed_part : AttrChange → Record → ℕ → ℕ → Record
changed_part change area lo hi = with_attr change (part area lo hi)

-- what lies within the span, with the new attributes
abbrev piece_within : AttrChange → Span → Record → List Record
piece_within change span area = map (with_attr change) (piece area (max area.span.lo span.lo) (min area.span.hi span.hi))

Each-within : (P : Record → Type 0) (change : AttrChange) (area : Record) (lo hi : ℕ)
    → (lo < hi → P (changed_part change area lo hi)) → Each P (map (with_attr change) (piece area lo hi))
unfolding piece
Each-within P change area lo hi holds =
    cond_both (nat_lt lo hi) (part area lo hi ∷ []) [] (λ list. Each P (map (with_attr change) list))
    (λ some. (holds (ltb-true lo hi some), tt)) (λ none. tt)

Pairs-within : (R : Record → Record → Type 0) (change : AttrChange) (area : Record) (lo hi : ℕ)
    → Pairs R (map (with_attr change) (piece area lo hi))
unfolding piece
Pairs-within R change area lo hi =
    cond_both (nat_lt lo hi) (part area lo hi ∷ []) [] (λ list. Pairs R (map (with_attr change) list))
    (λ some. (tt, tt)) (λ none. tt)

-- what holds of each part outside the span, and with the new attributes of the part within
Each-changed : (P : Record → Type 0) (change : AttrChange) (span : Span) (area : Record)
    → ((lo hi : ℕ) → area.span.lo ≤ lo → lo < hi → hi ≤ area.span.hi → P (part area lo hi))
    → ((lo hi : ℕ) → area.span.lo ≤ lo → lo < hi → hi ≤ area.span.hi → span.lo ≤ lo → hi ≤ span.hi
    → P (changed_part change area lo hi))
    → Each P (parts_changed change span area)
unfolding parts_changed
Each-changed P change span area outside within =
    Each-append P (piece_below span area) (piece_within change span area ++ piece_above span area)
    (Each-piece P area area.span.lo (min area.span.hi span.lo)
    (λ some. outside area.span.lo (min area.span.hi span.lo) (omega arith) some (omega arith)))
    (Each-append P (piece_within change span area) (piece_above span area)
    (Each-within P change area (max area.span.lo span.lo) (min area.span.hi span.hi)
    (λ some. within (max area.span.lo span.lo) (min area.span.hi span.hi) (omega arith) some (omega arith)
    (omega arith) (omega arith)))
    (Each-piece P area (max area.span.lo span.hi) area.span.hi
    (λ some. outside (max area.span.lo span.hi) area.span.hi (omega arith) some (omega arith))))

-- the parts of one area lie in order
parts_in_order : (change : AttrChange) (span : Span) (area : Record) → span.lo ≤ span.hi
    → Pairs Before (parts_changed change span area)
unfolding parts_changed
parts_in_order change span area some =
    Pairs-append Before (piece_below span area) (piece_within change span area ++ piece_above span area)
    (Pairs-piece Before area area.span.lo (min area.span.hi span.lo))
    (Pairs-append Before (piece_within change span area) (piece_above span area)
    (Pairs-within Before change area (max area.span.lo span.lo) (min area.span.hi span.hi))
    (Pairs-piece Before area (max area.span.lo span.hi) area.span.hi)
    (Each-within (λ u. Each (Before u) (piece_above span area)) change area (max area.span.lo span.lo)
    (min area.span.hi span.hi)
    (λ within. above (changed_part change area (max area.span.lo span.lo) (min area.span.hi span.hi)) (omega arith))))
    (Each-piece (λ u. Each (Before u) (piece_within change span area ++ piece_above span area)) area area.span.lo
    (min area.span.hi span.lo)
    (λ below. let low : Record = part area area.span.lo (min area.span.hi span.lo) in
    Each-append (Before low) (piece_within change span area) (piece_above span area)
    (Each-within (Before low) change area (max area.span.lo span.lo) (min area.span.hi span.hi)
    (λ within. omega arith))
    (above low (omega arith))))
  where
    above : (u : Record) → u.span.hi ≤ span.hi → Each (Before u) (piece_above span area)
    above u low = Each-piece (Before u) area (max area.span.lo span.hi) area.span.hi (λ some. omega arith)

-- a good area whose pages in the span may become so
record IsChangeable (end : ℕ) (change : AttrChange) (span : Span) (area : Record) : Type 0 where
  good : IsGood end area
  may : (page : ℕ) → has_page area.span page ≡ true → has_page span page ≡ true
      → may_become change area.attr ≡ true

changed_part_good : (end : ℕ) (change : AttrChange) (area : Record) (lo hi : ℕ) → IsGood end (part area lo hi)
    → may_become change area.attr ≡ true → IsGood end (changed_part change area lo hi)
unfolding index_of
changed_part_good end (Protection prot) area lo hi good may = record {
  valid = record {
    some_pages = good.valid.some_pages;
    below_end = good.valid.below_end;
    allowed = may;
    anonymous = good.valid.anonymous;
    backed = good.valid.backed;
  };
  below_end = good.below_end;
}
changed_part_good end Seal area lo hi good may = record {
  valid = record {
    some_pages = good.valid.some_pages;
    below_end = good.valid.below_end;
    allowed = good.valid.allowed;
    anonymous = good.valid.anonymous;
    backed = good.valid.backed;
  };
  below_end = good.below_end;
}

parts_good : (end : ℕ) (change : AttrChange) (span : Span) (area : Record) → IsChangeable end change span area
    → Each (IsGood end) (parts_changed change span area)
parts_good end change span area p = Each-changed (IsGood end) change span area
    (λ lo hi low some high. good_part end area lo hi p.good low some high)
    (λ lo hi low some high from to. changed_part_good end change area lo hi
    (good_part end area lo hi p.good low some high)
    (p.may lo (inside area.span lo low (omega arith)) (inside span lo from (omega arith))))

each_changeable : (end : ℕ) (change : AttrChange) (span : Span) (areas : List Record) → IsCanonical end areas
    → AllMayBecome change span areas → Each (IsChangeable end change span) areas
each_changeable end change span areas c may =
    Each-also (IsGood end) (Finds areas) (IsChangeable end change span) (λ area good finds. record {
      good = good;
      may = λ page here within. subst (λ o. IfSome o (λ a. may_become change a.attr ≡ true)) (finds page here)
          (may page within);
    }) areas (good_from_canonical end areas c) (each_found areas (pairs_from_canonical end areas c))

abbrev cut_up : AttrChange → Span → List Record → List Record
cut_up change span areas = flat_map (parts_changed change span) areas

cut_up_good : (end : ℕ) (change : AttrChange) (span : Span) (areas : List Record) → Each (IsChangeable end change span) areas
    → Each (IsGood end) (cut_up change span areas)
cut_up_good end change span areas each = Each-flat_map (IsChangeable end change span) (IsGood end)
    (parts_changed change span) (parts_good end change span) areas each

cut_up_pairs : (end : ℕ) (change : AttrChange) (span : Span) (areas : List Record) → span.lo ≤ span.hi
    → Each (IsChangeable end change span) areas → Pairs Apart areas → Pairs Before (cut_up change span areas)
cut_up_pairs end change span areas some each pairs = Pairs-flat_map (IsChangeable end change span) Apart Before
    (parts_changed change span)
    (λ area p. parts_in_order change span area some)
    (λ a b p q apart. Each-changed (λ u. Each (Before u) (parts_changed change span b)) change span a
    (λ lo hi low first high. behind b (part a lo hi) (omega (arith, apart.order)))
    (λ lo hi low first high from to. behind b (changed_part change a lo hi) (omega (arith, apart.order))))
    areas each pairs
  where
    behind : (b u : Record) → u.span.hi ≤ b.span.lo → Each (Before u) (parts_changed change span b)
    behind b u order = Each-changed (Before u) change span b (λ lo hi low first high. omega arith)
        (λ lo hi low first high from to. omega arith)

pub changed_canonical : (end : ℕ) (change : AttrChange) (span : Span) (areas : List Record) → span.lo ≤ span.hi
    → IsCanonical end areas → AllMayBecome change span areas → IsCanonical end (changed_list change span areas)
changed_canonical end change span areas some c may =
    let each : Each (IsChangeable end change span) areas = each_changeable end change span areas c may in
    merge_canonical end (cut_up change span areas) (cut_up_good end change span areas each)
    (Neighbours-from_Pairs Before (cut_up change span areas)
    (cut_up_pairs end change span areas some each (pairs_from_canonical end areas c)))

with_attr-cell : (change : AttrChange) (area : Record) (page : ℕ)
    → mapped_page page (with_attr change area) ≡ changed_page change (mapped_page page area)
unfolding mapped_page index_of
with_attr-cell change area page = refl

-- a part with the new attributes maps what the area maps, with the new attributes
changed_cell : (change : AttrChange) (area : Record) (lo hi page : ℕ) → area.span.lo ≤ lo → lo ≤ page
    → mapped_page page (changed_part change area lo hi) ≡ changed_page change (mapped_page page area)
changed_cell change area lo hi page low here =
    with_attr-cell change (part area lo hi) page ∙ ap (changed_page change) (mapped_page-part area lo hi page low here)

page_map-within : (change : AttrChange) (area : Record) (lo hi page : ℕ) → area.span.lo ≤ lo
    → page_map (map (with_attr change) (piece area lo hi)) page
    ≡ (if lies lo hi page then Some (changed_page change (mapped_page page area)) else None)
unfolding piece
page_map-within change area lo hi page low =
    cond_both (nat_lt lo hi) (part area lo hi ∷ []) [] (λ list. page_map (map (with_attr change) list) page
    ≡ (if lies lo hi page then Some (changed_page change (mapped_page page area)) else None))
    (λ some. page_map-single (changed_part change area lo hi) page
    ∙ same_cells lo hi page (mapped_page page (changed_part change area lo hi))
    (changed_page change (mapped_page page area))
    (λ here. changed_cell change area lo hi page low here))
    (λ none. page_map-nil page ∙ no_page lo hi page (changed_page change (mapped_page page area)) none)
  where
    same_cells : (lo hi page : ℕ) (c d : MappedPage) → (lo ≤ page → c ≡ d)
        → (if lies lo hi page then Some c else None) ≡ (if lies lo hi page then Some d else None)
    same_cells lo hi page c d same = grind (arith, nat_tests)

    no_page : (lo hi page : ℕ) (d : MappedPage) → nat_lt lo hi ≡ false
        → None ≡ (if lies lo hi page then Some d else None)
    no_page lo hi page d none = grind (arith, nat_tests)

changed_tests : (lo hi from to page : ℕ) (c d : MappedPage) → from ≤ to
    → option_or (if lies lo (min hi from) page then Some c else None)
    (option_or (if lies (max lo from) (min hi to) page then Some d else None)
    (if lies (max lo to) hi page then Some c else None))
    ≡ (if lies from to page then (if lies lo hi page then Some d else None)
    else (if lies lo hi page then Some c else None))
changed_tests lo hi from to page c d some = grind (arith, nat_tests)

-- the new map of pages, by the old one
abbrev changed_map : AttrChange → Span → ℕ → Option MappedPage → Option MappedPage
changed_map change span page old = if has_page span page then option_map (changed_page change) old else old

page_map-parts : (change : AttrChange) (span : Span) (area : Record) (page : ℕ) → span.lo ≤ span.hi
    → page_map (parts_changed change span area) page ≡ changed_map change span page (page_map (area ∷ []) page)
unfolding parts_changed
page_map-parts change span area page some =
    let cell : MappedPage = mapped_page page area in
    let changed : MappedPage = changed_page change cell in
    let below : Option MappedPage = if lies area.span.lo (min area.span.hi span.lo) page then Some cell else None in
    let within : Option MappedPage = if lies (max area.span.lo span.lo) (min area.span.hi span.hi) page
    then Some changed else None in
    page_map-append (piece_below span area) (piece_within change span area ++ piece_above span area) page
    ∙ ap (λ o. option_or o (page_map (piece_within change span area ++ piece_above span area) page))
    (page_map-piece area area.span.lo (min area.span.hi span.lo) page (omega arith))
    ∙ ap (option_or below)
    (page_map-append (piece_within change span area) (piece_above span area) page
    ∙ ap (λ o. option_or o (page_map (piece_above span area) page))
    (page_map-within change area (max area.span.lo span.lo) (min area.span.hi span.hi) page (omega arith))
    ∙ ap (option_or within) (page_map-piece area (max area.span.lo span.hi) area.span.hi page (omega arith)))
    ∙ changed_tests area.span.lo area.span.hi span.lo span.hi page cell changed some
    ∙ ap (λ o. if has_page span page then o else (if has_page area.span page then Some cell else None))
    (sym (option_map-cond (changed_page change) (has_page area.span page) (Some cell) None))
    ∙ ap (changed_map change span page) (sym (page_map-single area page))

changed_or : (change : AttrChange) (b : Bool) (x y : Option MappedPage)
    → option_or (if b then option_map (changed_page change) x else x)
    (if b then option_map (changed_page change) y else y)
    ≡ (if b then option_map (changed_page change) (option_or x y) else option_or x y)
changed_or change true None y = refl
changed_or change true (Some x) y = refl
changed_or change false x y = refl

changed_none : (change : AttrChange) (b : Bool)
    → None ≡ (if b then option_map (changed_page change) None else None)
changed_none change true = refl
changed_none change false = refl

page_map-cut_up : (change : AttrChange) (span : Span) (areas : List Record) (page : ℕ) → span.lo ≤ span.hi
    → page_map (cut_up change span areas) page ≡ changed_map change span page (page_map areas page)
page_map-cut_up change span [] page some = page_map-nil page ∙ changed_none change (has_page span page)
    ∙ ap (changed_map change span page) (sym (page_map-nil page))
page_map-cut_up change span (area ∷ areas) page some =
    page_map-append (parts_changed change span area) (cut_up change span areas) page
    ∙ ap (λ o. option_or o (page_map (cut_up change span areas) page)) (page_map-parts change span area page some)
    ∙ ap (λ o. option_or (changed_map change span page (page_map (area ∷ []) page)) o)
    (page_map-cut_up change span areas page some)
    ∙ changed_or change (has_page span page) (page_map (area ∷ []) page) (page_map areas page)
    ∙ ap (changed_map change span page) (sym (page_map-append (area ∷ []) areas page))

pub page_map-changed : (end : ℕ) (change : AttrChange) (span : Span) (areas : List Record) (page : ℕ) → span.lo ≤ span.hi
    → IsCanonical end areas → AllMayBecome change span areas
    → page_map (changed_list change span areas) page
    ≡ (if has_page span page then option_map (changed_page change) (page_map areas page) else page_map areas page)
page_map-changed end change span areas page some c may =
    page_map-merge (cut_up change span areas) page
    (Each-weaker (IsGood end) IsValid (λ area g. g.valid) (cut_up change span areas)
    (cut_up_good end change span areas (each_changeable end change span areas c may)))
    ∙ page_map-cut_up change span areas page some

-- what holds of an area and so of its parts, with each new attributes, and of two as one where they join, holds of each
-- area after a change
pub changed_each : (P : Record → Type 0) → ((area : Record) (lo hi : ℕ) → P area → P (part area lo hi))
    → ((change : AttrChange) (area : Record) → P area → P (with_attr change area))
    → ((a b : Record) → P a → P b → joins a b ≡ true → P (joined_area a b))
    → (change : AttrChange) (span : Span) (areas : List Record) → Each P areas → Each P (changed_list change span areas)
changed_each P cuts changes joins change span areas each = merge_each P joins (cut_up change span areas)
    (Each-flat_map P P (parts_changed change span) (λ area p. Each-changed P change span area
    (λ lo hi low some high. cuts area lo hi p)
    (λ lo hi low some high from to. changes change (part area lo hi) (cuts area lo hi p))) areas each)
