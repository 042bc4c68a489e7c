-- For `retraced_traces_make_the_text`: an area put behind all others stands at their end.
use Rattle.std.proofs.Common.{◌≡◌, ◌≤◌, ◌<◌, ◌+◌, ◌-◌, ℕ, nat_lt, nat_eq, min, max, List, [], ◌∷◌, ◌++◌, refl, ap, ◌∙◌, sym, arith}
use Rattle.std.specs.List.{AllByRecursion as Each}
use Rattle.std.proofs.lemmas.Bool.{cond_both, cond-true, cond-false, lt-ltb, le-ltb, eqb-true}
use Rattle.mm_types.specs.declared.area.Span.{Span}
use Rattle.mm_types.specs.declared.area.Record.{Record}
use Rattle.mm_types.specs.Records.{IsValid}
use Rattle.area_list.specs.Areas.{index_of, joins, IsCanonical}
use Rattle.area_list.specs.Changes.{piece, parts_outside, cut, joined_area, insert_area, merge_from, merge, put}
use Rattle.area_list.proofs.Elements.{Pairs, Each-left, Each-right, Each-weaker}
use Rattle.area_list.proofs.Parts.{Apart}
use Rattle.area_list.proofs.Order.{IsGood, good_from_canonical, pairs_from_canonical}

-- a valid area that ends at or below a page
record IsUnder (page : ℕ) (area : Record) : Type 0 where
  valid : IsValid area
  under : area.span.hi ≤ page

first_index : (area : Record) → IsValid area → index_of area area.span.lo ≡ area.offset
unfolding index_of
first_index area valid = cond_both (nat_eq area.object 0) 0 (area.offset + (area.span.lo - area.span.lo)) (λ (n : ℕ). n ≡ area.offset)
    (λ none. sym (valid.anonymous (eqb-true area.object 0 none)).0)
    (λ _. let e : area.offset + (area.span.lo - area.span.lo) ≡ area.offset = omega arith in e)

whole_piece : (area : Record) → IsValid area → piece area area.span.lo area.span.hi ≡ area ∷ []
unfolding piece
whole_piece area valid =
    cond-true (nat_lt area.span.lo area.span.hi) (record area { span = area.span; offset = index_of area area.span.lo } ∷ []) []
    (lt-ltb area.span.lo area.span.hi valid.some_pages)
    ∙ ap (λ (offset : ℕ). record area { offset = offset } ∷ []) (first_index area valid)

no_piece : (area : Record) (lo hi : ℕ) → hi ≤ lo → piece area lo hi ≡ []
unfolding piece
no_piece area lo hi none = cond-false (nat_lt lo hi) (record area { span = record { lo = lo; hi = hi }; offset = index_of area lo } ∷ []) []
    (le-ltb lo hi none)

-- an area under the span is left whole
parts_under : (span : Span) (area : Record) → span.lo < span.hi → IsUnder span.lo area → parts_outside span area ≡ area ∷ []
unfolding parts_outside
parts_under span area some is =
    let pages = is.valid.some_pages in
    let under = is.under in
    let low : min area.span.hi span.lo ≡ area.span.hi = omega arith in
    let high : area.span.hi ≤ max area.span.lo span.hi = omega arith in
    ap (λ (hi : ℕ). piece area area.span.lo hi ++ piece area (max area.span.lo span.hi) area.span.hi) low
    ∙ ap (λ (rest : List Record). piece area area.span.lo area.span.hi ++ rest) (no_piece area (max area.span.lo span.hi) area.span.hi high)
    ∙ ap (λ (first : List Record). first ++ []) (whole_piece area is.valid)

cut_under : (span : Span) (areas : List Record) → span.lo < span.hi → Each (IsUnder span.lo) areas → cut span areas ≡ areas
cut_under span [] some are = refl
cut_under span (area ∷ areas) some are =
    ap (λ (parts : List Record). parts ++ cut span areas) (parts_under span area some are.0)
    ∙ ap (λ (rest : List Record). area ∷ rest) (cut_under span areas some are.1)

insert_last : (area : Record) (areas : List Record) → Each (IsUnder area.span.lo) areas → insert_area area areas ≡ areas ++ area ∷ []
insert_last area [] are = refl
insert_last area (first ∷ areas) are =
    let pages = are.0.valid.some_pages in
    let under = are.0.under in
    cond-true (nat_lt first.span.lo area.span.lo) (first ∷ insert_area area areas) (area ∷ first ∷ areas)
    (lt-ltb first.span.lo area.span.lo (omega arith))
    ∙ ap (λ (rest : List Record). first ∷ rest) (insert_last area areas are.1)

-- areas of which no two join stay as they are in a merge
merge_from_apart : (first : Record) (areas : List Record) → Pairs Apart (first ∷ areas) → merge_from first areas ≡ first ∷ areas
merge_from_apart first [] pairs = refl
merge_from_apart first (next ∷ areas) pairs =
    cond-false (joins first next) (merge_from (joined_area first next) areas) (first ∷ merge_from next areas) pairs.0.0.apart
    ∙ ap (λ (rest : List Record). first ∷ rest) (merge_from_apart next areas pairs.1)

merge_apart : (areas : List Record) → Pairs Apart areas → merge areas ≡ areas
merge_apart [] pairs = refl
merge_apart (first ∷ areas) pairs = merge_from_apart first areas pairs

-- each area of a list lies apart from the one at its end
before_last : (areas : List Record) (area : Record) → Pairs Apart (areas ++ area ∷ []) → Each (λ first. Apart first area) areas
before_last [] area pairs = tt
before_last (first ∷ areas) area pairs =
    ((Each-right (Apart first) areas (area ∷ []) pairs.0).0, before_last areas area pairs.1)

both_under : (page : ℕ) (areas : List Record) (area : Record) → area.span.lo ≡ page → Each IsValid areas → Each (λ first. Apart first area) areas
    → Each (IsUnder page) areas
both_under page [] area is valid apart = tt
both_under page (first ∷ areas) area is valid apart =
    let order = apart.0.order in
    (record { valid = valid.0; under = omega arith }, both_under page areas area is valid.1 apart.1)

-- the last area of a canonical list, put behind the others, stands at their end
pub put_last : (end : ℕ) (areas : List Record) (area : Record) → IsCanonical end (areas ++ area ∷ []) → put area areas ≡ areas ++ area ∷ []
put_last end areas area canonical =
    let pairs = pairs_from_canonical end (areas ++ area ∷ []) canonical in
    let good = good_from_canonical end (areas ++ area ∷ []) canonical in
    let last : IsGood end area = (Each-right (IsGood end) areas (area ∷ []) good).0 in
    let valid : Each IsValid areas = Each-weaker (IsGood end) IsValid (λ a g. g.valid) areas (Each-left (IsGood end) areas (area ∷ []) good) in
    let under : Each (IsUnder area.span.lo) areas = both_under area.span.lo areas area refl valid (before_last areas area pairs) in
    ap (λ (rest : List Record). merge (insert_area area rest)) (cut_under area.span areas last.valid.some_pages under)
    ∙ ap merge (insert_last area areas under)
    ∙ merge_apart (areas ++ area ∷ []) pairs
