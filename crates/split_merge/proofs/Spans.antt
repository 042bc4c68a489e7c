-- For `plan_cut`, `plan_move`, `plan_protect` and others: lists without the pages of one span or of two.
use Rattle.std.proofs.Common.{◌≡◌, ◌≤◌, ◌<◌, ◌+◌, ◌-◌, ◌⊎◌, inl, inr, ℕ, Bool, true, false, ◌&&◌, if◌then◌else◌, min, max, nat_eq, nat_lt, List, [], ◌∷◌, ◌++◌, Option, Some, None, refl, ap, ◌∙◌, sym, subst, arith}
use Rattle.std.specs.List.{flat_map, AllByRecursion as Each}
use Rattle.std.proofs.lemmas.Bool.{cases_lt, cond_both, ltb-true, ltb-false}
use Rattle.std.proofs.lemmas.Bool.Decides.{nat_tests}
use Rattle.std.proofs.lemmas.List.{append-nil}
use Rattle.std.proofs.lemmas.List.Concat.{flat_map-append}
use Rattle.mm_types.specs.declared.area.Span.{Span}
use Rattle.mm_types.specs.declared.area.Record.{Record}
use Rattle.mm_types.specs.Records.{IsValid}
use Rattle.area_list.specs.Areas.{MappedPage, IsCanonical, index_of, has_page, mapped_page, page_map}
use Rattle.area_list.specs.Changes.{piece, parts_outside, cut, put, merge}
use Rattle.area_list.specs.Areas.{overlap}
use Rattle.area_list.proofs.Elements.{Pairs-weaker}
use Rattle.area_list.proofs.Parts.{Apart, part, part_valid, piece_below, piece_above}
use Rattle.area_list.proofs.Order.{IsGood, good_from_canonical, pairs_from_canonical}
use Rattle.area_list.proofs.Pages.{lies}
use Rattle.area_list.proofs.Cutting.{cut_canonical, page_map-cut}
use Rattle.area_list.proofs.Putting.{put_canonical, page_map-put}
use Rattle.area_list.proofs.Uniqueness.{canonical_unique}
use Rattle.split_merge.specs.declared.becoming.Becoming.TheVariants.{Outside}
use Rattle.split_merge.specs.Internal.Becoming.{parts_outside_both, AreSpansInOrder}
use Rattle.split_merge.proofs.Pieces.{piece_some, piece_none}
use Rattle.split_merge.proofs.Parting.{Unjoined, parts_away}
use Rattle.split_merge.proofs.Results.{merge_nothing}

pub one_in_order : (span : Span) → span.lo ≤ span.hi → AreSpansInOrder span span
one_in_order span some = record { lower = some; upper = some; one_or_below = inl refl }

-- outside one span, twice
pub one_span : (span : Span) (area : Record) → span.lo ≤ span.hi → parts_outside_both span span area ≡ parts_outside span area
unfolding parts_outside_both parts_outside
one_span span area some = ap (λ parts. piece_below span area ++ (parts ++ piece_above span area))
    (piece_none area (max area.span.lo span.hi) (min area.span.hi span.lo) (omega arith))

pub cut_one_span : (span : Span) (areas : List Record) → span.lo ≤ span.hi → flat_map (parts_outside_both span span) areas ≡ cut span areas
cut_one_span span [] some = refl
cut_one_span span (area ∷ areas) some = ap (λ rest. parts_outside_both span span area ++ rest) (cut_one_span span areas some)
    ∙ ap (λ parts. parts ++ cut span areas) (one_span span area some)

-- an area away from the span stays as it is
outside_whole : (span : Span) (area : Record) → span.lo < span.hi → IsValid area → (area.span.hi ≤ span.lo) ⊎ (span.hi ≤ area.span.lo) → parts_outside span area ≡ area ∷ []
outside_whole span area some valid away = sym (one_span span area (omega arith))
    ∙ parts_away (Outside span span) area (record { lower = omega arith; upper = omega arith; one_or_below = inl refl }) valid away away

-- what a cut leaves has nothing to join
pub cut_merged : (end : ℕ) (span : Span) (areas : List Record) → IsCanonical end areas → span.lo < span.hi → merge (cut span areas) ≡ cut span areas
cut_merged end span areas c some = merge_nothing (cut span areas)
    (Pairs-weaker Apart Unjoined (λ a b p. p.apart) (cut span areas) (pairs_from_canonical end (cut span areas) (cut_canonical end span areas some c)))

part_index : (object offset from lo page : ℕ) → from ≤ lo → lo ≤ page
    → (if nat_eq object 0 then 0 else (if nat_eq object 0 then 0 else offset + (lo - from)) + (page - lo))
    ≡ (if nat_eq object 0 then 0 else offset + (page - from))
part_index object offset from lo page low here = grind (arith, nat_tests)

-- a piece of a part is a piece of the area
piece-part : (area : Record) (lo hi from to : ℕ) → area.span.lo ≤ lo → lo ≤ from → piece (part area lo hi) from to ≡ piece area from to
unfolding piece index_of
piece-part area lo hi from to low later = ap (λ index. if nat_lt from to
    then record area { span = record { lo = from; hi = to }; offset = index } ∷ [] else [])
    (part_index area.object area.offset area.span.lo lo from low later)

module _ (low high : Span) (some_low : low.lo < low.hi) (between : low.hi ≤ high.lo) (some_high : high.lo < high.hi) where
  -- what lies below the lower span lies outside the upper
  cut_lower : (area : Record) → IsValid area → cut high (piece_below low area) ≡ piece_below low area
  cut_lower area valid = by (cases_lt area.span.lo (min area.span.hi low.lo))
    where
      lower : Record
      lower = part area area.span.lo (min area.span.hi low.lo)

      by : (area.span.lo < min area.span.hi low.lo) ⊎ (min area.span.hi low.lo ≤ area.span.lo)
          → cut high (piece_below low area) ≡ piece_below low area
      by (inl some) =
          ap (cut high) (piece_some area area.span.lo (min area.span.hi low.lo) some)
          ∙ append-nil (parts_outside high lower)
          ∙ outside_whole high lower some_high
          (part_valid area area.span.lo (min area.span.hi low.lo) valid (omega arith) some (omega arith))
          (inl (omega arith))
          ∙ sym (piece_some area area.span.lo (min area.span.hi low.lo) some)
      by (inr none) =
          ap (cut high) (piece_none area area.span.lo (min area.span.hi low.lo) none)
          ∙ sym (piece_none area area.span.lo (min area.span.hi low.lo) none)

  -- what lies above the lower span lies between the two, or above the upper
  cut_upper : (area : Record) → IsValid area → cut high (piece_above low area)
      ≡ piece area (max area.span.lo low.hi) (min area.span.hi high.lo) ++ piece area (max area.span.lo high.hi) area.span.hi
  unfolding parts_outside
  cut_upper area valid = by (cases_lt (max area.span.lo low.hi) area.span.hi)
    where
      upper : Record
      upper = part area (max area.span.lo low.hi) area.span.hi

      last : max (max area.span.lo low.hi) high.hi ≡ max area.span.lo high.hi
      last = omega arith

      by : (max area.span.lo low.hi < area.span.hi) ⊎ (area.span.hi ≤ max area.span.lo low.hi)
          → cut high (piece_above low area)
          ≡ piece area (max area.span.lo low.hi) (min area.span.hi high.lo) ++ piece area (max area.span.lo high.hi) area.span.hi
      by (inl some) =
          ap (cut high) (piece_some area (max area.span.lo low.hi) area.span.hi some)
          ∙ append-nil (parts_outside high upper)
          ∙ ap (λ first. first ++ piece_above high upper) (piece-part area (max area.span.lo low.hi) area.span.hi
          (max area.span.lo low.hi) (min area.span.hi high.lo) (omega arith) (omega arith))
          ∙ ap (λ second. piece area (max area.span.lo low.hi) (min area.span.hi high.lo) ++ second)
          (piece-part area (max area.span.lo low.hi) area.span.hi (max (max area.span.lo low.hi) high.hi) area.span.hi (omega arith) (omega arith)
          ∙ ap (λ page. piece area page area.span.hi) last)
      by (inr none) =
          ap (cut high) (piece_none area (max area.span.lo low.hi) area.span.hi none)
          ∙ sym (ap (λ first. first ++ piece area (max area.span.lo high.hi) area.span.hi)
          (piece_none area (max area.span.lo low.hi) (min area.span.hi high.lo) (omega arith))
          ∙ piece_none area (max area.span.lo high.hi) area.span.hi (omega arith))

  -- what a cut leaves of what another leaves of an area
  cut_parts : (area : Record) → IsValid area → cut high (parts_outside low area) ≡ parts_outside_both low high area
  unfolding parts_outside parts_outside_both
  cut_parts area valid =
      flat_map-append (parts_outside high) (piece_below low area) (piece_above low area)
      ∙ ap (λ first. first ++ cut high (piece_above low area)) (cut_lower area valid)
      ∙ ap (λ second. piece_below low area ++ second) (cut_upper area valid)

  pub cut_both : (areas : List Record) → Each IsValid areas → flat_map (parts_outside_both low high) areas ≡ cut high (cut low areas)
  cut_both [] valid = refl
  cut_both (area ∷ areas) valid =
      ap (λ rest. parts_outside_both low high area ++ rest) (cut_both areas valid.1)
      ∙ ap (λ first. first ++ cut high (cut low areas)) (sym (cut_parts area valid.0))
      ∙ sym (flat_map-append (parts_outside high) (parts_outside low area) (cut low areas))

swap_tests : (a b : Bool) (found : Option MappedPage)
    → (if a then None else (if b then None else found)) ≡ (if b then None else (if a then None else found))
swap_tests true true found = refl
swap_tests true false found = refl
swap_tests false b found = refl

-- it does not matter which of two spans is cut out first
pub cut_swap : (end : ℕ) (a b : Span) (areas : List Record) → IsCanonical end areas → a.lo < a.hi → b.lo < b.hi
    → cut a (cut b areas) ≡ cut b (cut a areas)
cut_swap end a b areas c some_a some_b = canonical_unique end (cut a (cut b areas)) (cut b (cut a areas))
    (cut_canonical end a (cut b areas) some_a (cut_canonical end b areas some_b c))
    (cut_canonical end b (cut a areas) some_b (cut_canonical end a areas some_a c))
    (λ page. page_map-cut a (cut b areas) page some_a
    ∙ ap (λ found. if has_page a page then None else found) (page_map-cut b areas page some_b)
    ∙ swap_tests (has_page a page) (has_page b page) (page_map areas page)
    ∙ ap (λ found. if has_page b page then None else found) (sym (page_map-cut a areas page some_a))
    ∙ sym (page_map-cut b (cut a areas) page some_b))

move_tests : (lo hi from to page : ℕ) (new : MappedPage) (found : Option MappedPage)
    → (nat_lt lo to && nat_lt from hi) ≡ false
    → (if lies lo hi page then None else (if lies from to page then Some new else found))
    ≡ (if lies from to page then Some new else (if lies lo hi page then None else found))
move_tests lo hi from to page new found beside = grind (arith, nat_tests)

-- where a hole shares no page with a new area, it does not matter which comes first
pub cut_put : (end : ℕ) (hole : Span) (area : Record) (areas : List Record) → IsCanonical end areas → IsGood end area → hole.lo < hole.hi
    → overlap hole area.span ≡ false → cut hole (put area areas) ≡ put area (cut hole areas)
cut_put end hole area areas c good some beside =
    let cut_c : IsCanonical end (cut hole areas) = cut_canonical end hole areas some c in
    canonical_unique end (cut hole (put area areas)) (put area (cut hole areas))
    (cut_canonical end hole (put area areas) some (put_canonical end area areas good c))
    (put_canonical end area (cut hole areas) good cut_c)
    (λ page. page_map-cut hole (put area areas) page some
    ∙ ap (λ found. if has_page hole page then None else found) (page_map-put end area areas page good (good_from_canonical end areas c))
    ∙ move_tests hole.lo hole.hi area.span.lo area.span.hi page (mapped_page page area) (page_map areas page) beside
    ∙ ap (λ found. if has_page area.span page then Some (mapped_page page area) else found) (sym (page_map-cut hole areas page some))
    ∙ sym (page_map-put end area (cut hole areas) page good (good_from_canonical end (cut hole areas) cut_c)))

-- two spans that share no page, the lower first
apart_below : (lo hi from to : ℕ) → lo < hi → from < to → (nat_lt lo to && nat_lt from hi) ≡ false → lo < from → hi ≤ from
apart_below lo hi from to some other apart below = grind (arith, nat_tests)

apart_above : (lo hi from to : ℕ) → lo < hi → from < to → (nat_lt lo to && nat_lt from hi) ≡ false → from ≤ lo → to ≤ lo
apart_above lo hi from to some other apart above = grind (arith, nat_tests)

pub record AreApart (hole place low high : Span) : Type 0 where
  pub either : ((low ≡ hole) × (high ≡ place)) ⊎ ((low ≡ place) × (high ≡ hole))
  pub some_low : low.lo < low.hi
  pub between : low.hi ≤ high.lo
  pub some_high : high.lo < high.hi

pub apart_spans : (hole place : Span) (both : Span × Span) → hole.lo < hole.hi → place.lo < place.hi → overlap hole place ≡ false
    → both ≡ (if nat_lt hole.lo place.lo then (hole, place) else (place, hole)) → AreApart hole place both.0 both.1
apart_spans a b both some_a some_b apart is = subst (λ (pair : Span × Span). AreApart a b pair.0 pair.1) (sym is)
    (cond_both (nat_lt a.lo b.lo) (a, b) (b, a) (λ (pair : Span × Span). AreApart a b pair.0 pair.1)
    (λ below. record {
      either = inl (refl, refl);
      some_low = some_a;
      between = apart_below a.lo a.hi b.lo b.hi some_a some_b apart (ltb-true a.lo b.lo below);
      some_high = some_b;
    })
    (λ above. record {
      either = inr (refl, refl);
      some_low = some_b;
      between = apart_above a.lo a.hi b.lo b.hi some_a some_b apart (ltb-false a.lo b.lo above);
      some_high = some_a;
    }))

pub apart_in_order : (hole place low high : Span) → AreApart hole place low high → AreSpansInOrder low high
apart_in_order hole place low high o = record {
  lower = omega (arith, o.some_low);
  upper = omega (arith, o.some_high);
  one_or_below = inr o.between;
}

-- outside both is outside the one and then the other, whichever is the lower
pub cut_apart : (end : ℕ) (hole place low high : Span) (areas : List Record) → IsCanonical end areas → Each IsValid areas → AreApart hole place low high
    → flat_map (parts_outside_both low high) areas ≡ cut place (cut hole areas)
cut_apart end hole place low high areas c valid o = by o.either
  where
    both : flat_map (parts_outside_both low high) areas ≡ cut high (cut low areas)
    both = cut_both low high o.some_low o.between o.some_high areas valid

    by : ((low ≡ hole) × (high ≡ place)) ⊎ ((low ≡ place) × (high ≡ hole)) → flat_map (parts_outside_both low high) areas ≡ cut place (cut hole areas)
    by (inl same) = both ∙ ap (λ span. cut span (cut low areas)) same.1 ∙ ap (λ span. cut place (cut span areas)) same.0
    by (inr same) = both ∙ cut_swap end high low areas c o.some_high o.some_low
        ∙ ap (λ span. cut span (cut high areas)) same.0 ∙ ap (λ span. cut place (cut span areas)) same.1
