-- Splits and removals in a list in order.
use Rattle.std.proofs.Common.{arith, sym, subst, ap, ◌∙◌}
use Rattle.std.proofs.lemmas.Bool.Decides.{nat_tests}
use Rattle.std.specs.Prelude.{ℕ, ◌≡◌, ◌<◌, ◌≤◌, ◌+◌, ◌-◌, Bool, true, false, ◌&&◌, if◌then◌else◌, nat_eq, nat_le, nat_lt, List, [], ◌∷◌, map, Option, Some, refl}
use Rattle.area_list.specs.Areas.{MappedPage, index_of, mapped_page, page_map}
use Rattle.area_list.proofs.Pages.{page_map-cons}
use Rattle.linux_rules.specs.declared.area.Vma.{Vma}
use Rattle.linux_rules.specs.Areas.{vma_lookup, with_vma, replaced, lower_part, upper_part}
use Rattle.linux_beside.specs.Forgetting.{forgotten}
use Rattle.linux_beside.specs.InOrder.{AreInOrderFrom}
use Rattle.linux_beside.proofs.OrderLemmas.{gone, comes_first}

-- what an area's pages are mapped to
abbrev pub maps_to : List Vma → ℕ → Option MappedPage
maps_to areas page = page_map (map forgotten areas) page

-- whether an area has a page
abbrev pub has : Vma → ℕ → Bool
has vma page = nat_le vma.lo page && nat_lt page vma.hi

-- the list with an area split at a page
abbrev pub split_list : Vma → ℕ → List Vma → List Vma
split_list vma page areas = with_vma (upper_part vma page) (replaced vma (lower_part vma page) areas)

-- no area lies across a page
abbrev pub NoneAcross : ℕ → List Vma → Type 0
NoneAcross page [] = Unit {0}
NoneAcross page (vma ∷ areas) = (vma.lo < page → vma.hi ≤ page) × NoneAcross page areas

-- a split of the first area
pub split_here : (first : Vma) (page : ℕ) (areas : List Vma) → AreInOrderFrom first.hi areas → first.lo < page → page < first.hi
    → split_list first page (first ∷ areas) ≡ lower_part first page ∷ upper_part first page ∷ areas
split_here first page areas order above below =
    let left = gone first.lo first.hi areas order (omega arith) in
    let lower : with_vma (lower_part first page) areas ≡ lower_part first page ∷ areas = comes_first (lower_part first page) first.hi areas order (omega arith) in
    let upper : with_vma (upper_part first page) areas ≡ upper_part first page ∷ areas = comes_first (upper_part first page) first.hi areas order (omega arith) in
    let same : nat_eq first.lo first.lo ≡ true = grind (arith, nat_tests) in
    let before : nat_lt first.lo page ≡ true = grind (arith, nat_tests) in rw (same, left, lower, before, upper)

-- a split of a later one
pub split_later : (first vma : Vma) (page : ℕ) (areas : List Vma) → first.lo < vma.lo → vma.lo < page
    → split_list vma page (first ∷ areas) ≡ first ∷ split_list vma page areas
split_later first vma page areas later above =
    let other : nat_eq first.lo vma.lo ≡ false = grind (arith, nat_tests) in
    let before : nat_lt first.lo vma.lo ≡ true = grind (arith, nat_tests) in
    let under : nat_lt first.lo page ≡ true = grind (arith, nat_tests) in rw (other, before, under)

-- an area that is looked up behind the first begins at its end or above
pub looked_from : (low page : ℕ) (areas : List Vma) (vma : Vma) → AreInOrderFrom low areas → vma_lookup areas page ≡ Some vma → low ≤ vma.lo
looked_from low page [] vma order found = absurd (cc)
looked_from low page (first ∷ areas) vma order found = at (has first page) (looked_from first.hi page areas vma order.2) found
  where
    at : (test : Bool) → (vma_lookup areas page ≡ Some vma → first.hi ≤ vma.lo) → (if test then Some first else vma_lookup areas page) ≡ Some vma → low ≤ vma.lo
    at true later is = let same : first ≡ vma = cc in subst (λ (v : Vma). low ≤ v.lo) same order.0
    at false later is = let from = later is in let begin = order.0 in let some = order.1 in omega arith

-- a split keeps a list in order
pub split_order : (low at page : ℕ) (areas : List Vma) (vma : Vma) → AreInOrderFrom low areas → vma_lookup areas at ≡ Some vma → vma.lo < page → page < vma.hi
    → AreInOrderFrom low (split_list vma page areas)
split_order low at page [] vma order found above below = absurd (cc)
split_order low at page (first ∷ areas) vma order found above below =
    case (has first at) (λ is. split_order first.hi at page areas vma order.2 is above below) (looked_from first.hi at areas vma order.2) found
  where
    case : (test : Bool) → (vma_lookup areas at ≡ Some vma → AreInOrderFrom first.hi (split_list vma page areas))
        → (vma_lookup areas at ≡ Some vma → first.hi ≤ vma.lo)
        → (if test then Some first else vma_lookup areas at) ≡ Some vma → AreInOrderFrom low (split_list vma page (first ∷ areas))
    case true later from is = let same : first ≡ vma = cc in
        let lower : first.lo < page = subst (λ (v : Vma). v.lo < page) (sym same) above in
        let upper : page < first.hi = subst (λ (v : Vma). page < v.hi) (sym same) below in
        subst (λ (v : Vma). AreInOrderFrom low (split_list v page (first ∷ areas))) same
        (subst (λ (list : List Vma). AreInOrderFrom low list) (sym (split_here first page areas order.2 lower upper))
        (order.0, lower, (omega arith, upper, order.2)))
    case false later from is = let begins = from is in let some = order.1 in
        subst (λ (list : List Vma). AreInOrderFrom low list) (sym (split_later first vma page areas (omega arith) above)) (order.0, some, later is)

-- the parts of an area map what it mapped
pub upper_maps : (vma : Vma) (page at : ℕ) → vma.lo ≤ page → page ≤ at → mapped_page at (forgotten (upper_part vma page)) ≡ mapped_page at (forgotten vma)
unfolding mapped_page index_of
upper_maps vma page at above from = ap mapped (case (nat_eq vma.file 0))
  where
    mapped : ℕ → MappedPage
    mapped index = record { attr = (forgotten vma).attr; object = vma.file; index = index }

    case : (plain : Bool) → (if plain then 0 else (if plain then 0 else vma.pgoff + (page - vma.lo)) + (at - page))
        ≡ (if plain then 0 else (if plain then 0 else vma.pgoff) + (at - vma.lo))
    case true = refl
    case false = omega arith

pub lower_maps : (vma : Vma) (page at : ℕ) → mapped_page at (forgotten (lower_part vma page)) ≡ mapped_page at (forgotten vma)
unfolding mapped_page index_of
lower_maps vma page at = refl

-- what a list maps a page to, by its first area
pub maps_first : (first : Vma) (areas : List Vma) (page : ℕ)
    → maps_to (first ∷ areas) page ≡ (if has first page then Some (mapped_page page (forgotten first)) else maps_to areas page)
maps_first first areas page = page_map-cons (forgotten first) (map forgotten areas) page

two_parts : (first : Vma) (page at : ℕ) (rest : Option MappedPage) → first.lo < page → page < first.hi
    → (if has (lower_part first page) at then Some (mapped_page at (forgotten (lower_part first page)))
    else (if has (upper_part first page) at then Some (mapped_page at (forgotten (upper_part first page))) else rest))
    ≡ (if has first at then Some (mapped_page at (forgotten first)) else rest)
two_parts first page at rest above below = case (nat_lt at page) refl
  where
    case : (low : Bool) → nat_lt at page ≡ low
        → (if nat_le first.lo at && nat_lt at page then Some (mapped_page at (forgotten (lower_part first page)))
        else (if nat_le page at && nat_lt at first.hi then Some (mapped_page at (forgotten (upper_part first page))) else rest))
        ≡ (if nat_le first.lo at && nat_lt at first.hi then Some (mapped_page at (forgotten first)) else rest)
    case true is = let under : nat_lt at first.hi ≡ true = grind (arith, nat_tests) in let other : nat_le page at ≡ false = grind (arith, nat_tests) in
        let same = lower_maps first page at in rw (is, under, other, same)
    case false is = let over : nat_le page at ≡ true = grind (arith, nat_tests) in let from : nat_le first.lo at ≡ true = grind (arith, nat_tests) in
        let same = upper_maps first page at (omega arith) (grind (arith, nat_tests)) in rw (is, over, from, same)

-- a split maps each page as before
pub split_maps : (low at page other : ℕ) (areas : List Vma) (vma : Vma) → AreInOrderFrom low areas → vma_lookup areas at ≡ Some vma → vma.lo < page → page < vma.hi
    → maps_to (split_list vma page areas) other ≡ maps_to areas other
split_maps low at page other [] vma order found above below = absurd (cc)
split_maps low at page other (first ∷ areas) vma order found above below =
    case (has first at) (λ is. split_maps first.hi at page other areas vma order.2 is above below) (looked_from first.hi at areas vma order.2) found
  where
    case : (test : Bool) → (vma_lookup areas at ≡ Some vma → maps_to (split_list vma page areas) other ≡ maps_to areas other)
        → (vma_lookup areas at ≡ Some vma → first.hi ≤ vma.lo)
        → (if test then Some first else vma_lookup areas at) ≡ Some vma → maps_to (split_list vma page (first ∷ areas)) other ≡ maps_to (first ∷ areas) other
    case true later from is = let same : first ≡ vma = cc in
        let lower : first.lo < page = subst (λ (v : Vma). v.lo < page) (sym same) above in
        let upper : page < first.hi = subst (λ (v : Vma). page < v.hi) (sym same) below in
        subst (λ (v : Vma). maps_to (split_list v page (first ∷ areas)) other ≡ maps_to (first ∷ areas) other) same
        (ap (λ (list : List Vma). maps_to list other) (split_here first page areas order.2 lower upper)
        ∙ (maps_first (lower_part first page) (upper_part first page ∷ areas) other
        ∙ (ap (λ (rest : Option MappedPage). if has (lower_part first page) other then Some (mapped_page other (forgotten (lower_part first page))) else rest)
        (maps_first (upper_part first page) areas other)
        ∙ (two_parts first page other (maps_to areas other) lower upper ∙ sym (maps_first first areas other)))))
    case false later from is = let begins = from is in let some = order.1 in
        ap (λ (list : List Vma). maps_to list other) (split_later first vma page areas (omega arith) above)
        ∙ (maps_first first (split_list vma page areas) other
        ∙ (ap (λ (rest : Option MappedPage). if has first other then Some (mapped_page other (forgotten first)) else rest) (later is)
        ∙ sym (maps_first first areas other)))
