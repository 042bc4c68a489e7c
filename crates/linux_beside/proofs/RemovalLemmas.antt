-- What munmap removes from a list in order.
use Rattle.std.proofs.Common.{arith, sym, subst, ap, ◌∙◌}
use Rattle.std.proofs.lemmas.Bool.Decides.{nat_tests}
use Rattle.std.specs.Prelude.{ℕ, ◌≡◌, ◌<◌, ◌≤◌, ◌+◌, Bool, true, false, not, ◌&&◌, if◌then◌else◌, nat_eq, nat_le, nat_lt, List, [], ◌∷◌, filter, fold, Option, Some, None, refl}
use Rattle.area_list.specs.Areas.{MappedPage, mapped_page}
use Rattle.area_list.proofs.Pages.{page_map-nil}
use Rattle.linux_rules.specs.declared.area.Vma.{Vma}
use Rattle.linux_rules.specs.Areas.{vma_lookup, vmas_in, without_vma}
use Rattle.linux_beside.specs.Forgetting.{forgotten}
use Rattle.linux_beside.specs.InOrder.{AreInOrderFrom}
use Rattle.linux_beside.proofs.OrderLemmas.{from_lower, gone}
use Rattle.linux_beside.proofs.SplitLemmas.{NoneAcross, has, maps_to, maps_first, split_list, split_here, split_later, looked_from}

-- the list without some areas
abbrev pub removed : List Vma → List Vma → List Vma
removed gone areas = fold (λ areas vma. without_vma vma.lo areas) areas gone

-- whether an area has a page of a range
abbrev pub lies_in : ℕ → ℕ → Vma → Bool
lies_in lo hi vma = nat_lt vma.lo hi && nat_lt lo vma.hi

-- a part of a list in order is in order
pub filter_order : (test : Vma → Bool) (low : ℕ) (areas : List Vma) → AreInOrderFrom low areas → AreInOrderFrom low (filter test areas)
filter_order test low [] order = tt
filter_order test low (first ∷ areas) order = case (test first) (filter_order test first.hi areas order.2)
  where
    case : (kept : Bool) → AreInOrderFrom first.hi (filter test areas) → AreInOrderFrom low (if kept then first ∷ filter test areas else filter test areas)
    case true rest = (order.0, order.1, rest)
    case false rest = let begin = order.0 in let some = order.1 in from_lower low first.hi (filter test areas) (omega arith) rest

-- what begins above the first area leaves it
removed_behind : (first : Vma) (low : ℕ) (gone areas : List Vma) → first.lo < low → AreInOrderFrom low gone → removed gone (first ∷ areas) ≡ first ∷ removed gone areas
removed_behind first low [] areas below order = refl
removed_behind first low (vma ∷ gone) areas below order = let begin = order.0 in let some = order.1 in
    let other : nat_eq first.lo vma.lo ≡ false = grind (arith, nat_tests) in
    let rest = removed_behind first vma.hi gone (without_vma vma.lo areas) (omega arith) order.2 in rw other rest

-- what a range has is removed, and nothing else
pub removed_is : (lo hi low : ℕ) (areas : List Vma) → AreInOrderFrom low areas
    → removed (vmas_in areas lo hi) areas ≡ filter (λ vma. not (lies_in lo hi vma)) areas
removed_is lo hi low [] order = refl
removed_is lo hi low (first ∷ areas) order = case (lies_in lo hi first) (removed_is lo hi first.hi areas order.2)
  where
    case : (inside : Bool) → removed (vmas_in areas lo hi) areas ≡ filter (λ vma. not (lies_in lo hi vma)) areas
        → removed (if inside then first ∷ vmas_in areas lo hi else vmas_in areas lo hi) (first ∷ areas)
        ≡ (if not inside then first ∷ filter (λ vma. not (lies_in lo hi vma)) areas else filter (λ vma. not (lies_in lo hi vma)) areas)
    case true rest = let same : nat_eq first.lo first.lo ≡ true = grind (arith, nat_tests) in
        let left = gone first.lo first.hi areas order.2 order.1 in
        let drops : without_vma first.lo (first ∷ areas) ≡ areas = rw same left in
        ap (λ (list : List Vma). removed (vmas_in areas lo hi) list) drops ∙ rest
    case false rest = removed_behind first first.hi (vmas_in areas lo hi) areas order.1 (filter_order (lies_in lo hi) first.hi areas order.2)
        ∙ ap (λ (list : List Vma). first ∷ list) rest

-- so its pages are mapped no more, and the others as before, if no area lies across its ends
pub filter_maps : (lo hi low page : ℕ) (areas : List Vma) → AreInOrderFrom low areas → NoneAcross lo areas → NoneAcross hi areas
    → maps_to (filter (λ vma. not (lies_in lo hi vma)) areas) page ≡ (if nat_le lo page && nat_lt page hi then None else maps_to areas page)
filter_maps lo hi low page [] order under over = case (nat_le lo page && nat_lt page hi)
  where
    case : (inside : Bool) → maps_to [] page ≡ (if inside then None else maps_to [] page)
    case true = page_map-nil page
    case false = refl
filter_maps lo hi low page (first ∷ areas) order under over =
    case (lies_in lo hi first) (nat_le lo page && nat_lt page hi) (has first page) refl refl refl (filter_maps lo hi first.hi page areas order.2 under.1 over.1)
  where
    kept : List Vma
    kept = filter (λ vma. not (lies_in lo hi vma)) areas

    case : (gone inside here : Bool) → lies_in lo hi first ≡ gone → (nat_le lo page && nat_lt page hi) ≡ inside → has first page ≡ here
        → maps_to kept page ≡ (if inside then None else maps_to areas page)
        → maps_to (if not gone then first ∷ kept else kept) page ≡ (if inside then None else maps_to (first ∷ areas) page)
    case true true here is range at rest = rest
    case true false false is range at rest = rest ∙ sym (maps_first first areas page ∙ (rw at))
    case true false true is range at rest = let a = under.0 in let b = over.0 in absurd (grind (arith, nat_tests, a, b))
    case false true true is range at rest = absurd (grind (arith, nat_tests))
    case false true false is range at rest = maps_first first kept page ∙ (rw at rest)
    case false false here is range at rest = maps_first first kept page
        ∙ (ap (λ (o : Option MappedPage). if has first page then Some (mapped_page page (forgotten first)) else o) rest ∙ sym (maps_first first areas page))

-- where no area has the page at an end of the range, none lies across it
pub none_across : (low at page : ℕ) (areas : List Vma) → AreInOrderFrom low areas → at ≤ page → page ≤ at + 1 → vma_lookup areas at ≡ None → NoneAcross page areas
none_across low at page [] order near far none = tt
none_across low at page (first ∷ areas) order near far none = case (has first at) refl (none_across first.hi at page areas order.2 near far) none
  where
    case : (test : Bool) → has first at ≡ test → (vma_lookup areas at ≡ None → NoneAcross page areas) → (if test then Some first else vma_lookup areas at) ≡ None
        → (first.lo < page → first.hi ≤ page) × NoneAcross page areas
    case true test later is = absurd (cc)
    case false test later is = (λ below. grind (arith, nat_tests), later is)

-- areas from a page on don't lie across it
pub none_from : (page : ℕ) (areas : List Vma) (low : ℕ) → page ≤ low → AreInOrderFrom low areas → NoneAcross page areas
none_from page [] low below order = tt
none_from page (first ∷ areas) low below order = let begin = order.0 in let some = order.1 in
    ((λ under. absurd (omega arith)), none_from page areas first.hi (omega arith) order.2)

-- nor where the area that has it ends or begins there
pub found_across : (low at page : ℕ) (areas : List Vma) (vma : Vma) → AreInOrderFrom low areas → at ≤ page → page ≤ at + 1 → vma_lookup areas at ≡ Some vma
    → (vma.lo < page → vma.hi ≤ page) → NoneAcross page areas
found_across low at page [] vma order near far found not_it = tt
found_across low at page (first ∷ areas) vma order near far found not_it =
    case (has first at) refl (λ is. found_across first.hi at page areas vma order.2 near far is not_it) found
  where
    case : (test : Bool) → has first at ≡ test → (vma_lookup areas at ≡ Some vma → NoneAcross page areas) → (if test then Some first else vma_lookup areas at) ≡ Some vma
        → (first.lo < page → first.hi ≤ page) × NoneAcross page areas
    case true test later is = let same : first ≡ vma = cc in
        let it : first.lo < page → first.hi ≤ page = subst (λ (v : Vma). v.lo < page → v.hi ≤ page) (sym same) not_it in
        let above : at < first.hi = grind (arith, nat_tests) in (it, none_from page areas first.hi (omega arith) order.2)
    case false test later is = (λ below. grind (arith, nat_tests), later is)

-- nor once it is split there
pub split_across : (low at page : ℕ) (areas : List Vma) (vma : Vma) → AreInOrderFrom low areas → at ≤ page → page ≤ at + 1 → vma_lookup areas at ≡ Some vma
    → vma.lo < page → page < vma.hi → NoneAcross page (split_list vma page areas)
split_across low at page [] vma order near far found above below = absurd (cc)
split_across low at page (first ∷ areas) vma order near far found above below =
    case (has first at) refl (λ is. split_across first.hi at page areas vma order.2 near far is above below) (looked_from first.hi at areas vma order.2) found
  where
    case : (test : Bool) → has first at ≡ test → (vma_lookup areas at ≡ Some vma → NoneAcross page (split_list vma page areas))
        → (vma_lookup areas at ≡ Some vma → first.hi ≤ vma.lo)
        → (if test then Some first else vma_lookup areas at) ≡ Some vma → NoneAcross page (split_list vma page (first ∷ areas))
    case true test later from is = let same : first ≡ vma = cc in
        let lower : first.lo < page = subst (λ (v : Vma). v.lo < page) (sym same) above in
        let upper : page < first.hi = subst (λ (v : Vma). page < v.hi) (sym same) below in
        subst (λ (v : Vma). NoneAcross page (split_list v page (first ∷ areas))) same
        (subst (λ (list : List Vma). NoneAcross page list) (sym (split_here first page areas order.2 lower upper))
        ((λ under. omega arith), ((λ under. absurd (omega arith)), none_from page areas first.hi (omega arith) order.2)))
    case false test later from is = let begins = from is in let some = order.1 in
        subst (λ (list : List Vma). NoneAcross page list) (sym (split_later first vma page areas (omega arith) above)) ((λ under. omega arith), later is)

-- a split makes no area that lies across another page
pub split_keeps : (low at page other : ℕ) (areas : List Vma) (vma : Vma) → AreInOrderFrom low areas → vma_lookup areas at ≡ Some vma
    → vma.lo < page → page < vma.hi → NoneAcross other areas → NoneAcross other (split_list vma page areas)
split_keeps low at page other [] vma order found above below none = absurd (cc)
split_keeps low at page other (first ∷ areas) vma order found above below none =
    case (has first at) (λ is. split_keeps first.hi at page other areas vma order.2 is above below none.1) (looked_from first.hi at areas vma order.2) found
  where
    case : (test : Bool) → (vma_lookup areas at ≡ Some vma → NoneAcross other (split_list vma page areas)) → (vma_lookup areas at ≡ Some vma → first.hi ≤ vma.lo)
        → (if test then Some first else vma_lookup areas at) ≡ Some vma → NoneAcross other (split_list vma page (first ∷ areas))
    case true later from is = let same : first ≡ vma = cc in
        let lower : first.lo < page = subst (λ (v : Vma). v.lo < page) (sym same) above in
        let upper : page < first.hi = subst (λ (v : Vma). page < v.hi) (sym same) below in
        let it = none.0 in
        subst (λ (v : Vma). NoneAcross other (split_list v page (first ∷ areas))) same
        (subst (λ (list : List Vma). NoneAcross other list) (sym (split_here first page areas order.2 lower upper))
        ((λ under. let ends = it under in omega arith), ((λ under. it (omega arith)), none.1)))
    case false later from is = let begins = from is in let some = order.1 in
        subst (λ (list : List Vma). NoneAcross other list) (sym (split_later first vma page areas (omega arith) above)) (none.0, later is)
