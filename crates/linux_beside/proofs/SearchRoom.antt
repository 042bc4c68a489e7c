-- A place that a search finds is free.
use Rattle.std.proofs.Common.{arith, sym, subst, ◌∙◌}
use Rattle.std.proofs.lemmas.Bool.Decides.{nat_tests}
use Rattle.std.specs.Prelude.{ℕ, ◌≡◌, ◌<◌, ◌≤◌, ◌+◌, ◌-◌, ◌*◌, ◌/◌, ◌%◌, min, max, Bool, true, false, not, ◌&&◌, ◌||◌, if◌then◌else◌, nat_eq, nat_le, nat_lt, List, [], ◌∷◌, filter, map, Option, Some, None, IfSome, option_and_then, refl}
use Rattle.std.specs.Option.{option_map_or, option_or}
use Rattle.mm_types.specs.declared.config.TheConstants.{PAGE_SIZE}
use Rattle.linux_rules.specs.declared.area.Vma.{Vma}
use Rattle.linux_rules.specs.declared.kernel.Kernel.{Kernel}
use Rattle.linux_rules.specs.Areas.{find_vma, vma_lookup}
use Rattle.linux_rules.specs.Searching.{GUARD, HUGE, start_gap, is_free, is_room, greatest, least, lowest_searched, ends_below, search_down, begins_above, search_up, takes_hint, topdown, to_aligned, huge_place, asks_for_huge, searched_place}
use Rattle.linux_beside.specs.InOrder.{AreInOrder}
use Rattle.linux_beside.proofs.SplitLemmas.{has}
use Rattle.linux_beside.proofs.Orderly.{hole}

-- no area has one of so many pages from a place on
abbrev pub IsFreeAt : List Vma → ℕ → ℕ → Type 0
IsFreeAt areas pages place = (page : ℕ) → place ≤ page → page < place + pages → vma_lookup areas page ≡ None

-- the greatest of the numbers that pass a test passes it
greatest_passes : (test : ℕ → Bool) (ns : List ℕ) (n : ℕ) → greatest (filter test ns) ≡ Some n → test n ≡ true
greatest_passes test [] n found = absurd (cc)
greatest_passes test (m ∷ ns) n found = case (test m) refl (λ k is. greatest_passes test ns k is) found
  where
    pick : (k : ℕ) (le : Bool) → nat_le m k ≡ le → max m k ≡ n → test m ≡ true → test k ≡ true → test n ≡ true
    pick k true le is here there = let less : m ≤ k = grind (arith, nat_tests) in let same : k ≡ n = omega arith in subst (λ (i : ℕ). test i ≡ true) same there
    pick k false le is here there = let more : k < m = grind (arith, nat_tests) in let same : m ≡ n = omega arith in subst (λ (i : ℕ). test i ≡ true) same here

    two : (o : Option ℕ) → ((k : ℕ) → o ≡ Some k → test k ≡ true) → test m ≡ true → Some (option_map_or (max m) o m) ≡ Some n → test n ≡ true
    two None each here is = let same : m ≡ n = cc in subst (λ (i : ℕ). test i ≡ true) same here
    two (Some k) each here is = let same : max m k ≡ n = cc in pick k (nat_le m k) refl same here (each k refl)

    case : (holds : Bool) → test m ≡ holds → ((k : ℕ) → greatest (filter test ns) ≡ Some k → test k ≡ true)
        → greatest (if holds then m ∷ filter test ns else filter test ns) ≡ Some n → test n ≡ true
    case true here each is = two (greatest (filter test ns)) each here is
    case false here each is = each n is

-- and so does the least
least_passes : (test : ℕ → Bool) (ns : List ℕ) (n : ℕ) → least (filter test ns) ≡ Some n → test n ≡ true
least_passes test [] n found = absurd (cc)
least_passes test (m ∷ ns) n found = case (test m) refl (λ k is. least_passes test ns k is) found
  where
    pick : (k : ℕ) (le : Bool) → nat_le m k ≡ le → min m k ≡ n → test m ≡ true → test k ≡ true → test n ≡ true
    pick k true le is here there = let less : m ≤ k = grind (arith, nat_tests) in let same : m ≡ n = omega arith in subst (λ (i : ℕ). test i ≡ true) same here
    pick k false le is here there = let more : k < m = grind (arith, nat_tests) in let same : k ≡ n = omega arith in subst (λ (i : ℕ). test i ≡ true) same there

    two : (o : Option ℕ) → ((k : ℕ) → o ≡ Some k → test k ≡ true) → test m ≡ true → Some (option_map_or (min m) o m) ≡ Some n → test n ≡ true
    two None each here is = let same : m ≡ n = cc in subst (λ (i : ℕ). test i ≡ true) same here
    two (Some k) each here is = let same : min m k ≡ n = cc in pick k (nat_le m k) refl same here (each k refl)

    case : (holds : Bool) → test m ≡ holds → ((k : ℕ) → least (filter test ns) ≡ Some k → test k ≡ true)
        → least (if holds then m ∷ filter test ns else filter test ns) ≡ Some n → test n ≡ true
    case true here each is = two (least (filter test ns)) each here is
    case false here each is = each n is

first_of_two : (a b : Bool) → (a && b) ≡ true → a ≡ true
first_of_two true b is = refl
first_of_two false b is = is

second_of_two : (a b : Bool) → (a && b) ≡ true → b ≡ true
second_of_two true b is = is
second_of_two false b is = absurd (cc)

-- what is free by its test is so by each look-up
free_is : (areas : List Vma) (pages place : ℕ) → is_free areas pages place ≡ true → IsFreeAt areas pages place
free_is [] pages place is = λ page from below. refl
free_is (first ∷ areas) pages place is = λ page from below.
    case page from below (nat_le (place + pages) first.lo || nat_le first.hi place) refl (λ later. free_is areas pages place later page from below) is
  where
    case : (page : ℕ) → place ≤ page → page < place + pages → (apart : Bool) → (nat_le (place + pages) first.lo || nat_le first.hi place) ≡ apart
        → (is_free areas pages place ≡ true → vma_lookup areas page ≡ None) → (apart && is_free areas pages place) ≡ true
        → (if has first page then Some first else vma_lookup areas page) ≡ None
    case page from below true apart later all = let off : has first page ≡ false = grind (arith, nat_tests) in rw off (later all)
    case page from below false apart later all = absurd (cc)

room_free : (areas : List Vma) (pages place : ℕ) → is_room areas pages place ≡ true → IsFreeAt areas pages place
unfolding is_room
room_free areas pages place is = free_is areas pages place (first_of_two (is_free areas pages place) _ is)

down_free : (kernel : Kernel) (areas : List Vma) (pages place : ℕ) → search_down kernel areas pages ≡ Some place → IsFreeAt areas pages place
unfolding search_down
down_free kernel areas pages place found = room_free areas pages place (greatest_passes (is_room areas pages)
    (map (λ end. end - pages) (filter (λ end. nat_le (lowest_searched kernel + pages) end) (ends_below areas (kernel.config.top / PAGE_SIZE)))) place found)

up_free : (kernel : Kernel) (areas : List Vma) (pages place : ℕ) → search_up kernel areas pages ≡ Some place → IsFreeAt areas pages place
unfolding search_up
up_free kernel areas pages place found = let limit = kernel.config.limit / PAGE_SIZE in room_free areas pages place
    (second_of_two (nat_le (place + pages) limit) (is_room areas pages place)
    (least_passes (λ start. nat_le (start + pages) limit && is_room areas pages start) (begins_above areas (limit / 3 + 1)) place found))

hint_free : (kernel : Kernel) (areas : List Vma) (pages hint : ℕ) → AreInOrder areas → takes_hint kernel areas pages hint ≡ true → IsFreeAt areas pages hint
unfolding takes_hint
hint_free kernel areas pages hint order is = λ page from below. hole 0 hint page areas order from (above page below (find_vma areas hint) tested)
  where
    tested : option_map_or (λ above. nat_le (hint + pages) (start_gap above)) (find_vma areas hint) true ≡ true
    tested = second_of_two (nat_le (hint + pages) (kernel.config.limit / PAGE_SIZE)) _ (second_of_two (not (nat_eq hint 0)) _ is)

    gap : (page : ℕ) → page < hint + pages → (v : Vma) (grows : Bool) → nat_le (hint + pages) (if grows then v.lo - GUARD else v.lo) ≡ true → page < v.lo
    gap page below v true fits = grind (arith, nat_tests)
    gap page below v false fits = grind (arith, nat_tests)

    above : (page : ℕ) → page < hint + pages → (o : Option Vma) → option_map_or (λ above. nat_le (hint + pages) (start_gap above)) o true ≡ true
        → IfSome o (λ v. page < v.lo)
    above page below None fits = tt
    above page below (Some v) fits = gap page below v v.flags.growsdown fits

topdown_free : (kernel : Kernel) (areas : List Vma) (pages hint place : ℕ) → AreInOrder areas → topdown kernel areas pages hint ≡ Some place → IsFreeAt areas pages place
unfolding topdown
topdown_free kernel areas pages hint place order found = case (takes_hint kernel areas pages hint) refl found
  where
    other : (o : Option ℕ) → search_down kernel areas pages ≡ o → option_or o (search_up kernel areas pages) ≡ Some place → IsFreeAt areas pages place
    other None is found = up_free kernel areas pages place found
    other (Some at) is found = let same : at ≡ place = cc in down_free kernel areas pages place (is ∙ found)

    case : (hinted : Bool) → takes_hint kernel areas pages hint ≡ hinted
        → (if hinted then Some hint else option_or (search_down kernel areas pages) (search_up kernel areas pages)) ≡ Some place → IsFreeAt areas pages place
    case true is found = let same : hint ≡ place = cc in subst (λ (at : ℕ). IsFreeAt areas pages at) same (hint_free kernel areas pages hint order is)
    case false is found = other (search_down kernel areas pages) refl found

huge_free : (kernel : Kernel) (areas : List Vma) (pages hint index place : ℕ) → AreInOrder areas → huge_place kernel areas pages hint index ≡ Some place
    → IsFreeAt areas pages place
unfolding huge_place
huge_free kernel areas pages hint index place order found = case (nat_lt (index + pages) ((index + HUGE - 1) / HUGE * HUGE + HUGE)) found
  where
    aligned : (at less : ℕ) (none : Bool) → less < HUGE → place ≡ at + (if none then HUGE else less) → IsFreeAt areas (pages + HUGE) at → IsFreeAt areas pages place
    aligned at less true few is free = λ page from below. free page (omega arith) (omega arith)
    aligned at less false few is free = λ page from below. free page (omega arith) (omega arith)

    chosen : (at : ℕ) (hinted : Bool) → (not (nat_eq hint 0) && nat_eq at hint) ≡ hinted → IsFreeAt areas (pages + HUGE) at
        → (if hinted then hint else at + to_aligned index at) ≡ place → IsFreeAt areas pages place
    chosen at true same free is = let equal : at ≡ hint = hint_is (second_of_two (not (nat_eq hint 0)) (nat_eq at hint) same) in
        λ page from below. free page (omega arith) (omega arith)
      where
        hint_is : nat_eq at hint ≡ true → at ≡ hint
        hint_is is = grind (arith, nat_tests)
    chosen at false same free is = let less = (index + HUGE * at - at) % HUGE in
        let few : less < HUGE = omega arith in aligned at less (nat_eq less 0) few (sym is) free

    from : (o : Option ℕ) → topdown kernel areas (pages + HUGE) hint ≡ o
        → option_and_then (λ found. Some (if not (nat_eq hint 0) && nat_eq found hint then hint else found + to_aligned index found)) o ≡ Some place
        → IsFreeAt areas pages place
    from None is found = absurd (cc)
    from (Some at) is found = let same : (if not (nat_eq hint 0) && nat_eq at hint then hint else at + to_aligned index at) ≡ place = cc in
        chosen at (not (nat_eq hint 0) && nat_eq at hint) refl (topdown_free kernel areas (pages + HUGE) hint at order is) same

    case : (small : Bool) → (if small then None else option_and_then (λ found. Some (if not (nat_eq hint 0) && nat_eq found hint then hint else found + to_aligned index found))
        (topdown kernel areas (pages + HUGE) hint)) ≡ Some place → IsFreeAt areas pages place
    case true is = absurd (cc)
    case false is = from (topdown kernel areas (pages + HUGE) hint) refl is

pub searched_free : (kernel : Kernel) (areas : List Vma) (pages hint index : ℕ) (is_file is_shared : Bool) (place : ℕ) → AreInOrder areas
    → searched_place kernel areas pages hint index is_file is_shared ≡ Some place → IsFreeAt areas pages place
unfolding searched_place
searched_free kernel areas pages hint index is_file is_shared place order found =
    case (asks_for_huge kernel pages hint is_file is_shared) found
  where
    at : ℕ
    at = if is_file then index else 0

    other : (o : Option ℕ) → huge_place kernel areas pages hint at ≡ o → option_or o (topdown kernel areas pages hint) ≡ Some place → IsFreeAt areas pages place
    other None is found = topdown_free kernel areas pages hint place order found
    other (Some it) is found = huge_free kernel areas pages hint at place order (is ∙ found)

    case : (huge : Bool) → option_or (if huge then huge_place kernel areas pages hint at else None) (topdown kernel areas pages hint) ≡ Some place
        → IsFreeAt areas pages place
    case true is = other (huge_place kernel areas pages hint at) refl is
    case false is = topdown_free kernel areas pages hint place order is
