-- Look-ups and changes in a list in order, beside the list that the profile has of it.
use Rattle.std.proofs.Common.{arith, sym, subst}
use Rattle.std.proofs.lemmas.Bool.Decides.{nat_tests}
use Rattle.std.specs.Prelude.{ℕ, ◌≡◌, ◌<◌, ◌≤◌, ◌+◌, ◌&&◌, Bool, true, false, if◌then◌else◌, nat_eq, nat_le, nat_lt, List, [], ◌∷◌, map, find, Option, Some, None, refl}
use Rattle.area_list.specs.Areas.{area_at}
use Rattle.area_rules.specs.Growing.{is_above}
use Rattle.linux_rules.specs.declared.area.AnonVma.{AnonVma}
use Rattle.linux_rules.specs.declared.area.Vma.{Vma}
use Rattle.linux_rules.specs.Areas.{find_vma, without_vma, with_vma, replaced}
use Rattle.linux_beside.specs.Forgetting.{forgotten}
use Rattle.linux_beside.specs.InOrder.{AreInOrderFrom}

-- a list in order from a page on is so from a lower one
pub from_lower : (low high : ℕ) (areas : List Vma) → low ≤ high → AreInOrderFrom high areas → AreInOrderFrom low areas
from_lower low high [] below order = tt
from_lower low high (vma ∷ areas) below order = (omega (arith, order.0), order.1, order.2)

-- no area has a page below the first
pub none_below : (low page : ℕ) (areas : List Vma) → page < low → AreInOrderFrom low areas → area_at (map forgotten areas) page ≡ None
none_below low page [] below order = refl
none_below low page (vma ∷ areas) below order =
    let begin = order.0 in let some = order.1 in
    let rest = none_below vma.hi page areas (omega (arith, begin, some)) order.2 in grind (arith, nat_tests)

-- nor does one begin there
pub none_begins : (low page : ℕ) (areas : List Vma) → page + 1 < low → AreInOrderFrom low areas → find (is_above page) (map forgotten areas) ≡ None
none_begins low page [] below order = refl
none_begins low page (vma ∷ areas) below order =
    let begin = order.0 in let some = order.1 in
    let rest = none_begins vma.hi page areas (omega (arith, begin, some)) order.2 in grind (arith, nat_tests)

-- the area that is found begins at or above the first page, and has a page
pub found_from : (low page : ℕ) (areas : List Vma) (vma : Vma) → AreInOrderFrom low areas → find_vma areas page ≡ Some vma → (low ≤ vma.lo) × (vma.lo < vma.hi)
found_from low page [] vma order found = absurd (cc)
found_from low page (first ∷ areas) vma order found = at (nat_lt page first.hi) (found_from first.hi page areas vma order.2) found
  where
    at : (test : Bool) → (find_vma areas page ≡ Some vma → (first.hi ≤ vma.lo) × (vma.lo < vma.hi))
        → (if test then Some first else find_vma areas page) ≡ Some vma → (low ≤ vma.lo) × (vma.lo < vma.hi)
    at true later is = let same : first ≡ vma = cc in let begin = order.0 in let some = order.1 in rw (← same) (begin, some)
    at false later is = let rest = later is in let begin = order.0 in let some = order.1 in let r = rest.0 in
        (omega arith, rest.1)

-- where the first area that ends above a page has it, it is the area at the page
pub at_found : (low page : ℕ) (areas : List Vma) (vma : Vma) → AreInOrderFrom low areas → find_vma areas page ≡ Some vma → nat_le vma.lo page ≡ true
    → area_at (map forgotten areas) page ≡ Some (forgotten vma)
at_found low page [] vma order found has = absurd (cc)
at_found low page (first ∷ areas) vma order found has =
    at (nat_lt page first.hi) refl (λ is. at_found first.hi page areas vma order.2 is has) found
  where
    at : (test : Bool) → nat_lt page first.hi ≡ test → (find_vma areas page ≡ Some vma → area_at (map forgotten areas) page ≡ Some (forgotten vma))
        → (if test then Some first else find_vma areas page) ≡ Some vma
        → (if nat_le first.lo page && nat_lt page first.hi then Some (forgotten first) else area_at (map forgotten areas) page) ≡ Some (forgotten vma)
    at true test later is = let same : first ≡ vma = cc in
        let begins : nat_le first.lo page ≡ true = subst (λ (v : Vma). nat_le v.lo page ≡ true) (sym same) has in rw (begins, test, same)
    at false test later is = let rest = later is in
        let past : (nat_le first.lo page && nat_lt page first.hi) ≡ false = grind (arith, nat_tests) in rw past rest

-- where it begins above the page, no area has the page
pub none_at_hole : (low page : ℕ) (areas : List Vma) (vma : Vma) → AreInOrderFrom low areas → find_vma areas page ≡ Some vma → nat_le vma.lo page ≡ false
    → area_at (map forgotten areas) page ≡ None
none_at_hole low page [] vma order found above = refl
none_at_hole low page (first ∷ areas) vma order found above =
    at (nat_lt page first.hi) refl (λ is. none_at_hole first.hi page areas vma order.2 is above) found
  where
    at : (test : Bool) → nat_lt page first.hi ≡ test → (find_vma areas page ≡ Some vma → area_at (map forgotten areas) page ≡ None)
        → (if test then Some first else find_vma areas page) ≡ Some vma
        → (if nat_le first.lo page && nat_lt page first.hi then Some (forgotten first) else area_at (map forgotten areas) page) ≡ None
    at true test later is = let same : first ≡ vma = cc in
        let begins : nat_le first.lo page ≡ false = subst (λ (v : Vma). nat_le v.lo page ≡ false) (sym same) above in
        let ends : page < first.hi = grind (arith, nat_tests) in
        let rest = none_below first.hi page areas ends order.2 in rw begins rest
    at false test later is = let rest = later is in
        let past : (nat_le first.lo page && nat_lt page first.hi) ≡ false = grind (arith, nat_tests) in rw past rest

-- where none ends above the page, no area has it
pub none_at_end : (page : ℕ) (areas : List Vma) → find_vma areas page ≡ None → area_at (map forgotten areas) page ≡ None
none_at_end page [] found = refl
none_at_end page (first ∷ areas) found = at (nat_lt page first.hi) refl (none_at_end page areas) found
  where
    at : (test : Bool) → nat_lt page first.hi ≡ test → (find_vma areas page ≡ None → area_at (map forgotten areas) page ≡ None)
        → (if test then Some first else find_vma areas page) ≡ None
        → (if nat_le first.lo page && nat_lt page first.hi then Some (forgotten first) else area_at (map forgotten areas) page) ≡ None
    at true test later is = absurd (cc)
    at false test later is = let rest = later is in
        let past : (nat_le first.lo page && nat_lt page first.hi) ≡ false = grind (arith, nat_tests) in rw past rest

-- where the first area that ends above a hole isn't stack-like, none that is begins next to the page
pub no_stack_at_hole : (low page : ℕ) (areas : List Vma) (vma : Vma) → AreInOrderFrom low areas → find_vma areas page ≡ Some vma → nat_le vma.lo page ≡ false
    → vma.flags.growsdown ≡ false → find (is_above page) (map forgotten areas) ≡ None
no_stack_at_hole low page [] vma order found above still = refl
no_stack_at_hole low page (first ∷ areas) vma order found above still =
    at (nat_lt page first.hi) refl (λ is. no_stack_at_hole first.hi page areas vma order.2 is above still) found
  where
    at : (test : Bool) → nat_lt page first.hi ≡ test → (find_vma areas page ≡ Some vma → find (is_above page) (map forgotten areas) ≡ None)
        → (if test then Some first else find_vma areas page) ≡ Some vma
        → (if first.flags.growsdown && nat_eq first.lo (page + 1) then Some (forgotten first) else find (is_above page) (map forgotten areas)) ≡ None
    at true test later is = let same : first ≡ vma = cc in
        let here : first.flags.growsdown ≡ false = subst (λ (v : Vma). v.flags.growsdown ≡ false) (sym same) still in
        let begins : nat_le first.lo page ≡ false = subst (λ (v : Vma). nat_le v.lo page ≡ false) (sym same) above in
        let some = order.1 in
        let higher : page + 1 < first.hi = grind (arith, nat_tests) in
        let rest = none_begins first.hi page areas higher order.2 in rw here rest
    at false test later is = let rest = later is in
        let some = order.1 in
        let past : (first.flags.growsdown && nat_eq first.lo (page + 1)) ≡ false = grind (arith, nat_tests) in rw past rest

-- where none ends above the page, none begins next to it
pub no_stack_at_end : (low page : ℕ) (areas : List Vma) → AreInOrderFrom low areas → find_vma areas page ≡ None → find (is_above page) (map forgotten areas) ≡ None
no_stack_at_end low page [] order found = refl
no_stack_at_end low page (first ∷ areas) order found = at (nat_lt page first.hi) refl (no_stack_at_end first.hi page areas order.2) found
  where
    at : (test : Bool) → nat_lt page first.hi ≡ test → (find_vma areas page ≡ None → find (is_above page) (map forgotten areas) ≡ None)
        → (if test then Some first else find_vma areas page) ≡ None
        → (if first.flags.growsdown && nat_eq first.lo (page + 1) then Some (forgotten first) else find (is_above page) (map forgotten areas)) ≡ None
    at true test later is = absurd (cc)
    at false test later is = let rest = later is in
        let some = order.1 in
        let past : (first.flags.growsdown && nat_eq first.lo (page + 1)) ≡ false = grind (arith, nat_tests) in rw past rest

-- none of the areas from a page on begins below it
pub gone : (lo page : ℕ) (areas : List Vma) → AreInOrderFrom page areas → lo < page → without_vma lo areas ≡ areas
gone lo page [] order below = refl
gone lo page (vma ∷ areas) order below = let begin = order.0 in let some = order.1 in
    let rest = gone lo vma.hi areas order.2 (omega (arith, begin, some)) in grind (arith, nat_tests)

-- an area that begins at the first page or below it comes first
pub comes_first : (new : Vma) (page : ℕ) (areas : List Vma) → AreInOrderFrom page areas → new.lo ≤ page → with_vma new areas ≡ new ∷ areas
comes_first new page [] order below = refl
comes_first new page (vma ∷ areas) order below = let begin = order.0 in grind (arith, nat_tests)

-- an area that is found and gets another anon_vma stays where it is
pub replaced_in_place : (low page : ℕ) (areas : List Vma) (vma : Vma) (anon : Option AnonVma) → AreInOrderFrom low areas → find_vma areas page ≡ Some vma
    → map forgotten (replaced vma (record vma { anon = anon }) areas) ≡ map forgotten areas
replaced_in_place low page [] vma anon order found = absurd (cc)
replaced_in_place low page (first ∷ areas) vma anon order found =
    at (nat_lt page first.hi) (replaced_in_place first.hi page areas vma anon order.2) (found_from first.hi page areas vma order.2) found
  where
    at : (test : Bool) → (find_vma areas page ≡ Some vma → map forgotten (replaced vma (record vma { anon = anon }) areas) ≡ map forgotten areas)
        → (find_vma areas page ≡ Some vma → (first.hi ≤ vma.lo) × (vma.lo < vma.hi))
        → (if test then Some first else find_vma areas page) ≡ Some vma
        → map forgotten (replaced vma (record vma { anon = anon }) (first ∷ areas)) ≡ forgotten first ∷ map forgotten areas
    at true later from is = let same : first ≡ vma = cc in
        subst (λ (v : Vma). map forgotten (replaced v (record v { anon = anon }) (first ∷ areas)) ≡ forgotten first ∷ map forgotten areas) same here
      where
        here : map forgotten (replaced first (record first { anon = anon }) (first ∷ areas)) ≡ forgotten first ∷ map forgotten areas
        here = let some = order.1 in
            let left = gone first.lo first.hi areas order.2 some in
            let front : with_vma (record first { anon = anon }) areas ≡ record first { anon = anon } ∷ areas =
            comes_first (record first { anon = anon }) first.hi areas order.2 (omega arith) in
            let drops : without_vma first.lo (first ∷ areas) ≡ areas = grind (arith, nat_tests) in rw (drops, front)
    at false later from is = let some = order.1 in let begins = (from is).0 in
        let rest = later is in
        let stays : nat_eq first.lo vma.lo ≡ false = grind (arith, nat_tests) in
        let before : nat_lt first.lo vma.lo ≡ true = grind (arith, nat_tests) in rw (stays, before, rest)
