-- Look-ups in a list in order from which an area is taken, or to which one is added.
use Rattle.std.proofs.Common.{arith, subst, ap, ◌∙◌, ◌⊎◌, inl, inr}
use Rattle.std.proofs.lemmas.Bool.Decides.{nat_tests}
use Rattle.std.specs.Prelude.{ℕ, ◌≡◌, ◌<◌, ◌≤◌, Bool, true, false, not, if◌then◌else◌, nat_eq, nat_lt, List, [], ◌∷◌, find, filter, Option, Some, None, refl}
use Rattle.std.specs.List.{last_or}
use Rattle.linux_rules.specs.declared.area.Vma.{Vma}
use Rattle.linux_rules.specs.Areas.{vma_lookup, vma_before, without_vma, with_vma, replaced, lower_part, upper_part}
use Rattle.linux_beside.specs.InOrder.{AreInOrder, AreInOrderFrom}
use Rattle.linux_beside.proofs.OrderLemmas.{gone}
use Rattle.linux_beside.proofs.SplitLemmas.{has, split_list}
use Rattle.linux_beside.proofs.RemovalLemmas.{filter_order}

-- an area of a list in order from a page on: it's looked up at each of its pages
pub record IsOneOf (low : ℕ) (vma : Vma) (areas : List Vma) : Type 0 where
  pub looked : (page : ℕ) → has vma page ≡ true → vma_lookup areas page ≡ Some vma
  pub from : low ≤ vma.lo
  pub some : vma.lo < vma.hi

-- no area has a page of this one
abbrev pub IsFreeFor : Vma → List Vma → Type 0
IsFreeFor vma areas = (page : ℕ) → has vma page ≡ true → vma_lookup areas page ≡ None

-- an area begins with a page of its own
begins_in : (vma : Vma) → vma.lo < vma.hi → has vma vma.lo ≡ true
begins_in vma some = grind (arith, nat_tests)

-- the first is one of them
the_first : (low : ℕ) (first : Vma) (areas : List Vma) → AreInOrderFrom low (first ∷ areas) → IsOneOf low first (first ∷ areas)
the_first low first areas order = record { looked = λ page it. rw it; from = order.0; some = order.1 }

-- so is one behind it
a_later : (low : ℕ) (first vma : Vma) (areas : List Vma) → AreInOrderFrom low (first ∷ areas) → IsOneOf first.hi vma areas → IsOneOf low vma (first ∷ areas)
a_later low first vma areas order one = let begin = order.0 in let more = order.1 in let from = one.from in record {
  looked = λ page it. let off : has first page ≡ false = grind (arith, nat_tests) in rw off (one.looked page it);
  from = omega arith;
  some = one.some;
}

-- what a search finds is one of them
pub found_in : (test : Vma → Bool) (low : ℕ) (vma : Vma) (areas : List Vma) → AreInOrderFrom low areas → find test areas ≡ Some vma → IsOneOf low vma areas
found_in test low vma [] order found = absurd (cc)
found_in test low vma (first ∷ areas) order found = case (test first) (λ is. found_in test first.hi vma areas order.2 is) found
  where
    case : (holds : Bool) → (find test areas ≡ Some vma → IsOneOf first.hi vma areas) → (if holds then Some first else find test areas) ≡ Some vma
        → IsOneOf low vma (first ∷ areas)
    case true later is = let same : first ≡ vma = cc in subst (λ (v : Vma). IsOneOf low v (first ∷ areas)) same (the_first low first areas order)
    case false later is = a_later low first vma areas order (later is)

-- the last of some of them
last_in : (test : Vma → Bool) (low : ℕ) (before : Option Vma) (vma : Vma) (areas : List Vma) → AreInOrderFrom low areas
    → last_or before (filter test areas) ≡ Some vma → (before ≡ Some vma) ⊎ IsOneOf low vma areas
last_in test low before vma [] order found = inl found
last_in test low before vma (first ∷ areas) order found = case (test first) (λ is. last_in test first.hi (Some first) vma areas order.2 is)
    (λ is. last_in test first.hi before vma areas order.2 is) found
  where
    it : (Some first ≡ Some vma) ⊎ IsOneOf first.hi vma areas → IsOneOf low vma (first ∷ areas)
    it (inl is) = let same : first ≡ vma = cc in subst (λ (v : Vma). IsOneOf low v (first ∷ areas)) same (the_first low first areas order)
    it (inr one) = a_later low first vma areas order one

    later : (before ≡ Some vma) ⊎ IsOneOf first.hi vma areas → (before ≡ Some vma) ⊎ IsOneOf low vma (first ∷ areas)
    later (inl is) = inl is
    later (inr one) = inr (a_later low first vma areas order one)

    case : (holds : Bool) → (last_or (Some first) (filter test areas) ≡ Some vma → (Some first ≡ Some vma) ⊎ IsOneOf first.hi vma areas)
        → (last_or before (filter test areas) ≡ Some vma → (before ≡ Some vma) ⊎ IsOneOf first.hi vma areas)
        → last_or before (if holds then first ∷ filter test areas else filter test areas) ≡ Some vma → (before ≡ Some vma) ⊎ IsOneOf low vma (first ∷ areas)
    case true with skip is = inr (it (with is))
    case false with skip is = later (skip is)

-- the one before a page is one of them
pub before_in : (page : ℕ) (vma : Vma) (areas : List Vma) → AreInOrder areas → vma_before areas page ≡ Some vma → IsOneOf 0 vma areas
before_in page vma areas order found = some_is (last_in (λ v. nat_lt v.lo page) 0 none vma areas order found)
  where
    none : Option Vma
    none = None

    some_is : (none ≡ Some vma) ⊎ IsOneOf 0 vma areas → IsOneOf 0 vma areas
    some_is (inl is) = absurd (cc)
    some_is (inr one) = one

-- where none is looked up, the first isn't it, nor is a later one
missed : (first : Vma) (areas : List Vma) (page : ℕ) → vma_lookup (first ∷ areas) page ≡ None → (has first page ≡ false) × (vma_lookup areas page ≡ None)
missed first areas page none = at (has first page) refl none
  where
    at : (test : Bool) → has first page ≡ test → (if test then Some first else vma_lookup areas page) ≡ None → (has first page ≡ false) × (vma_lookup areas page ≡ None)
    at true is none = absurd (cc)
    at false is none = (is, none)

-- below a list in order none is looked up
pub nothing_below : (low page : ℕ) (areas : List Vma) → page < low → AreInOrderFrom low areas → vma_lookup areas page ≡ None
nothing_below low page [] below order = refl
nothing_below low page (first ∷ areas) below order = let begin = order.0 in let some = order.1 in
    let rest = nothing_below first.hi page areas (omega arith) order.2 in
    let off : has first page ≡ false = grind (arith, nat_tests) in rw off rest

-- an area whose pages are free may be added
with_order : (low : ℕ) (vma : Vma) (areas : List Vma) → AreInOrderFrom low areas → low ≤ vma.lo → vma.lo < vma.hi → IsFreeFor vma areas
    → AreInOrderFrom low (with_vma vma areas)
with_order low vma [] order from some free = (from, some, tt)
with_order low vma (first ∷ areas) order from some free =
    case (nat_lt first.lo vma.lo) refl (λ behind later. with_order first.hi vma areas order.2 behind some later)
  where
    ends : nat_lt first.lo vma.lo ≡ true → first.hi ≤ vma.lo
    ends is = let off = (missed first areas vma.lo (free vma.lo (begins_in vma some))).0 in grind (arith, nat_tests)

    inside : nat_lt first.lo vma.lo ≡ false → (test : Bool) → nat_lt first.lo vma.hi ≡ test → vma.hi ≤ first.lo
    inside is true reaches = let it : has vma first.lo ≡ true = grind (arith, nat_tests) in
        let off = (missed first areas first.lo (free first.lo it)).0 in let on = begins_in first order.1 in absurd (cc)
    inside is false reaches = grind (arith, nat_tests)

    case : (test : Bool) → nat_lt first.lo vma.lo ≡ test → (first.hi ≤ vma.lo → IsFreeFor vma areas → AreInOrderFrom first.hi (with_vma vma areas))
        → AreInOrderFrom low (if test then first ∷ with_vma vma areas else vma ∷ first ∷ areas)
    case true is rest = (order.0, order.1, rest (ends is) (λ page it. (missed first areas page (free page it)).1))
    case false is rest = (from, some, (inside is (nat_lt first.lo vma.hi) refl, order.1, order.2))

-- it's looked up at its pages then, and what was looked up at others
with_looked : (page : ℕ) (vma : Vma) (areas : List Vma) → IsFreeFor vma areas
    → vma_lookup (with_vma vma areas) page ≡ (if has vma page then Some vma else vma_lookup areas page)
with_looked page vma [] free = refl
with_looked page vma (first ∷ areas) free =
    case (nat_lt first.lo vma.lo) (with_looked page vma areas (λ at it. (missed first areas at (free at it)).1))
  where
    rest : Option Vma
    rest = vma_lookup areas page

    at : (here there : Bool) → has first page ≡ here → has vma page ≡ there → vma_lookup (with_vma vma areas) page ≡ (if there then Some vma else rest)
        → (if here then Some first else vma_lookup (with_vma vma areas) page) ≡ (if there then Some vma else (if here then Some first else rest))
    at false there is it later = later
    at true false is it later = refl
    at true true is it later = let off = (missed first areas page (free page it)).0 in absurd (cc)

    case : (before : Bool) → vma_lookup (with_vma vma areas) page ≡ (if has vma page then Some vma else rest)
        → vma_lookup (if before then first ∷ with_vma vma areas else vma ∷ first ∷ areas) page
        ≡ (if has vma page then Some vma else (if has first page then Some first else rest))
    case true later = at (has first page) (has vma page) refl refl later
    case false later = refl

-- an area that is taken is looked up no more
without_looked : (low page : ℕ) (vma : Vma) (areas : List Vma) → AreInOrderFrom low areas → vma.lo < vma.hi
    → ((at : ℕ) → has vma at ≡ true → vma_lookup areas at ≡ Some vma)
    → vma_lookup (without_vma vma.lo areas) page ≡ (if has vma page then None else vma_lookup areas page)
without_looked low page vma [] order some looked = let is = looked vma.lo (begins_in vma some) in absurd (cc)
without_looked low page vma (first ∷ areas) order some looked =
    case (nat_eq first.lo vma.lo) refl (λ later. without_looked first.hi page vma areas order.2 some later)
  where
    -- the first, at one of its pages
    same_at : (at : ℕ) → has first at ≡ true → has vma at ≡ true → first ≡ vma
    same_at at here it = let is = looked at it in let found : vma_lookup (first ∷ areas) at ≡ Some first = rw here in cc

    whole : (test : Bool) → has first page ≡ test → vma_lookup areas page ≡ (if test then None else (if test then Some first else vma_lookup areas page))
    whole true is = nothing_below first.hi page areas (grind (arith, nat_tests)) order.2
    whole false is = refl

    other : (at : ℕ) (here : Bool) → nat_eq first.lo vma.lo ≡ false → has first at ≡ here → has vma at ≡ true
        → (if here then Some first else vma_lookup areas at) ≡ Some vma → vma_lookup areas at ≡ Some vma
    other at true apart here it is = let same : first ≡ vma = cc in let lo = ap (λ (v : Vma). v.lo) same in absurd (grind (arith, nat_tests))
    other at false apart here it is = is

    beside : (here there : Bool) → nat_eq first.lo vma.lo ≡ false → has first page ≡ here → has vma page ≡ there
        → vma_lookup (without_vma vma.lo areas) page ≡ (if there then None else vma_lookup areas page)
        → (if here then Some first else vma_lookup (without_vma vma.lo areas) page) ≡ (if there then None else (if here then Some first else vma_lookup areas page))
    beside false there apart is it later = later
    beside true false apart is it later = refl
    beside true true apart is it later = let same = same_at page is it in let lo = ap (λ (v : Vma). v.lo) same in absurd (grind (arith, nat_tests))

    case : (test : Bool) → nat_eq first.lo vma.lo ≡ test
        → (((at : ℕ) → has vma at ≡ true → vma_lookup areas at ≡ Some vma) → vma_lookup (without_vma vma.lo areas) page ≡ (if has vma page then None else vma_lookup areas page))
        → vma_lookup (if not test then first ∷ without_vma vma.lo areas else without_vma vma.lo areas) page
        ≡ (if has vma page then None else (if has first page then Some first else vma_lookup areas page))
    case true is rest =
        let begin : has first vma.lo ≡ true = let more = order.1 in grind (arith, nat_tests) in
        let same = same_at vma.lo begin (begins_in vma some) in
        let left = gone first.lo first.hi areas order.2 order.1 in
        subst (λ (v : Vma). vma_lookup (without_vma v.lo areas) page ≡ (if has v page then None else (if has first page then Some first else vma_lookup areas page))) same
        (ap (λ (list : List Vma). vma_lookup list page) left ∙ whole (has first page) refl)
    case false is rest = beside (has first page) (has vma page) is refl refl (rest (λ at it. other at (has first at) is refl it (looked at it)))

-- a list with another area in the place of one
pub record IsReplaced (old new : Vma) (before after : List Vma) : Type 0 where
  pub order : AreInOrder after
  pub looked : (page : ℕ) → vma_lookup after page ≡ (if has new page then Some new else (if has old page then None else vma_lookup before page))

-- the new one may have pages of the old one, and such that are free
pub is_replaced : (old new : Vma) (areas : List Vma) → AreInOrder areas → IsOneOf 0 old areas → new.lo < new.hi
    → ((page : ℕ) → has new page ≡ true → has old page ≡ false → vma_lookup areas page ≡ None) → IsReplaced old new areas (replaced old new areas)
is_replaced old new areas order one some free = record {
  order = with_order 0 new rest (filter_order (λ vma. not (nat_eq vma.lo old.lo)) 0 areas order) (omega arith) some room;
  looked = λ page. with_looked page new rest room
      ∙ ap (λ (o : Option Vma). if has new page then Some new else o) (without_looked 0 page old areas order one.some one.looked);
}
  where
    rest : List Vma
    rest = without_vma old.lo areas

    at : (page : ℕ) (test : Bool) → has old page ≡ test → has new page ≡ true → (if test then None else vma_lookup areas page) ≡ None
    at page true is it = refl
    at page false is it = free page it is

    room : IsFreeFor new rest
    room page it = without_looked 0 page old areas order one.some one.looked ∙ at page (has old page) refl it

-- a list without one
pub taken_order : (vma : Vma) (areas : List Vma) → AreInOrder areas → AreInOrder (without_vma vma.lo areas)
taken_order vma areas order = filter_order (λ v. not (nat_eq v.lo vma.lo)) 0 areas order

pub taken_looked : (page : ℕ) (vma : Vma) (areas : List Vma) → AreInOrder areas → IsOneOf 0 vma areas
    → vma_lookup (without_vma vma.lo areas) page ≡ (if has vma page then None else vma_lookup areas page)
taken_looked page vma areas order one = without_looked 0 page vma areas order one.some one.looked

-- a list with one area more, which has taken the place of what had its pages
pub record IsPut (vma : Vma) (before after : List Vma) : Type 0 where
  pub order : AreInOrder after
  pub some : vma.lo < vma.hi
  pub looked : (page : ℕ) → vma_lookup after page ≡ (if has vma page then Some vma else vma_lookup before page)

-- it's one of them
pub put_one : (vma : Vma) (before after : List Vma) → IsPut vma before after → IsOneOf 0 vma after
put_one vma before after put = record { looked = λ page it. put.looked page ∙ (rw it); from = omega arith; some = put.some }

-- added where its pages are free
pub put_free : (vma : Vma) (areas : List Vma) → AreInOrder areas → vma.lo < vma.hi → IsFreeFor vma areas → IsPut vma areas (with_vma vma areas)
put_free vma areas order some free = record {
  order = with_order 0 vma areas order (omega arith) some free;
  some = some;
  looked = λ page. with_looked page vma areas free;
}

-- in the place of one whose pages it has
pub put_over : (old new : Vma) (areas : List Vma) → AreInOrder areas → IsOneOf 0 old areas → new.lo < new.hi
    → ((page : ℕ) → has old page ≡ true → has new page ≡ true)
    → ((page : ℕ) → has new page ≡ true → has old page ≡ false → vma_lookup areas page ≡ None) → IsPut new areas (replaced old new areas)
put_over old new areas order one some covers free = record { order = done.order; some = some; looked = λ page. done.looked page ∙ at page (has new page) (has old page) refl refl }
  where
    done : IsReplaced old new areas (replaced old new areas)
    done = is_replaced old new areas order one some free

    at : (page : ℕ) (here there : Bool) → has new page ≡ here → has old page ≡ there
        → (if here then Some new else (if there then None else vma_lookup areas page)) ≡ (if here then Some new else vma_lookup areas page)
    at page true there is it = refl
    at page false false is it = refl
    at page false true is it = let on = covers page it in absurd (cc)

-- a split of an area
pub record IsSplit (vma : Vma) (at : ℕ) (before after : List Vma) : Type 0 where
  pub order : AreInOrder after
  pub lower : IsOneOf 0 (lower_part vma at) after
  pub upper : IsOneOf 0 (upper_part vma at) after
  pub others : (page : ℕ) → has vma page ≡ false → vma_lookup after page ≡ vma_lookup before page

pub is_split : (vma : Vma) (at : ℕ) (areas : List Vma) → AreInOrder areas → IsOneOf 0 vma areas → vma.lo < at → at < vma.hi → IsSplit vma at areas (split_list vma at areas)
is_split vma at areas order one above below = record {
  order = put.order;
  lower = record { looked = λ page it. put.looked page ∙ low page it; from = omega arith; some = above };
  upper = put_one upper (replaced vma lower areas) (split_list vma at areas) put;
  others = λ page off. put.looked page ∙ far page off;
}
  where
    lower : Vma
    lower = lower_part vma at

    upper : Vma
    upper = upper_part vma at

    first : IsReplaced vma lower areas (replaced vma lower areas)
    first = is_replaced vma lower areas order one above
        (λ page it off. let on : has vma page ≡ true = grind (arith, nat_tests) in absurd (cc))

    room : IsFreeFor upper (replaced vma lower areas)
    room page it = let off : has lower page ≡ false = grind (arith, nat_tests) in let on : has vma page ≡ true = grind (arith, nat_tests) in
        first.looked page ∙ (rw (off, on))

    put : IsPut upper (replaced vma lower areas) (split_list vma at areas)
    put = put_free upper (replaced vma lower areas) first.order below room

    low : (page : ℕ) → has lower page ≡ true → (if has upper page then Some upper else vma_lookup (replaced vma lower areas) page) ≡ Some lower
    low page it = let off : has upper page ≡ false = grind (arith, nat_tests) in rw off (first.looked page ∙ (rw it))

    far : (page : ℕ) → has vma page ≡ false → (if has upper page then Some upper else vma_lookup (replaced vma lower areas) page) ≡ vma_lookup areas page
    far page off = let no : has upper page ≡ false = grind (arith, nat_tests) in let nor : has lower page ≡ false = grind (arith, nat_tests) in
        rw no (first.looked page ∙ (rw (nor, off)))
