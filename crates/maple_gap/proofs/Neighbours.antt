-- For `next_slot` and `before_slot`: the pairs beside a page, by the entry that has it.
use Rattle.std.proofs.Common.{ℕ, ◌≡◌, ◌≢◌, ◌<◌, ◌≤◌, ◌+◌, ◌-◌, ◌^◌, Bool, true, false, min, List, [], ◌∷◌, ◌++◌, All, Option, Some, None, ◌⊎◌, refl, sym, ap, subst, ◌∙◌, arith, inl, inr}
use Rattle.std.specs.Prelude.{nat_eq, nat_lt, if◌then◌else◌, filter, cond}
use Rattle.std.specs.List.{last_or}
use Rattle.std.proofs.lemmas.Bool.{cases_lt, cases_eq}
use Rattle.std.proofs.lemmas.Bool.Decides.{nat_tests}
use Rattle.std.proofs.lemmas.List.Elements.{recursion_from_All}
use Rattle.std.specs.List.{AllByRecursion}
use Rattle.mm_types.specs.declared.slot.Slot.{Slot}
use Rattle.maple_node.specs.declared.item.NodeItem.{NodeItem}
use Rattle.maple_node.specs.Nodes.{items_end, Ascends}
use Rattle.maple_node.specs.Levels.{item_at}
use Rattle.maple_node.specs.Words.{slot_of}
use Rattle.maple_node.specs.Trees.{Pair, pairs_from, ApartFrom}
use Rattle.maple_node.proofs.Lists.{ends_above}
use Rattle.maple_node.specs.Splices.{ending_by}
use Rattle.maple_node.proofs.ItemLists.{item_at-first, item_at-later, ending_by-first, ending_by_first, stands, end_ending_by}
use Rattle.maple_gap.specs.Gaps.{first_pair_from, slot_in}

-- an item that is found is the first, or one of the others
found_first : (page : ℕ) (x y : NodeItem) (ys : List NodeItem) → page < y.end → item_at page (y ∷ ys) ≡ Some x → y ≡ x
found_first page x y ys above found = let same : Some y ≡ Some x = sym (item_at-first page y ys above) ∙ found in cc

found_later : (page : ℕ) (x y : NodeItem) (ys : List NodeItem) → y.end ≤ page → item_at page (y ∷ ys) ≡ Some x → item_at page ys ≡ Some x
found_later page x y ys past found = sym (item_at-later page y ys past) ∙ found

-- what holds of each item holds of the one that has a page
of_found : (P : NodeItem → Type 0) (page : ℕ) (xs : List NodeItem) (x : NodeItem) → AllByRecursion P xs → item_at page xs ≡ Some x → P x
of_found P page [] x all found = absurd (cc)
of_found P page (y ∷ ys) x all found = elim (cases_lt page y.end) as (λ _. P x) [
  | inl above ↦ subst P (found_first page x y ys above found) all.0
  | inr past ↦ of_found P page ys x all.1 (found_later page x y ys past found)
]

pub word_of_found : (page : ℕ) (xs : List NodeItem) (x : NodeItem) → All (λ (entry : NodeItem). entry.word ≤ 2 ^ 32) xs → item_at page xs ≡ Some x → x.word ≤ 2 ^ 32
word_of_found page xs x all found =
    of_found (λ (entry : NodeItem). entry.word ≤ 2 ^ 32) page xs x (recursion_from_All (λ (entry : NodeItem). entry.word ≤ 2 ^ 32) xs all) found

-- the pair of an entry with a slot
abbrev pub pair_at : ℕ → NodeItem → Pair
pair_at start y = record { lo = start; hi = y.end; slot = y.word - 1 }

is_gap : (word : ℕ) → word ≡ 0 → nat_eq word 0 ≡ true
is_gap word gap = grind (arith, nat_tests)

no_gap : (word : ℕ) → word ≢ 0 → nat_eq word 0 ≡ false
no_gap word slot = grind (arith, nat_tests)

slot_told : (start : ℕ) (y : NodeItem) → y.word ≢ 0 → slot_in (Some (pair_at start y)) ≡ slot_of y.word
slot_told start y slot =
    let told : Option Slot = Some (record { 0 = y.word - 1 }) in
    sym (ap (λ (b : Bool). if b then None else told) (no_gap y.word slot))

-- the first pair that ends above a page
first-later : (page start : ℕ) (y : NodeItem) (ys : List NodeItem) → y.end ≤ page
    → first_pair_from (pairs_from start (y ∷ ys)) page ≡ first_pair_from (pairs_from y.end ys) page
first-later page start y ys past =
    let rest = pairs_from y.end ys in
    let out : nat_lt page y.end ≡ false = grind (arith, nat_tests) in
    elim (nat_eq y.word 0) as (λ b. first_pair_from ((if b then [] else (pair_at start y ∷ [])) ++ rest) page ≡ first_pair_from rest page) [
      | true ↦ refl
      | false ↦ ap (λ (b : Bool). cond b (Some (pair_at start y)) (first_pair_from rest page)) out
    ]

first-gap : (page start : ℕ) (y : NodeItem) (ys : List NodeItem) → y.word ≡ 0
    → first_pair_from (pairs_from start (y ∷ ys)) page ≡ first_pair_from (pairs_from y.end ys) page
first-gap page start y ys gap =
    ap (λ (b : Bool). first_pair_from ((if b then [] else (pair_at start y ∷ [])) ++ pairs_from y.end ys) page) (is_gap y.word gap)

first-here : (page start : ℕ) (y : NodeItem) (ys : List NodeItem) → page < y.end → y.word ≢ 0
    → first_pair_from (pairs_from start (y ∷ ys)) page ≡ Some (pair_at start y)
first-here page start y ys above slot =
    let within : nat_lt page y.end ≡ true = grind (arith, nat_tests) in
    ap (λ (b : Bool). first_pair_from ((if b then [] else (pair_at start y ∷ [])) ++ pairs_from y.end ys) page) (no_gap y.word slot)
    ∙ ap (λ (b : Bool). cond b (Some (pair_at start y)) (first_pair_from (pairs_from y.end ys) page)) within

pub next_none : (page start : ℕ) (xs : List NodeItem) → Ascends start xs → items_end start xs ≤ page → first_pair_from (pairs_from start xs) page ≡ None
next_none page start [] ascends ends = refl
next_none page start (y ∷ ys) ascends ends =
    let later = ends_above y.end ys ascends.1 in
    first-later page start y ys (omega arith) ∙ next_none page y.end ys ascends.1 ends

pub next_here : (page start : ℕ) (xs : List NodeItem) (x : NodeItem) → item_at page xs ≡ Some x → x.word ≢ 0
    → slot_of x.word ≡ slot_in (first_pair_from (pairs_from start xs) page)
next_here page start [] x found slot = absurd (cc)
next_here page start (y ∷ ys) x found slot = elim (cases_lt page y.end) as (λ _. slot_of x.word ≡ slot_in (first_pair_from (pairs_from start (y ∷ ys)) page)) [
  | inl above ↦
      let same = found_first page x y ys above found in
      let own : y.word ≢ 0 = λ gap. slot (ap (λ (i : NodeItem). i.word) (sym same) ∙ gap) in
      ap (λ (i : NodeItem). slot_of i.word) (sym same) ∙ sym (ap slot_in (first-here page start y ys above own) ∙ slot_told start y own)
  | inr past ↦ next_here page y.end ys x (found_later page x y ys past found) slot ∙ sym (ap slot_in (first-later page start y ys past))
]

pub next_last : (page start : ℕ) (xs : List NodeItem) (x : NodeItem) → Ascends start xs → item_at page xs ≡ Some x → x.word ≡ 0 → items_end start xs ≤ x.end
    → first_pair_from (pairs_from start xs) page ≡ None
next_last page start [] x ascends found gap last = absurd (cc)
next_last page start (y ∷ ys) x ascends found gap last = elim (cases_lt page y.end) as (λ _. first_pair_from (pairs_from start (y ∷ ys)) page ≡ None) [
  | inl above ↦
      let same = ap (λ (i : NodeItem). i.word) (found_first page x y ys above found) in
      let ends = ap (λ (i : NodeItem). i.end) (found_first page x y ys above found) in
      first-gap page start y ys (omega arith) ∙ none ys ascends.1 (omega arith)
  | inr past ↦
      first-later page start y ys past ∙ next_last page y.end ys x ascends.1 (found_later page x y ys past found) gap last
] where
  none : (ys : List NodeItem) → Ascends y.end ys → items_end y.end ys ≤ y.end → first_pair_from (pairs_from y.end ys) page ≡ None
  none [] ascends ends = refl
  none (z ∷ zs) ascends ends =
      let past = ascends.0 in
      let later = ends_above z.end zs ascends.1 in absurd (omega arith)

pub next_gap : (page before start : ℕ) (xs : List NodeItem) (x z : NodeItem) → Ascends start xs → ApartFrom before xs → item_at page xs ≡ Some x → x.word ≡ 0
    → item_at x.end xs ≡ Some z → slot_of z.word ≡ slot_in (first_pair_from (pairs_from start xs) page)
next_gap page before start [] x z ascends apart found gap next = absurd (cc)
next_gap page before start (y ∷ ys) x z ascends apart found gap next =
    elim (cases_lt page y.end) as (λ _. slot_of z.word ≡ slot_in (first_pair_from (pairs_from start (y ∷ ys)) page)) [
      | inl above ↦
          let word = ap (λ (i : NodeItem). i.word) (found_first page x y ys above found) in
          let end = ap (λ (i : NodeItem). i.end) (found_first page x y ys above found) in
          second ys ascends.1 apart.1 above (omega arith) (found_later x.end z y ys (omega arith) next) end
          ∙ sym (ap slot_in (first-gap page start y ys (omega arith)))
      | inr past ↦
          let deep = found_later page x y ys past found in
          let high = (stands y.end page ys x ascends.1 deep).above in
          next_gap page y.word y.end ys x z ascends.1 apart.1 deep gap (found_later x.end z y ys (omega arith) next)
          ∙ sym (ap slot_in (first-later page start y ys past))
    ] where
      second : (ys : List NodeItem) → Ascends y.end ys → ApartFrom y.word ys → page < y.end → y.word ≡ 0 → item_at x.end ys ≡ Some z → y.end ≡ x.end
          → slot_of z.word ≡ slot_in (first_pair_from (pairs_from y.end ys) page)
      second [] ascends apart above gap next end = absurd (cc)
      second (w ∷ ws) ascends apart above gap next end =
          let past = ascends.0 in
          let same = found_first x.end z w ws (omega arith) next in
          let slot : w.word ≢ 0 = λ both. apart.0 gap both in
          ap (λ (i : NodeItem). slot_of i.word) (sym same) ∙ sym (ap slot_in (first-here page y.end w ws (omega arith) slot) ∙ slot_told y.end w slot)

-- the last pair that begins below a page, after one before
abbrev last_from : ℕ → Option Pair → List Pair → Option Pair
last_from page o pairs = last_or o (filter (λ (pair : Pair). nat_lt pair.lo page) pairs)

last-gap : (page start : ℕ) (o : Option Pair) (y : NodeItem) (ys : List NodeItem) → y.word ≡ 0
    → last_from page o (pairs_from start (y ∷ ys)) ≡ last_from page o (pairs_from y.end ys)
last-gap page start o y ys gap =
    ap (λ (b : Bool). last_from page o ((if b then [] else (pair_at start y ∷ [])) ++ pairs_from y.end ys)) (is_gap y.word gap)

last-here : (page start : ℕ) (o : Option Pair) (y : NodeItem) (ys : List NodeItem) → start < page → y.word ≢ 0
    → last_from page o (pairs_from start (y ∷ ys)) ≡ last_from page (Some (pair_at start y)) (pairs_from y.end ys)
last-here page start o y ys below slot =
    let within : nat_lt start page ≡ true = grind (arith, nat_tests) in
    let rest = filter (λ (pair : Pair). nat_lt pair.lo page) (pairs_from y.end ys) in
    ap (λ (b : Bool). last_from page o ((if b then [] else (pair_at start y ∷ [])) ++ pairs_from y.end ys)) (no_gap y.word slot)
    ∙ ap (λ (b : Bool). last_or o (cond b (pair_at start y ∷ rest) rest)) within

last-past : (page start : ℕ) (o : Option Pair) (y : NodeItem) (ys : List NodeItem) → page ≤ start
    → last_from page o (pairs_from start (y ∷ ys)) ≡ last_from page o (pairs_from y.end ys)
last-past page start o y ys past =
    let out : nat_lt start page ≡ false = grind (arith, nat_tests) in
    let rest = filter (λ (pair : Pair). nat_lt pair.lo page) (pairs_from y.end ys) in
    elim (nat_eq y.word 0) as (λ b. last_from page o ((if b then [] else (pair_at start y ∷ [])) ++ pairs_from y.end ys) ≡ last_or o rest) [
      | true ↦ refl
      | false ↦ ap (λ (b : Bool). last_or o (cond b (pair_at start y ∷ rest) rest)) out
    ]

-- no pair begins below the page where entries begin, nor after their end
pub before_none : (page start : ℕ) (o : Option Pair) (xs : List NodeItem) → Ascends start xs → page ≤ start → last_from page o (pairs_from start xs) ≡ o
before_none page start o [] ascends past = refl
before_none page start o (y ∷ ys) ascends past =
    let later = ascends.0 in
    last-past page start o y ys past ∙ before_none page y.end o ys ascends.1 (omega arith)

none_left : (page start : ℕ) (o : Option Pair) (xs : List NodeItem) → Ascends start xs → (page ≤ start) ⊎ (items_end start xs ≤ start)
    → last_from page o (pairs_from start xs) ≡ o
none_left page start o [] ascends edge = refl
none_left page start o (y ∷ ys) ascends edge = elim edge as (λ _. last_from page o (pairs_from start (y ∷ ys)) ≡ o) [
  | inl past ↦ before_none page start o (y ∷ ys) ascends past
  | inr ends ↦ let past = ascends.0 in let later = ends_above y.end ys ascends.1 in absurd (omega arith)
]

edge_at : (page p end next : ℕ) → p < next → (page ≤ p + 1) ⊎ (end ≤ p + 1) → (page ≤ next) ⊎ (end ≤ next)
edge_at page p end next within edge = elim edge as (λ _. (page ≤ next) ⊎ (end ≤ next)) [ inl a ↦ inl (omega arith) | inr b ↦ inr (omega arith) ]

pub before_here : (page p start : ℕ) (o : Option Pair) (xs : List NodeItem) (x : NodeItem) → Ascends start xs → start ≤ p → p < page
    → (page ≤ p + 1) ⊎ (items_end start xs ≤ p + 1) → item_at p xs ≡ Some x → x.word ≢ 0
    → slot_of x.word ≡ slot_in (last_from page o (pairs_from start xs))
before_here page p start o [] x ascends begins below edge found slot = absurd (cc)
before_here page p start o (y ∷ ys) x ascends begins below edge found slot =
    let Goal : Type 0 = slot_of x.word ≡ slot_in (last_from page o (pairs_from start (y ∷ ys))) in
    elim (cases_lt p y.end) as (λ _. Goal) [
      | inl above ↦
          let same = found_first p x y ys above found in
          let own : y.word ≢ 0 = λ gap. slot (ap (λ (i : NodeItem). i.word) (sym same) ∙ gap) in
          ap (λ (i : NodeItem). slot_of i.word) (sym same)
          ∙ sym (ap slot_in (last-here page start o y ys (omega arith) own
          ∙ none_left page y.end (Some (pair_at start y)) ys ascends.1 (edge_at page p (items_end y.end ys) y.end above edge))
          ∙ slot_told start y own)
      | inr past ↦
          let deep = found_later p x y ys past found in
          elim (cases_eq y.word 0) as (λ _. Goal) [
            | inl gap ↦ before_here page p y.end o ys x ascends.1 past below edge deep slot ∙ sym (ap slot_in (last-gap page start o y ys gap))
            | inr own ↦ before_here page p y.end (Some (pair_at start y)) ys x ascends.1 past below edge deep slot
                ∙ sym (ap slot_in (last-here page start o y ys (omega arith) own))
          ]
    ]

-- a gap at the beginning has nothing before it
pub before_first : (page p start : ℕ) (o : Option Pair) (xs : List NodeItem) (x : NodeItem) → Ascends start xs → start ≤ p → p < page
    → (page ≤ p + 1) ⊎ (items_end start xs ≤ p + 1) → item_at p xs ≡ Some x → x.word ≡ 0 → items_end start (ending_by p xs) ≤ start
    → last_from page o (pairs_from start xs) ≡ o
before_first page p start o [] x ascends begins below edge found gap first = refl
before_first page p start o (y ∷ ys) x ascends begins below edge found gap first =
    elim (cases_lt p y.end) as (λ _. last_from page o (pairs_from start (y ∷ ys)) ≡ o) [
      | inl above ↦
          let word = ap (λ (i : NodeItem). i.word) (found_first p x y ys above found) in
          last-gap page start o y ys (omega arith) ∙ none_left page y.end o ys ascends.1 (edge_at page p (items_end y.end ys) y.end above edge)
      | inr past ↦
          let later = end_ending_by y.end p ys ascends.1 in
          let start_past = ascends.0 in
          let told = ap (items_end start) (ending_by-first p y ys past) in
          absurd (omega arith)
    ]

-- the entry before a gap has a slot
pub before_gap : (page p before start : ℕ) (o : Option Pair) (xs : List NodeItem) (x z : NodeItem) → Ascends start xs → ApartFrom before xs → start ≤ p → p < page
    → (page ≤ p + 1) ⊎ (items_end start xs ≤ p + 1) → item_at p xs ≡ Some x → x.word ≡ 0 → start < items_end start (ending_by p xs)
    → item_at (items_end start (ending_by p xs) - 1) xs ≡ Some z → slot_of z.word ≡ slot_in (last_from page o (pairs_from start xs))
before_gap page p before start o [] x z ascends apart begins below edge found gap later last = absurd (cc)
before_gap page p before start o (y ∷ ys) x z ascends apart begins below edge found gap later last =
    let Goal : Type 0 = slot_of z.word ≡ slot_in (last_from page o (pairs_from start (y ∷ ys))) in
    elim (cases_lt p y.end) as (λ _. Goal) [
      | inl above ↦ let none = ap (items_end start) (ending_by_first start p y ys ascends above) in absurd (omega arith)
      | inr past ↦
          let deep = found_later p x y ys past found in
          let front = items_end y.end (ending_by p ys) in
          let told : items_end start (ending_by p (y ∷ ys)) ≡ front = ap (items_end start) (ending_by-first p y ys past) in
          let here : item_at (front - 1) (y ∷ ys) ≡ Some z = ap (λ (n : ℕ). item_at (n - 1) (y ∷ ys)) (sym told) ∙ last in
          let from = end_ending_by y.end p ys ascends.1 in
          let start_past = ascends.0 in
          elim (cases_lt y.end front) as (λ _. Goal) [
            | inl more ↦
                let there : item_at (front - 1) ys ≡ Some z = found_later (front - 1) z y ys (omega arith) here in
                elim (cases_eq y.word 0) as (λ _. Goal) [
                  | inl own ↦ before_gap page p y.word y.end o ys x z ascends.1 apart.1 past below edge deep gap more there
                      ∙ sym (ap slot_in (last-gap page start o y ys own))
                  | inr own ↦ before_gap page p y.word y.end (Some (pair_at start y)) ys x z ascends.1 apart.1 past below edge deep gap more there
                      ∙ sym (ap slot_in (last-here page start o y ys (omega arith) own))
                ]
            | inr first ↦
                let same = found_first (front - 1) z y ys (omega arith) here in
                let own : y.word ≢ 0 = slot_before ys ascends.1 apart.1 past deep gap first in
                ap (λ (i : NodeItem). slot_of i.word) (sym same)
                ∙ sym (ap slot_in (last-here page start o y ys (omega arith) own
                ∙ before_first page p y.end (Some (pair_at start y)) ys x ascends.1 past below edge deep gap first)
                ∙ slot_told start y own)
          ]
    ] where
      slot_before : (ys : List NodeItem) → Ascends y.end ys → ApartFrom y.word ys → y.end ≤ p → item_at p ys ≡ Some x → x.word ≡ 0
          → items_end y.end (ending_by p ys) ≤ y.end → y.word ≢ 0
      slot_before [] ascends apart past found gap first = absurd (cc)
      slot_before (w ∷ ws) ascends apart past found gap first = λ none.
          elim (cases_lt p w.end) as (λ _. ⊥) [
            | inl above ↦ apart.0 none (ap (λ (i : NodeItem). i.word) (found_first p x w ws above found) ∙ gap)
            | inr ending_after ↦
                let later = end_ending_by w.end p ws ascends.1 in
                let more = ascends.0 in
                let told = ap (items_end y.end) (ending_by-first p w ws ending_after) in
                omega arith
          ]

-- the page before a page, or the last of all
pub edge_of : (page end above : ℕ) → above ≡ min page end → above ≢ 0 → (page ≤ above - 1 + 1) ⊎ (end ≤ above - 1 + 1)
edge_of page end above is some = elim (cases_lt page end) as (λ _. (page ≤ above - 1 + 1) ⊎ (end ≤ above - 1 + 1)) [
  | inl within ↦ inl (omega arith)
  | inr past ↦ inr (omega arith)
]
