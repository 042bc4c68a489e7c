-- For the law `gaps_stay_apart`: gaps that do not follow each other once some pages are overwritten.
use Rattle.std.proofs.Common.{ℕ, ◌≡◌, ◌≢◌, ◌<◌, ◌≤◌, ◌+◌, ◌-◌, Bool, true, false, if◌then◌else◌, nat_eq, List, [], ◌∷◌, ◌++◌, Option, Some, None, refl, sym, ap, subst, ◌∙◌, arith, inl, inr}
use Rattle.std.specs.Prelude.{nat_lt}
use Rattle.std.specs.List.{flat_map}
use Rattle.std.proofs.lemmas.Bool.{cases_lt}
use Rattle.std.proofs.lemmas.Bool.Decides.{nat_tests}
use Rattle.maple_node.specs.declared.item.NodeItem.{NodeItem}
use Rattle.maple_node.specs.Nodes.{items_end, Ascends}
use Rattle.maple_node.specs.Levels.{item_at}
use Rattle.maple_node.specs.Trees.{Pair, pair_of, pairs_from, ApartFrom}
use Rattle.maple_node.specs.Splices.{ending_by, ending_after, piece_of, overwrite, gap_begin, gap_end, widened_lo, widened_hi}
use Rattle.maple_node.specs.Pairs.{pair_below, pair_from, overwritten}
use Rattle.maple_node.proofs.ItemLists.{ending_by-first, ending_by_first, ending_by_none, ending_by_below, end_ending_by, ending_after-later, ending_after_first, item_at-first, item_at-later, found_at, stands}
use Rattle.maple_node.proofs.Pairs.{lower-cons, upper-cons, lower_all, upper_none, below_none, above_all}
use Rattle.maple_node.proofs.ItemEntries.{lower_entries, overwrite-parts, overwrite-pairs}

-- the word of the last entry, or that of the entry before where there are none
abbrev pub last_word : ℕ → List NodeItem → ℕ
last_word before [] = before
last_word before (x ∷ xs) = last_word x.word xs

-- gaps that stay apart in joined entries
pub apart-append : (before : ℕ) (xs ys : List NodeItem) → ApartFrom before xs → ApartFrom (last_word before xs) ys → ApartFrom before (xs ++ ys)
apart-append before [] ys left right = right
apart-append before (x ∷ xs) ys left right = (left.0, apart-append x.word xs ys left.1 right)

-- the same item
same_item : (x y : NodeItem) → Some x ≡ Some y → x ≡ y
same_item x y is = cc

-- in the entries below a page, with the piece of the one that has it
abbrev lower_from : ℕ → ℕ → List NodeItem → List NodeItem
lower_from start page xs = ending_by page xs ++ piece_of (items_end start (ending_by page xs)) page (item_at page xs)

lower-above : (start page : ℕ) (x : NodeItem) (xs : List NodeItem) → Ascends start (x ∷ xs) → page < x.end
    → lower_from start page (x ∷ xs) ≡ piece_of start page (Some x)
lower-above start page x xs ascends above = rw (ending_by_first start page x xs ascends above, item_at-first page x xs above) refl

lower-within : (start page : ℕ) (x : NodeItem) (xs : List NodeItem) → x.end ≤ page → lower_from start page (x ∷ xs) ≡ x ∷ lower_from x.end page xs
lower-within start page x xs within = rw (ending_by-first page x xs within, item_at-later page x xs within) refl

piece-none : (start page : ℕ) (o : Option NodeItem) → page ≤ start → piece_of start page o ≡ []
piece-none start page None begins = refl
piece-none start page (Some x) begins = let test : nat_lt start page ≡ false = grind (arith, nat_tests) in rw test refl

piece-some : (start page : ℕ) (x : NodeItem) → start < page → piece_of start page (Some x) ≡ record { end = page; word = x.word; gap = 0 } ∷ []
piece-some start page x some = let test : nat_lt start page ≡ true = grind (arith, nat_tests) in rw test refl

lower-none : (start page : ℕ) (xs : List NodeItem) → Ascends start xs → page ≤ start → lower_from start page xs ≡ []
lower-none start page xs ascends begins =
    ap (λ (ys : List NodeItem). ys ++ piece_of (items_end start ys) page (item_at page xs)) (ending_by_none start page xs ascends begins)
    ∙ piece-none start page (item_at page xs) begins

pub lower-apart : (before start page : ℕ) (xs : List NodeItem) → Ascends start xs → ApartFrom before xs → ApartFrom before (lower_from start page xs)
lower-apart before start page [] ascends apart = tt
lower-apart before start page (x ∷ xs) ascends apart =
    let Apart : List NodeItem → Type 0 = λ ys. ApartFrom before ys in
    elim (cases_lt page x.end) as (λ _. ApartFrom before (lower_from start page (x ∷ xs))) [
      | inl above ↦ subst Apart (sym (lower-above start page x xs ascends above))
          (elim (cases_lt start page) as (λ _. ApartFrom before (piece_of start page (Some x))) [
            | inl some ↦ subst Apart (sym (piece-some start page x some)) (apart.0, tt)
            | inr none ↦ subst Apart (sym (piece-none start page (Some x) none)) tt
          ])
      | inr within ↦ subst Apart (sym (lower-within start page x xs within)) (apart.0, lower-apart x.word x.end page xs ascends.1 apart.1)
    ]

-- in the entries that end above a page, after an entry with some word
pub ending_after-apart : (word before start page : ℕ) (xs : List NodeItem) → Ascends start xs → ApartFrom before xs
    → (word ≡ 0 → (y : NodeItem) → item_at page xs ≡ Some y → y.word ≡ 0 → ⊥) → ApartFrom word (ending_after page xs)
ending_after-apart word before start page [] ascends apart next = tt
ending_after-apart word before start page (x ∷ xs) ascends apart next =
    elim (cases_lt page x.end) as (λ _. ApartFrom word (ending_after page (x ∷ xs))) [
      | inl above ↦ rw (ending_after_first start page x xs ascends above) ((λ zero. next zero x (item_at-first page x xs above)), apart.1)
      | inr within ↦ rw (ending_after-later page x xs within)
          (ending_after-apart word x.word x.end page xs ascends.1 apart.1
          (λ zero y found. next zero y (item_at-later page x xs within ∙ found)))
    ]

-- in overwritten entries
pub overwrite-apart : (lo hi word : ℕ) (xs : List NodeItem) → Ascends 0 xs → ApartFrom 1 xs
    → (word ≡ 0 → last_word 1 (lower_entries lo xs) ≡ 0 → ⊥) → (word ≡ 0 → (y : NodeItem) → item_at hi xs ≡ Some y → y.word ≡ 0 → ⊥)
    → ApartFrom 1 (overwrite lo hi word xs)
overwrite-apart lo hi word xs ascends apart low high =
    let entry : NodeItem = record { end = hi; word = word; gap = 0 } in
    let Apart : List NodeItem → Type 0 = λ ys. ApartFrom 1 ys in
    subst Apart (sym (overwrite-parts lo hi word xs))
    (apart-append 1 (lower_entries lo xs) ((entry ∷ []) ++ ending_after hi xs) (lower-apart 1 0 lo xs ascends apart)
    ((λ before gap. low gap before), ending_after-apart word 1 0 hi xs ascends apart high))

-- the last entry below a page is the one that has the page before
last_below : (before start last page : ℕ) (xs : List NodeItem) (x : NodeItem) → Ascends start xs → last + 1 ≡ page → start ≤ last
    → item_at last xs ≡ Some x → last_word before (lower_from start page xs) ≡ x.word
last_below before start last page [] x ascends next begins found = absurd (cc)
last_below before start last page (y ∷ ys) x ascends next begins found =
    let Last : List NodeItem → Type 0 = λ zs. last_word before zs ≡ x.word in
    elim (cases_lt last y.end) as (λ _. last_word before (lower_from start page (y ∷ ys)) ≡ x.word) [
      | inl here ↦
          let same : y ≡ x = same_item y x (sym (item_at-first last y ys here) ∙ found) in
          let word : y.word ≡ x.word = ap (λ (item : NodeItem). item.word) same in
          elim (cases_lt page y.end) as (λ _. last_word before (lower_from start page (y ∷ ys)) ≡ x.word) [
            | inl above ↦ subst Last (sym (lower-above start page y ys ascends above ∙ piece-some start page y (omega arith))) word
            | inr within ↦
                let one : lower_from start page (y ∷ ys) ≡ y ∷ [] = lower-within start page y ys within
                ∙ ap (λ (zs : List NodeItem). y ∷ zs) (lower-none y.end page ys ascends.1 (omega arith)) in
                subst Last (sym one) word
          ]
      | inr later ↦ subst Last (sym (lower-within start page y ys (omega arith)))
          (last_below y.word y.end last page ys x ascends.1 next later (sym (item_at-later last y ys later) ∙ found))
    ]

-- no gap stands before a gap
before_gap : (before start last : ℕ) (xs : List NodeItem) (x : NodeItem) → Ascends start xs → ApartFrom before xs → start ≤ last
    → item_at last xs ≡ Some x → x.word ≡ 0 → last_word before (lower_from start (items_end start (ending_by last xs)) xs) ≡ 0 → ⊥
before_gap before start last [] x ascends apart begins found gap = absurd (cc)
before_gap before start last (y ∷ ys) x ascends apart begins found gap =
    let No : ℕ → Type 0 = λ page. last_word before (lower_from start page (y ∷ ys)) ≡ 0 → ⊥ in
    let Last : List NodeItem → Type 0 = λ zs. last_word before zs ≡ 0 → ⊥ in
    let End : List NodeItem → Type 0 = λ zs. No (items_end start zs) in
    elim (cases_lt last y.end) as (λ _. End (ending_by last (y ∷ ys))) [
      | inl here ↦
          let same : y ≡ x = same_item y x (sym (item_at-first last y ys here) ∙ found) in
          let zero : y.word ≡ 0 = ap (λ (item : NodeItem). item.word) same ∙ gap in
          let none : lower_from start start (y ∷ ys) ≡ [] = lower-none start start (y ∷ ys) ascends (omega arith) in
          subst End (sym (ending_by_first start last y ys ascends here)) (subst Last (sym none) (λ first. apart.0 first zero))
      | inr later ↦
          let page = items_end y.end (ending_by last ys) in
          let past : y.end ≤ page = end_ending_by y.end last ys ascends.1 in
          subst End (sym (ending_by-first last y ys later)) (subst Last (sym (lower-within start page y ys past))
          (before_gap y.word y.end last ys x ascends.1 apart.1 later (sym (item_at-later last y ys later) ∙ found) gap))
    ]

-- the pairs below a gap that has the page before a page
gap_below : (start last page : ℕ) (xs : List NodeItem) (x : NodeItem) → Ascends start xs → last + 1 ≡ page → start ≤ last → item_at last xs ≡ Some x
    → x.word ≡ 0 → flat_map (pair_below (items_end start (ending_by last xs))) (pairs_from start xs) ≡ flat_map (pair_below page) (pairs_from start xs)
gap_below start last page [] x ascends next begins found gap = absurd (cc)
gap_below start last page (y ∷ ys) x ascends next begins found gap =
    let all = flat_map (pair_below page) (pairs_from start (y ∷ ys)) in
    let End : List NodeItem → Type 0 = λ zs. flat_map (pair_below (items_end start zs)) (pairs_from start (y ∷ ys)) ≡ all in
    elim (cases_lt last y.end) as (λ _. End (ending_by last (y ∷ ys))) [
      | inl here ↦
          let same : y ≡ x = same_item y x (sym (item_at-first last y ys here) ∙ found) in
          let zero : y.word ≡ 0 = ap (λ (item : NodeItem). item.word) same ∙ gap in
          let first = ascends.0 in
          let none : flat_map (pair_below page) (pair_of start y) ≡ [] =
          let test : nat_eq y.word 0 ≡ true = grind (arith, nat_tests) in rw test refl in
          let low = lower-cons start page y ys [] [] none (below_none y.end page ys ascends.1 (omega arith)) in
          subst End (sym (ending_by_first start last y ys ascends here)) (below_none start start (y ∷ ys) ascends (omega arith) ∙ sym low)
      | inr later ↦
          let begin = items_end y.end (ending_by last ys) in
          let past : y.end ≤ begin = end_ending_by y.end last ys ascends.1 in
          let rest = flat_map (pair_below page) (pairs_from y.end ys) in
          let deep = gap_below y.end last page ys x ascends.1 next later (sym (item_at-later last y ys later) ∙ found) gap in
          subst End (sym (ending_by-first last y ys later))
          (lower-cons start begin y ys (pair_of start y) rest (lower_all start begin y ascends.0 past) deep
          ∙ sym (lower-cons start page y ys (pair_of start y) rest (lower_all start page y ascends.0 (omega arith)) refl))
    ]

-- the pairs above a gap that has a page
gap_above : (start page : ℕ) (xs : List NodeItem) (x : NodeItem) → Ascends start xs → item_at page xs ≡ Some x → x.word ≡ 0
    → flat_map (pair_from x.end) (pairs_from start xs) ≡ flat_map (pair_from page) (pairs_from start xs)
gap_above start page [] x ascends found gap = refl
gap_above start page (y ∷ ys) x ascends found gap =
    elim (cases_lt page y.end) as (λ _. flat_map (pair_from x.end) (pairs_from start (y ∷ ys)) ≡ flat_map (pair_from page) (pairs_from start (y ∷ ys))) [
      | inl here ↦
          let same : y ≡ x = same_item y x (sym (item_at-first page y ys here) ∙ found) in
          let zero : y.word ≡ 0 = ap (λ (item : NodeItem). item.word) same ∙ gap in
          let end : y.end ≡ x.end = ap (λ (item : NodeItem). item.end) same in
          let none : flat_map (pair_from page) (pair_of start y) ≡ [] =
          let test : nat_eq y.word 0 ≡ true = grind (arith, nat_tests) in rw test refl in
          let pairs = pairs_from y.end ys in
          upper-cons start x.end y ys [] pairs (upper_none start x.end y (omega arith)) (above_all y.end x.end ys ascends.1 (omega arith))
          ∙ sym (upper-cons start page y ys [] pairs none (above_all y.end page ys ascends.1 (omega arith)))
      | inr later ↦
          let deep = sym (item_at-later page y ys later) ∙ found in
          let above = (stands y.end page ys x ascends.1 deep).above in
          let rest = flat_map (pair_from page) (pairs_from y.end ys) in
          upper-cons start x.end y ys [] rest (upper_none start x.end y (omega arith)) (gap_above y.end page ys x ascends.1 deep gap)
          ∙ sym (upper-cons start page y ys [] rest (upper_none start page y later) refl)
    ]

-- no gap stands after a gap
first_apart : (start page before : ℕ) (xs : List NodeItem) (y : NodeItem) → Ascends start xs → page ≤ start → ApartFrom before xs → before ≡ 0
    → item_at page xs ≡ Some y → y.word ≡ 0 → ⊥
first_apart start page before [] y ascends begins apart gap found none = absurd (cc)
first_apart start page before (z ∷ zs) y ascends begins apart gap found none =
    let first = ascends.0 in
    let same : z ≡ y = same_item z y (sym (item_at-first page z zs (omega arith)) ∙ found) in
    apart.0 gap (ap (λ (item : NodeItem). item.word) same ∙ none)

after_gap : (before start page : ℕ) (xs : List NodeItem) (x y : NodeItem) → Ascends start xs → ApartFrom before xs → item_at page xs ≡ Some x
    → x.word ≡ 0 → item_at x.end xs ≡ Some y → y.word ≡ 0 → ⊥
after_gap before start page [] x y ascends apart found gap next none = absurd (cc)
after_gap before start page (z ∷ zs) x y ascends apart found gap next none = elim (cases_lt page z.end) as (λ _. ⊥) [
  | inl here ↦
      let same : z ≡ x = same_item z x (sym (item_at-first page z zs here) ∙ found) in
      let end : z.end ≡ x.end = ap (λ (item : NodeItem). item.end) same in
      first_apart z.end x.end z.word zs y ascends.1 (omega arith) apart.1 (ap (λ (item : NodeItem). item.word) same ∙ gap)
      (sym (item_at-later x.end z zs (omega arith)) ∙ next) none
  | inr later ↦
      let deep = sym (item_at-later page z zs later) ∙ found in
      let above = (stands z.end page zs x ascends.1 deep).above in
      after_gap z.word z.end page zs x y ascends.1 apart.1 deep gap (sym (item_at-later x.end z zs (omega arith)) ∙ next) none
]

-- where a new gap begins that takes in the one before it
record Low (lo low : ℕ) (xs : List NodeItem) : Type 0 where
  down : low ≤ lo
  lower : flat_map (pair_below low) (pairs_from 0 xs) ≡ flat_map (pair_below lo) (pairs_from 0 xs)
  before : last_word 1 (lower_entries low xs) ≡ 0 → ⊥

low_first : (xs : List NodeItem) → Ascends 0 xs → Low 0 0 xs
low_first xs ascends =
    let Last : List NodeItem → Type 0 = λ zs. last_word 1 zs ≡ 0 → ⊥ in
    record { down = omega arith; lower = refl; before = subst Last (sym (lower-none 0 0 xs ascends (omega arith))) (λ is. absurd (omega arith)) }

low_gap : (lo last : ℕ) (xs : List NodeItem) (x : NodeItem) → Ascends 0 xs → ApartFrom 1 xs → last + 1 ≡ lo → item_at last xs ≡ Some x → x.word ≡ 0
    → Low lo (items_end 0 (ending_by last xs)) xs
low_gap lo last xs x ascends apart next found gap =
    let below = ending_by_below 0 last xs (omega arith) in
    record {
      down = omega arith;
      lower = gap_below 0 last lo xs x ascends next (omega arith) found gap;
      before = before_gap 1 0 last xs x ascends apart (omega arith) found gap;
    }

low_slot : (lo last : ℕ) (xs : List NodeItem) (x : NodeItem) → Ascends 0 xs → last + 1 ≡ lo → item_at last xs ≡ Some x → x.word ≢ 0 → Low lo lo xs
low_slot lo last xs x ascends next found slot = record {
  down = omega arith;
  lower = refl;
  before = λ zero. slot (sym (last_below 1 0 last lo xs x ascends next (omega arith) found) ∙ zero);
}

low_at : (lo : ℕ) (xs : List NodeItem) → Ascends 0 xs → ApartFrom 1 xs → lo < items_end 0 xs → Low lo (widened_lo lo xs) xs
unfolding widened_lo
low_at lo xs ascends apart within =
    let last = lo - 1 in
    let begin = items_end 0 (ending_by last xs) in
    let At : ℕ → Type 0 = λ low. Low lo low xs in
    let Test : Bool → Type 0 = λ b. At (if b then 0 else gap_begin begin lo (item_at last xs)) in
    elim (cases_lt 0 lo) as (λ _. Test (nat_eq lo 0)) [
      | inl some ↦
          let test : nat_eq lo 0 ≡ false = grind (arith, nat_tests) in
          let it = found_at 0 last xs (omega arith) (omega arith) in
          let x = it.item in
          let is : item_at last xs ≡ Some x = it.is in
          let next : last + 1 ≡ lo = omega arith in
          let Item_at : Option NodeItem → Type 0 = λ o. At (gap_begin begin lo o) in
          let Word : Bool → Type 0 = λ b. At (if b then begin else lo) in
          let answer : Word (nat_eq x.word 0) = elim (cases_lt 0 x.word) as (λ _. Word (nat_eq x.word 0)) [
            | inl slot ↦ let no : nat_eq x.word 0 ≡ false = grind (arith, nat_tests) in
                subst Word (sym no) (low_slot lo last xs x ascends next is (λ zero. absurd (omega arith)))
            | inr gap ↦ let yes : nat_eq x.word 0 ≡ true = grind (arith, nat_tests) in
                subst Word (sym yes) (low_gap lo last xs x ascends apart next is (omega arith))
          ] in
          subst Test (sym test) (subst Item_at (sym is) answer)
      | inr none ↦
          let test : nat_eq lo 0 ≡ true = grind (arith, nat_tests) in
          let zeroth : 0 ≡ lo = omega arith in
          let From : ℕ → Type 0 = λ page. Low page 0 xs in
          subst Test (sym test) (subst From zeroth (low_first xs ascends))
    ]

-- where it ends, if it takes in the one after it
record High (hi high : ℕ) (xs : List NodeItem) : Type 0 where
  up : hi ≤ high
  limit : high ≤ items_end 0 xs
  upper : flat_map (pair_from high) (pairs_from 0 xs) ≡ flat_map (pair_from hi) (pairs_from 0 xs)
  after : (y : NodeItem) → item_at high xs ≡ Some y → y.word ≡ 0 → ⊥

high_end : (hi : ℕ) (xs : List NodeItem) → hi ≤ items_end 0 xs → item_at hi xs ≡ None → High hi hi xs
high_end hi xs within none = record {
  up = omega arith;
  limit = within;
  upper = refl;
  after = λ y found zero. let no : None ≡ Some y = sym none ∙ found in absurd (cc);
}

high_gap : (hi : ℕ) (xs : List NodeItem) (x : NodeItem) → Ascends 0 xs → ApartFrom 1 xs → item_at hi xs ≡ Some x → x.word ≡ 0 → High hi x.end xs
high_gap hi xs x ascends apart found gap =
    let it = stands 0 hi xs x ascends found in
    let above = it.above in
    record {
      up = omega arith;
      limit = it.within;
      upper = gap_above 0 hi xs x ascends found gap;
      after = λ y next zero. after_gap 1 0 hi xs x y ascends apart found gap next zero;
    }

high_slot : (hi : ℕ) (xs : List NodeItem) (x : NodeItem) → hi ≤ items_end 0 xs → item_at hi xs ≡ Some x → x.word ≢ 0 → High hi hi xs
high_slot hi xs x within found slot = record {
  up = omega arith;
  limit = within;
  upper = refl;
  after = λ y next zero. slot (ap (λ (item : NodeItem). item.word) (same_item x y (sym found ∙ next)) ∙ zero);
}

high_of : (hi : ℕ) (xs : List NodeItem) (o : Option NodeItem) → Ascends 0 xs → ApartFrom 1 xs → hi ≤ items_end 0 xs → item_at hi xs ≡ o
    → High hi (gap_end hi o) xs
high_of hi xs None ascends apart within is = high_end hi xs within is
high_of hi xs (Some x) ascends apart within is =
    let Word : Bool → Type 0 = λ b. High hi (if b then x.end else hi) xs in
    elim (cases_lt 0 x.word) as (λ _. Word (nat_eq x.word 0)) [
      | inl slot ↦ let no : nat_eq x.word 0 ≡ false = grind (arith, nat_tests) in
          subst Word (sym no) (high_slot hi xs x within is (λ zero. absurd (omega arith)))
      | inr gap ↦ let yes : nat_eq x.word 0 ≡ true = grind (arith, nat_tests) in
          subst Word (sym yes) (high_gap hi xs x ascends apart is (omega arith))
    ]

high_at : (hi : ℕ) (xs : List NodeItem) → Ascends 0 xs → ApartFrom 1 xs → hi ≤ items_end 0 xs → High hi (widened_hi hi xs) xs
unfolding widened_hi
high_at hi xs ascends apart within = high_of hi xs (item_at hi xs) ascends apart within refl

-- a new gap that takes in both
pub record Widened (lo hi : ℕ) (xs : List NodeItem) : Type 0 where
  pub down : widened_lo lo xs ≤ lo
  pub up : hi ≤ widened_hi hi xs
  pub limit : widened_hi hi xs ≤ items_end 0 xs
  pub pairs : pairs_from 0 (overwrite (widened_lo lo xs) (widened_hi hi xs) 0 xs) ≡ overwritten lo hi 0 (pairs_from 0 xs)
  pub apart : ApartFrom 1 (overwrite (widened_lo lo xs) (widened_hi hi xs) 0 xs)

pub widened : (lo hi : ℕ) (xs : List NodeItem) → Ascends 0 xs → ApartFrom 1 xs → lo < hi → hi ≤ items_end 0 xs → Widened lo hi xs
widened lo hi xs ascends apart some within =
    let low = low_at lo xs ascends apart (omega arith) in
    let high = high_at hi xs ascends apart within in
    let begin = widened_lo lo xs in
    let end = widened_hi hi xs in
    let pairs = pairs_from 0 xs in
    let down = low.down in
    let up = high.up in
    record {
      down = low.down;
      up = high.up;
      limit = high.limit;
      pairs = overwrite-pairs begin end 0 xs ascends (omega arith) high.limit
          ∙ ap (λ (ps : List Pair). ps ++ flat_map (pair_from end) pairs) low.lower
          ∙ ap (λ (ps : List Pair). flat_map (pair_below lo) pairs ++ ps) high.upper;
      apart = overwrite-apart begin end 0 xs ascends apart (λ zero. low.before) (λ zero. high.after);
    }

-- a new entry with a slot
pub stored-apart : (lo hi word : ℕ) (xs : List NodeItem) → Ascends 0 xs → ApartFrom 1 xs → lo < hi → hi ≤ items_end 0 xs → word ≢ 0
    → ApartFrom 1 (overwrite lo hi word xs)
stored-apart lo hi word xs ascends apart some within slot =
    overwrite-apart lo hi word xs ascends apart (λ zero. absurd (slot zero)) (λ zero. absurd (slot zero))
