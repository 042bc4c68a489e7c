-- For `walk`: the pair that has a page, by the entry that has it.
use Rattle.std.proofs.Common.{ℕ, ◌≡◌, ◌<◌, ◌≤◌, ◌-◌, Bool, true, false, ◌&&◌, cond, List, [], ◌∷◌, ◌++◌, Option, Some, None, refl, sym, ap, subst, ◌∙◌, arith, inl, inr}
use Rattle.std.proofs.lemmas.Bool.{cases_lt}
use Rattle.std.proofs.lemmas.Bool.Decides.{nat_tests}
use Rattle.std.specs.Prelude.{nat_eq, nat_lt, nat_le}
use Rattle.std.specs.Option.{option_map, option_and_then}
use Rattle.std.specs.List.{find}
use Rattle.maple_node.specs.declared.item.NodeItem.{NodeItem}
use Rattle.maple_node.specs.Nodes.{Ascends}
use Rattle.maple_node.specs.Levels.{item_at}
use Rattle.maple_node.specs.Trees.{Pair, pairs_from}
use Rattle.maple_node.specs.Pairs.{pair_has_page}
use Rattle.maple_read.proofs.Items.{item_at-first, item_at-later}

-- a pair that begins above a page, or ends at it or below, does not have it
lacks_below : (page : ℕ) (pair : Pair) → page < pair.lo → pair_has_page page pair ≡ false
lacks_below page pair below = let test : nat_le pair.lo page ≡ false = grind (arith, nat_tests) in rw test refl

lacks_above : (page : ℕ) (pair : Pair) → pair.hi ≤ page → pair_has_page page pair ≡ false
lacks_above page pair past = let test : nat_lt page pair.hi ≡ false = grind (arith, nat_tests) in
    elim (nat_le pair.lo page) as (λ b. b && nat_lt page pair.hi ≡ false) [ true ↦ test | false ↦ refl ]

-- and one that begins at it or below, and ends above it, has it
has : (page : ℕ) (pair : Pair) → pair.lo ≤ page → page < pair.hi → pair_has_page page pair ≡ true
has page pair above within =
    let low : nat_le pair.lo page ≡ true = grind (arith, nat_tests) in
    let high : nat_lt page pair.hi ≡ true = grind (arith, nat_tests) in
    rw (low, high) refl

-- the slot that an entry's word tells
abbrev pub slot_in : ℕ → Option ℕ
slot_in word = cond (nat_eq word 0) None (Some (word - 1))

pub slot_in-gap : (word : ℕ) → (1 ≤ word → ⊥) → slot_in word ≡ None
slot_in-gap word gap = let none : word ≡ 0 = elim (cases_lt 0 word) [ inl some ↦ absurd (gap some) | inr none ↦ omega arith ] in rw none refl

pub slot_in-slot : (word number : ℕ) → 1 ≤ word → number ≡ word - 1 → Some number ≡ slot_in word
slot_in-slot word number some is = let test : nat_eq word 0 ≡ false = grind (arith, nat_tests) in rw (test, is) refl

-- the slot of the pair that has a page
abbrev slot_from : ℕ → ℕ → List NodeItem → Option ℕ
slot_from page start items = option_map (λ (pair : Pair). pair.slot) (find (pair_has_page page) (pairs_from start items))

-- the first entry's pair is passed over where it does not have the page
passed : (page start : ℕ) (x : NodeItem) (xs : List NodeItem)
    → ((pair : Pair) → pair ≡ record { lo = start; hi = x.end; slot = x.word - 1 } → pair_has_page page pair ≡ false)
    → find (pair_has_page page) (pairs_from start (x ∷ xs)) ≡ find (pair_has_page page) (pairs_from x.end xs)
passed page start x xs lacks =
    let pair : Pair = record { lo = start; hi = x.end; slot = x.word - 1 } in
    let rest = pairs_from x.end xs in
    let test : pair_has_page page pair ≡ false = lacks pair refl in
    elim (nat_eq x.word 0) as (λ b. find (pair_has_page page) (cond b [] (pair ∷ []) ++ rest) ≡ find (pair_has_page page) rest) [
      | true ↦ refl
      | false ↦ ap (λ (b : Bool). cond b (Some pair) (find (pair_has_page page) rest)) test
    ]

-- entries that begin above a page have no pair that has it
none_before : (page start : ℕ) (xs : List NodeItem) → Ascends start xs → page < start → find (pair_has_page page) (pairs_from start xs) ≡ None
none_before page start [] ascends below = refl
none_before page start (x ∷ xs) ascends below =
    passed page start x xs (λ pair is. lacks_below page pair (subst (λ (p : Pair). page < p.lo) (sym is) below))
    ∙ none_before page x.end xs ascends.1 (omega (arith, ascends.0))

-- the slot of the pair that has a page is the one that the entry's word tells
pub slot_from-entry : (page start : ℕ) (xs : List NodeItem) → Ascends start xs → start ≤ page
    → slot_from page start xs ≡ option_and_then (λ item. slot_in item.word) (item_at page xs)
slot_from-entry page start [] ascends above = refl
slot_from-entry page start (x ∷ xs) ascends above =
    let pair : Pair = record { lo = start; hi = x.end; slot = x.word - 1 } in
    let rest = pairs_from x.end xs in
    let told : Option NodeItem → Option ℕ = option_and_then (λ (item : NodeItem). slot_in item.word) in
    let slot : Option Pair → Option ℕ = option_map (λ (pair : Pair). pair.slot) in
    elim (cases_lt page x.end) as (λ _. slot_from page start (x ∷ xs) ≡ told (item_at page (x ∷ xs))) [
      | inl within ↦
          let test : pair_has_page page pair ≡ true = has page pair above within in
          let none : find (pair_has_page page) rest ≡ None = none_before page x.end xs ascends.1 within in
          let both : (b : Bool) → slot (find (pair_has_page page) (cond b [] (pair ∷ []) ++ rest)) ≡ cond b None (Some (x.word - 1)) =
          λ b. elim b as (λ b. slot (find (pair_has_page page) (cond b [] (pair ∷ []) ++ rest)) ≡ cond b None (Some (x.word - 1))) [
            | true ↦ ap slot none
            | false ↦ ap (λ (c : Bool). slot (cond c (Some pair) (find (pair_has_page page) rest))) test
          ] in
          both (nat_eq x.word 0) ∙ sym (ap told (item_at-first page x xs within))
      | inr past ↦
          ap slot (passed page start x xs (λ p is. lacks_above page p (subst (λ (q : Pair). q.hi ≤ page) (sym is) past)))
          ∙ slot_from-entry page x.end xs ascends.1 past ∙ sym (ap told (item_at-later page x xs past))
    ]
