-- For `AreaTree::split` and `AreaTree::remove_all`: pairs in order of which pages are overwritten twice.
use Rattle.std.proofs.Common.{ℕ, ◌≡◌, ◌<◌, ◌≤◌, min, max, true, false, List, [], ◌∷◌, ◌++◌, All, append-nil, refl, sym, ap, subst, ◌∙◌, arith, ◌⊎◌, inl, inr}
use Rattle.std.specs.Prelude.{nat_lt}
use Rattle.std.specs.List.{flat_map}
use Rattle.std.proofs.lemmas.Bool.{cases_lt, lt-ltb, le-ltb}
use Rattle.std.proofs.lemmas.Grind.{flat_map-append}
use Rattle.std.proofs.lemmas.List.Elements.{All-nil, All-cons, All-append}
use Rattle.maple_node.specs.Trees.{Pair, pair_of}
use Rattle.maple_node.specs.Pairs.{pair_below, pair_from, overwritten}
use Rattle.area_tree.specs.SpanTrees.{ArePairs}
use Rattle.area_tree.proofs.Storing.{OneSide, lower_away, lower_none, upper_all, upper_away, stays}

-- a part of a part of a pair
lower_twice : (low page : ℕ) (pair : Pair) → low ≤ page → flat_map (pair_below low) (pair_below page pair) ≡ pair_below low pair
lower_twice low page pair order = by (cases_lt pair.lo low) (cases_lt pair.lo page)
  where
    by : ((pair.lo < low) ⊎ (low ≤ pair.lo)) → ((pair.lo < page) ⊎ (page ≤ pair.lo)) → flat_map (pair_below low) (pair_below page pair) ≡ pair_below low pair
    by (inl some) first =
        let one : nat_lt pair.lo page ≡ true = lt-ltb pair.lo page (omega (arith, some, order)) in
        let two : nat_lt pair.lo low ≡ true = lt-ltb pair.lo low some in
        let ends : min (min pair.hi page) low ≡ min pair.hi low = omega (arith, order) in
        rw (one, two, ends) refl
    by (inr none) (inl some) =
        let one : nat_lt pair.lo page ≡ true = lt-ltb pair.lo page some in
        let two : nat_lt pair.lo low ≡ false = le-ltb pair.lo low none in
        rw (one, two) refl
    by (inr none) (inr above) =
        let one : nat_lt pair.lo page ≡ false = le-ltb pair.lo page above in
        let two : nat_lt pair.lo low ≡ false = le-ltb pair.lo low none in
        rw (one, two) refl

upper_twice : (page high : ℕ) (pair : Pair) → page ≤ high → flat_map (pair_from page) (pair_from high pair) ≡ pair_from high pair
upper_twice page high pair order = elim (cases_lt high pair.hi) [
  | inl some ↦ let one : nat_lt high pair.hi ≡ true = lt-ltb high pair.hi some in
      let two : nat_lt page pair.hi ≡ true = lt-ltb page pair.hi (omega (arith, some, order)) in
      let begins : max (max pair.lo high) page ≡ max pair.lo high = omega (arith, order) in
      rw (one, two, begins) refl
  | inr none ↦ let one : nat_lt high pair.hi ≡ false = le-ltb high pair.hi none in rw one refl
]

lower_of_upper : (page high : ℕ) (pair : Pair) → page ≤ high → flat_map (pair_below page) (pair_from high pair) ≡ []
lower_of_upper page high pair order = elim (cases_lt high pair.hi) [
  | inl some ↦ let one : nat_lt high pair.hi ≡ true = lt-ltb high pair.hi some in
      let two : nat_lt (max pair.lo high) page ≡ false = le-ltb (max pair.lo high) page (omega (arith, order)) in
      rw (one, two) refl
  | inr none ↦ let one : nat_lt high pair.hi ≡ false = le-ltb high pair.hi none in rw one refl
]

upper_of_lower : (low page : ℕ) (pair : Pair) → low ≤ page → flat_map (pair_from page) (pair_below low pair) ≡ []
upper_of_lower low page pair order = elim (cases_lt pair.lo low) [
  | inl some ↦ let one : nat_lt pair.lo low ≡ true = lt-ltb pair.lo low some in
      let two : nat_lt page (min pair.hi low) ≡ false = le-ltb page (min pair.hi low) (omega (arith, order)) in
      rw (one, two) refl
  | inr none ↦ let one : nat_lt pair.lo low ≡ false = le-ltb pair.lo low none in rw one refl
]

-- parts of the parts of pairs
each_part : (f g h : Pair → List Pair) → ((pair : Pair) → flat_map g (f pair) ≡ h pair) → (pairs : List Pair) → flat_map g (flat_map f pairs) ≡ flat_map h pairs
each_part f g h same [] = refl
each_part f g h same (pair ∷ pairs) =
    flat_map-append g (f pair) (flat_map f pairs)
    ∙ ap (λ (ps : List Pair). ps ++ flat_map g (flat_map f pairs)) (same pair)
    ∙ ap (λ (ps : List Pair). h pair ++ ps) (each_part f g h same pairs)

each_none : (f g : Pair → List Pair) → ((pair : Pair) → flat_map g (f pair) ≡ []) → (pairs : List Pair) → flat_map g (flat_map f pairs) ≡ []
each_none f g none [] = refl
each_none f g none (pair ∷ pairs) =
    flat_map-append g (f pair) (flat_map f pairs)
    ∙ ap (λ (ps : List Pair). ps ++ flat_map g (flat_map f pairs)) (none pair)
    ∙ each_none f g none pairs

-- pages are overwritten that adjoin a gap or are its first: what is left is that below them and that above the gap
twice : (lo up down hi word : ℕ) (pairs : List Pair) → lo ≤ down → down ≤ up → up ≤ hi
    → overwritten lo up word (overwritten down hi 0 pairs)
    ≡ flat_map (pair_below lo) pairs ++ (pair_of lo (record { end = up; word = word; gap = 0 }) ++ flat_map (pair_from hi) pairs)
twice lo up down hi word pairs low order high =
    ap (λ (ps : List Pair). ps ++ (middle ++ flat_map (pair_from up) (below ++ above))) lower
    ∙ ap (λ (ps : List Pair). flat_map (pair_below lo) pairs ++ (middle ++ ps)) upper
  where
    below : List Pair
    below = flat_map (pair_below down) pairs

    above : List Pair
    above = flat_map (pair_from hi) pairs

    middle : List Pair
    middle = pair_of lo (record { end = up; word = word; gap = 0 })

    lower : flat_map (pair_below lo) (below ++ above) ≡ flat_map (pair_below lo) pairs
    lower =
        flat_map-append (pair_below lo) below above
        ∙ ap (λ (ps : List Pair). ps ++ flat_map (pair_below lo) above)
        (each_part (pair_below down) (pair_below lo) (pair_below lo) (λ pair. lower_twice lo down pair low) pairs)
        ∙ ap (λ (ps : List Pair). flat_map (pair_below lo) pairs ++ ps)
        (each_none (pair_from hi) (pair_below lo) (λ pair. lower_of_upper lo hi pair (omega (arith, low, order, high))) pairs)
        ∙ append-nil (flat_map (pair_below lo) pairs)

    upper : flat_map (pair_from up) (below ++ above) ≡ above
    upper =
        flat_map-append (pair_from up) below above
        ∙ ap (λ (ps : List Pair). ps ++ flat_map (pair_from up) above)
        (each_none (pair_below down) (pair_from up) (λ pair. upper_of_lower down up pair order) pairs)
        ∙ each_part (pair_from hi) (pair_from up) (pair_from hi) (λ pair. upper_twice up hi pair high) pairs

-- a slot over a gap
pub over_gap : (lo hi word : ℕ) (pairs : List Pair) → lo ≤ hi → overwritten lo hi word (overwritten lo hi 0 pairs) ≡ overwritten lo hi word pairs
over_gap lo hi word pairs order = twice lo hi lo hi word pairs (omega arith) order (omega arith)

-- two gaps that adjoin
pub two_gaps : (lo mid hi : ℕ) (pairs : List Pair) → lo ≤ mid → mid ≤ hi → overwritten lo mid 0 (overwritten mid hi 0 pairs) ≡ overwritten lo hi 0 pairs
two_gaps lo mid hi pairs low high = twice lo mid mid hi 0 pairs low (omega arith) high

-- no pair has a page of a gap
lower_aside : (lo hi : ℕ) (pair : Pair) → All (OneSide lo hi) (pair_below lo pair)
lower_aside lo hi pair = elim (cases_lt pair.lo lo) [
  | inl some ↦ let test : nat_lt pair.lo lo ≡ true = lt-ltb pair.lo lo some in
      rw test (All-cons (OneSide lo hi) (record { lo = pair.lo; hi = min pair.hi lo; slot = pair.slot }) [] (inr (omega arith)) (All-nil (OneSide lo hi)))
  | inr none ↦ let test : nat_lt pair.lo lo ≡ false = le-ltb pair.lo lo none in rw test (All-nil (OneSide lo hi))
]

upper_aside : (lo hi : ℕ) (pair : Pair) → All (OneSide lo hi) (pair_from hi pair)
upper_aside lo hi pair = elim (cases_lt hi pair.hi) [
  | inl some ↦ let test : nat_lt hi pair.hi ≡ true = lt-ltb hi pair.hi some in
      rw test (All-cons (OneSide lo hi) (record { lo = max pair.lo hi; hi = pair.hi; slot = pair.slot }) [] (inl (omega arith)) (All-nil (OneSide lo hi)))
  | inr none ↦ let test : nat_lt hi pair.hi ≡ false = le-ltb hi pair.hi none in rw test (All-nil (OneSide lo hi))
]

each_aside : (lo hi : ℕ) (f : Pair → List Pair) → ((pair : Pair) → All (OneSide lo hi) (f pair)) → (pairs : List Pair) → All (OneSide lo hi) (flat_map f pairs)
each_aside lo hi f sides [] = All-nil (OneSide lo hi)
each_aside lo hi f sides (pair ∷ pairs) = All-append (OneSide lo hi) (f pair) (flat_map f pairs) (sides pair) (each_aside lo hi f sides pairs)

pub aside : (lo hi : ℕ) (pairs : List Pair) → All (OneSide lo hi) (overwritten lo hi 0 pairs)
aside lo hi pairs =
    All-append (OneSide lo hi) (flat_map (pair_below lo) pairs) (flat_map (pair_from hi) pairs)
    (each_aside lo hi (pair_below lo) (lower_aside lo hi) pairs) (each_aside lo hi (pair_from hi) (upper_aside lo hi) pairs)

-- the parts of pairs from a page on are in order
upper_order : (slots limit start from page : ℕ) (pairs : List Pair) → ArePairs slots limit start pairs → from ≤ max start page → page ≤ limit
    → ArePairs slots limit from (flat_map (pair_from page) pairs)
upper_order slots limit start from page [] are begins upto = omega (arith, are, begins, upto)
upper_order slots limit start from page (pair ∷ pairs) are begins upto = elim (cases_lt page pair.hi) [
  | inl some ↦ let test : nat_lt page pair.hi ≡ true = lt-ltb page pair.hi some in
      rw (test, upper_all slots limit pair.hi page pairs are.3 (omega (arith, some)))
      (omega (arith, are.0, begins), omega (arith, are.1, some), are.2, are.3)
  | inr none ↦ let away = upper_away page pair none in
      rw away (upper_order slots limit pair.hi from page pairs are.3 (omega (arith, are.0, are.1, begins)) upto)
]

-- and those around a gap
pub around_gap : (slots limit start lo hi : ℕ) (pairs : List Pair) → ArePairs slots limit start pairs → lo < hi → hi ≤ limit
    → ArePairs slots limit start (overwritten lo hi 0 pairs)
around_gap slots limit start lo hi [] are pages upto = are
around_gap slots limit start lo hi (pair ∷ pairs) are pages upto =
    by (around_gap slots limit pair.hi lo hi pairs are.3 pages upto) (cases_lt lo pair.hi) (cases_lt pair.lo lo)
  where
    by : ArePairs slots limit pair.hi (overwritten lo hi 0 pairs) → ((lo < pair.hi) ⊎ (pair.hi ≤ lo)) → ((pair.lo < lo) ⊎ (lo ≤ pair.lo))
        → ArePairs slots limit start (overwritten lo hi 0 (pair ∷ pairs))
    by later (inr below) side =
        let left = stays lo hi 0 pair pairs are.1 below pages in
        subst (λ (ps : List Pair). ArePairs slots limit start ps) (sym left) (are.0, are.1, are.2, later)
    by later (inl above) (inr whole) =
        let none = lower_none slots limit pair.hi lo pairs are.3 (omega (arith, above)) in
        let away = lower_away lo pair whole in
        rw (away, none) (upper_order slots limit start start hi (pair ∷ pairs) are (omega arith) upto)
    by later (inl above) (inl cut) =
        let none = lower_none slots limit pair.hi lo pairs are.3 (omega (arith, above)) in
        let test : nat_lt pair.lo lo ≡ true = lt-ltb pair.lo lo cut in
        rw (test, none)
        (are.0, omega (arith, are.1, cut), are.2, upper_order slots limit start (min pair.hi lo) hi (pair ∷ pairs) are (omega (arith, pages)) upto)
