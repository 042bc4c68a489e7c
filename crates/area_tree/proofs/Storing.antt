-- For `AreaTree::remove`, `AreaTree::insert` and others: pairs in order with some pages overwritten.
use Rattle.std.proofs.Common.{ℕ, zero, suc, ◌≡◌, ◌<◌, ◌≤◌, ◌+◌, ◌-◌, min, max, true, false, nat_eq, List, [], ◌∷◌, ◌++◌, length, get_or, All, refl, ap, ◌∙◌, arith, ◌⊎◌, inl, inr}
use Rattle.std.specs.Prelude.{nat_lt}
use Rattle.std.specs.List.{flat_map, insert, remove}
use Rattle.std.proofs.lemmas.Bool.{lt-ltb, le-ltb, ne_eqb}
use Rattle.std.proofs.lemmas.List.Elements.{All-head, All-tail}
use Rattle.maple_node.specs.Trees.{Pair, pair_of}
use Rattle.maple_node.specs.Pairs.{pair_below, pair_from, overwritten}
use Rattle.area_tree.specs.SpanTrees.{ArePairs}
use Rattle.area_tree.proofs.Order.{each_pair}

-- what is left of a pair on one side of a page
lower_whole : (page : ℕ) (pair : Pair) → pair.lo < pair.hi → pair.hi ≤ page → pair_below page pair ≡ pair ∷ []
lower_whole page pair some upto =
    let test : nat_lt pair.lo page ≡ true = lt-ltb pair.lo page (omega arith) in
    let all : min pair.hi page ≡ pair.hi = omega arith in
    rw (test, all) refl

pub lower_away : (page : ℕ) (pair : Pair) → page ≤ pair.lo → pair_below page pair ≡ []
lower_away page pair begins =
    let test : nat_lt pair.lo page ≡ false = le-ltb pair.lo page begins in rw test refl

upper_whole : (page : ℕ) (pair : Pair) → pair.lo < pair.hi → page ≤ pair.lo → pair_from page pair ≡ pair ∷ []
upper_whole page pair some begins =
    let test : nat_lt page pair.hi ≡ true = lt-ltb page pair.hi (omega arith) in
    let all : max pair.lo page ≡ pair.lo = omega arith in
    rw (test, all) refl

pub upper_away : (page : ℕ) (pair : Pair) → pair.hi ≤ page → pair_from page pair ≡ []
upper_away page pair upto =
    let test : nat_lt page pair.hi ≡ false = le-ltb page pair.hi upto in rw test refl

-- and of pairs above it
pub lower_none : (slots limit start page : ℕ) (pairs : List Pair) → ArePairs slots limit start pairs → page ≤ start → flat_map (pair_below page) pairs ≡ []
lower_none slots limit start page [] are upto = refl
lower_none slots limit start page (pair ∷ pairs) are upto =
    ap (λ (ps : List Pair). ps ++ flat_map (pair_below page) pairs) (lower_away page pair (omega (arith, are.0)))
    ∙ lower_none slots limit pair.hi page pairs are.3 (omega (arith, are.0, are.1))

pub upper_all : (slots limit start page : ℕ) (pairs : List Pair) → ArePairs slots limit start pairs → page ≤ start → flat_map (pair_from page) pairs ≡ pairs
upper_all slots limit start page [] are upto = refl
upper_all slots limit start page (pair ∷ pairs) are upto =
    ap (λ (ps : List Pair). ps ++ flat_map (pair_from page) pairs) (upper_whole page pair are.1 (omega (arith, are.0)))
    ∙ ap (λ (ps : List Pair). pair ∷ ps) (upper_all slots limit pair.hi page pairs are.3 (omega (arith, are.0, are.1)))

-- a pair below the pages stays
pub stays : (lo hi word : ℕ) (pair : Pair) (pairs : List Pair) → pair.lo < pair.hi → pair.hi ≤ lo → lo < hi
    → overwritten lo hi word (pair ∷ pairs) ≡ pair ∷ overwritten lo hi word pairs
stays lo hi word pair pairs some upto pages =
    ap (λ (ps : List Pair). (ps ++ flat_map (pair_below lo) pairs) ++ (middle ++ (pair_from hi pair ++ flat_map (pair_from hi) pairs))) (lower_whole lo pair some upto)
    ∙ ap (λ (ps : List Pair). pair ∷ (flat_map (pair_below lo) pairs ++ (middle ++ (ps ++ flat_map (pair_from hi) pairs)))) (upper_away hi pair (omega arith))
  where
    middle : List Pair
    middle = pair_of lo (record { end = hi; word = word; gap = 0 })

-- a gap over exactly the pages of a pair takes it out
pub taken_out : (slots limit start : ℕ) (pairs : List Pair) (k : ℕ) (d : Pair) → ArePairs slots limit start pairs → k < length pairs
    → overwritten (get_or pairs k d).lo (get_or pairs k d).hi 0 pairs ≡ remove pairs k
taken_out slots limit start [] k d are below = absurd (omega (arith, below))
taken_out slots limit start (pair ∷ pairs) zero d are below =
    ap (λ (ps : List Pair). (ps ++ flat_map (pair_below pair.lo) pairs) ++ (pair_from pair.hi pair ++ flat_map (pair_from pair.hi) pairs)) (lower_away pair.lo pair (omega arith))
    ∙ ap (λ (ps : List Pair). ps ++ (pair_from pair.hi pair ++ flat_map (pair_from pair.hi) pairs)) (lower_none slots limit pair.hi pair.lo pairs are.3 (omega (arith, are.1)))
    ∙ ap (λ (ps : List Pair). ps ++ flat_map (pair_from pair.hi) pairs) (upper_away pair.hi pair (omega arith))
    ∙ upper_all slots limit pair.hi pair.hi pairs are.3 (omega arith)
taken_out slots limit start (pair ∷ pairs) (suc k) d are below =
    let there = each_pair slots limit pair.hi pairs are.3 k d (omega (arith, below)) in
    stays (get_or pairs k d).lo (get_or pairs k d).hi 0 pair pairs are.1 there.begins there.some
    ∙ ap (λ (ps : List Pair). pair ∷ ps) (taken_out slots limit pair.hi pairs k d are.3 (omega (arith, below)))

-- a pair has its pages on one side of these
abbrev pub OneSide : ℕ → ℕ → Pair → Type 0
OneSide lo hi pair = (hi ≤ pair.lo) ⊎ (pair.hi ≤ lo)

-- a slot for the pages below all pairs
put_first : (slots limit start lo hi slot : ℕ) (pairs : List Pair) → ArePairs slots limit start pairs → lo < hi → hi ≤ start
    → overwritten lo hi (slot + 1) pairs ≡ record { lo = lo; hi = hi; slot = slot } ∷ pairs
put_first slots limit start lo hi slot pairs are pages upto =
    let word : nat_eq (slot + 1) 0 ≡ false = ne_eqb (slot + 1) 0 (λ same. omega (arith, same)) in
    let same : slot + 1 - 1 ≡ slot = omega arith in
    rw (lower_none slots limit start lo pairs are (omega arith), upper_all slots limit start hi pairs are upto, word, same) refl

-- a slot for pages that no pair has is one more pair
pub put_in : (slots limit start lo hi slot : ℕ) (pairs : List Pair) → ArePairs slots limit start pairs → All (OneSide lo hi) pairs → lo < hi
    → (k : ℕ) × (k ≤ length pairs) × (overwritten lo hi (slot + 1) pairs ≡ insert pairs k (record { lo = lo; hi = hi; slot = slot }))
put_in slots limit start lo hi slot [] are sides pages = (zero, omega arith, put_first slots hi hi lo hi slot [] (omega arith) pages (omega arith))
put_in slots limit start lo hi slot (pair ∷ pairs) are sides pages =
    by (put_in slots limit pair.hi lo hi slot pairs are.3 (All-tail (OneSide lo hi) pair pairs sides) pages) (All-head (OneSide lo hi) pair pairs sides)
  where
    by : (k : ℕ) × (k ≤ length pairs) × (overwritten lo hi (slot + 1) pairs ≡ insert pairs k (record { lo = lo; hi = hi; slot = slot }))
        → OneSide lo hi pair → (k : ℕ) × (k ≤ length (pair ∷ pairs)) × (overwritten lo hi (slot + 1) (pair ∷ pairs) ≡ insert (pair ∷ pairs) k (record { lo = lo; hi = hi; slot = slot }))
    by later (inl above) = (zero, omega arith, put_first slots limit pair.lo lo hi slot (pair ∷ pairs) (omega arith, are.1, are.2, are.3) pages above)
    by later (inr below) =
        (suc later.0, omega (arith, later.1), stays lo hi (slot + 1) pair pairs are.1 below pages ∙ ap (λ (ps : List Pair). pair ∷ ps) later.2)
