-- For `AreaTree::shrink` and `AreaTree::grow`: pairs in order of which one gets other pages.
use Rattle.std.proofs.Common.{ℕ, zero, suc, ◌≡◌, ◌<◌, ◌≤◌, ◌+◌, ◌-◌, min, max, true, false, nat_eq, List, [], ◌∷◌, ◌++◌, length, get_or, set, All, refl, ap, ◌∙◌, arith, inl, inr}
use Rattle.std.specs.Prelude.{nat_lt}
use Rattle.std.specs.List.{flat_map}
use Rattle.std.proofs.lemmas.Bool.{lt-ltb, ne_eqb}
use Rattle.std.proofs.lemmas.List.Elements.{All-cons, All-head, All-tail, All-weaker}
use Rattle.maple_node.specs.Trees.{Pair}
use Rattle.maple_node.specs.Pairs.{pair_below, pair_from, overwritten}
use Rattle.area_tree.specs.SpanTrees.{ArePairs}
use Rattle.area_tree.proofs.Order.{IsPair, each_pair}
use Rattle.area_tree.proofs.Storing.{OneSide, lower_away, upper_away, lower_none, upper_all, stays}

-- a pair with other pages
abbrev pub paged : ℕ → ℕ → Pair → Pair
paged lo hi pair = record { lo = lo; hi = hi; slot = pair.slot }

-- what is left of a pair that has pages on both sides of a page
lower_cut : (page : ℕ) (pair : Pair) → pair.lo < page → page < pair.hi → pair_below page pair ≡ paged pair.lo page pair ∷ []
lower_cut page pair begins ends =
    let test : nat_lt pair.lo page ≡ true = lt-ltb pair.lo page begins in
    let all : min pair.hi page ≡ page = omega arith in
    rw (test, all) refl

upper_cut : (page : ℕ) (pair : Pair) → pair.lo < page → page < pair.hi → pair_from page pair ≡ paged page pair.hi pair ∷ []
upper_cut page pair begins ends =
    let test : nat_lt page pair.hi ≡ true = lt-ltb page pair.hi ends in
    let all : max pair.lo page ≡ page = omega arith in
    rw (test, all) refl

-- a gap over the last pages of a pair
pub shrunk_above : (slots limit start : ℕ) (pairs : List Pair) (k : ℕ) (d : Pair) (hi : ℕ) → ArePairs slots limit start pairs → k < length pairs
    → (get_or pairs k d).lo < hi → hi < (get_or pairs k d).hi
    → overwritten hi (get_or pairs k d).hi 0 pairs ≡ set pairs k (paged (get_or pairs k d).lo hi (get_or pairs k d))
shrunk_above slots limit start [] k d hi are below begins ends = absurd (omega (arith, below))
shrunk_above slots limit start (pair ∷ pairs) zero d hi are below begins ends =
    ap (λ (ps : List Pair). (ps ++ flat_map (pair_below hi) pairs) ++ (pair_from pair.hi pair ++ flat_map (pair_from pair.hi) pairs)) (lower_cut hi pair begins ends)
    ∙ ap (λ (ps : List Pair). paged pair.lo hi pair ∷ (ps ++ (pair_from pair.hi pair ++ flat_map (pair_from pair.hi) pairs)))
    (lower_none slots limit pair.hi hi pairs are.3 (omega (arith, ends)))
    ∙ ap (λ (ps : List Pair). paged pair.lo hi pair ∷ (ps ++ flat_map (pair_from pair.hi) pairs)) (upper_away pair.hi pair (omega arith))
    ∙ ap (λ (ps : List Pair). paged pair.lo hi pair ∷ ps) (upper_all slots limit pair.hi pair.hi pairs are.3 (omega arith))
shrunk_above slots limit start (pair ∷ pairs) (suc k) d hi are below begins ends =
    let there = each_pair slots limit pair.hi pairs are.3 k d (omega (arith, below)) in
    stays hi (get_or pairs k d).hi 0 pair pairs are.1 (omega (arith, there.begins, begins)) ends
    ∙ ap (λ (ps : List Pair). pair ∷ ps) (shrunk_above slots limit pair.hi pairs k d hi are.3 (omega (arith, below)) begins ends)

-- a gap over its first pages
pub shrunk_below : (slots limit start : ℕ) (pairs : List Pair) (k : ℕ) (d : Pair) (lo : ℕ) → ArePairs slots limit start pairs → k < length pairs
    → (get_or pairs k d).lo < lo → lo < (get_or pairs k d).hi
    → overwritten (get_or pairs k d).lo lo 0 pairs ≡ set pairs k (paged lo (get_or pairs k d).hi (get_or pairs k d))
shrunk_below slots limit start [] k d lo are below begins ends = absurd (omega (arith, below))
shrunk_below slots limit start (pair ∷ pairs) zero d lo are below begins ends =
    ap (λ (ps : List Pair). (ps ++ flat_map (pair_below pair.lo) pairs) ++ (pair_from lo pair ++ flat_map (pair_from lo) pairs)) (lower_away pair.lo pair (omega arith))
    ∙ ap (λ (ps : List Pair). ps ++ (pair_from lo pair ++ flat_map (pair_from lo) pairs)) (lower_none slots limit pair.hi pair.lo pairs are.3 (omega (arith, begins, ends)))
    ∙ ap (λ (ps : List Pair). ps ++ flat_map (pair_from lo) pairs) (upper_cut lo pair begins ends)
    ∙ ap (λ (ps : List Pair). paged lo pair.hi pair ∷ ps) (upper_all slots limit pair.hi lo pairs are.3 (omega (arith, ends)))
shrunk_below slots limit start (pair ∷ pairs) (suc k) d lo are below begins ends =
    let there = each_pair slots limit pair.hi pairs are.3 k d (omega (arith, below)) in
    stays (get_or pairs k d).lo lo 0 pair pairs are.1 there.begins begins
    ∙ ap (λ (ps : List Pair). pair ∷ ps) (shrunk_below slots limit pair.hi pairs k d lo are.3 (omega (arith, below)) begins ends)

-- pairs from a page on that all begin above other pages begin where those end
from_above : (slots limit start hi : ℕ) (pairs : List Pair) → ArePairs slots limit start pairs → All (OneSide start hi) pairs → hi ≤ limit → ArePairs slots limit hi pairs
from_above slots limit start hi [] are sides upto = upto
from_above slots limit start hi (pair ∷ pairs) are sides upto = by (All-head (OneSide start hi) pair pairs sides)
  where
    by : OneSide start hi pair → ArePairs slots limit hi (pair ∷ pairs)
    by (inl above) = (above, are.1, are.2, are.3)
    by (inr below) = absurd (omega (arith, below, are.0, are.1))

-- a slot over the pages of its pair and free ones beside them
pub grown : (slots limit start : ℕ) (pairs : List Pair) (k : ℕ) (d : Pair) (lo hi : ℕ) → ArePairs slots limit start pairs → k < length pairs
    → lo ≤ (get_or pairs k d).lo → (get_or pairs k d).hi ≤ hi → hi ≤ limit
    → All (OneSide lo (get_or pairs k d).lo) pairs → All (OneSide (get_or pairs k d).hi hi) pairs
    → overwritten lo hi ((get_or pairs k d).slot + 1) pairs ≡ set pairs k (paged lo hi (get_or pairs k d))
grown slots limit start [] k d lo hi are below under over upto low high = absurd (omega (arith, below))
grown slots limit start (pair ∷ pairs) zero d lo hi are below under over upto low high =
    let word : nat_eq (pair.slot + 1) 0 ≡ false = ne_eqb (pair.slot + 1) 0 (λ same. omega (arith, same)) in
    let same : pair.slot + 1 - 1 ≡ pair.slot = omega arith in
    let later = from_above slots limit pair.hi hi pairs are.3 (All-tail (OneSide pair.hi hi) pair pairs high) upto in
    rw (
      lower_away lo pair under,
      lower_none slots limit pair.hi lo pairs are.3 (omega (arith, under, are.1)),
      upper_away hi pair over,
      upper_all slots limit hi hi pairs later (omega arith),
      word,
      same,
    ) refl
grown slots limit start (pair ∷ pairs) (suc k) d lo hi are below under over upto low high =
    let there = each_pair slots limit pair.hi pairs are.3 k d (omega (arith, below)) in
    stays lo hi ((get_or pairs k d).slot + 1) pair pairs are.1
    (by there (All-head (OneSide lo (get_or pairs k d).lo) pair pairs low)) (omega (arith, there.some, under, over))
    ∙ ap (λ (ps : List Pair). pair ∷ ps)
    (grown slots limit pair.hi pairs k d lo hi are.3 (omega (arith, below)) under over upto
    (All-tail (OneSide lo (get_or pairs k d).lo) pair pairs low) (All-tail (OneSide (get_or pairs k d).hi hi) pair pairs high))
  where
    by : IsPair slots limit pair.hi (get_or pairs k d) → OneSide lo (get_or pairs k d).lo pair → pair.hi ≤ lo
    by there (inl above) = absurd (omega (arith, above, are.1, there.begins))
    by there (inr before) = before

-- where a pair begins or ends, each pair is on one side
pub begin_sides : (slots limit start : ℕ) (pairs : List Pair) (k : ℕ) (d : Pair) → ArePairs slots limit start pairs → k < length pairs
    → All (OneSide (get_or pairs k d).lo (get_or pairs k d).lo) pairs
begin_sides slots limit start [] k d are below = absurd (omega (arith, below))
begin_sides slots limit start (pair ∷ pairs) zero d are below =
    All-cons (OneSide pair.lo pair.lo) pair pairs (inl (omega arith))
    (All-weaker (IsPair slots limit pair.hi) (OneSide pair.lo pair.lo) (λ p is. inl (omega (arith, is.begins, are.1))) pairs (each_pair slots limit pair.hi pairs are.3))
begin_sides slots limit start (pair ∷ pairs) (suc k) d are below =
    let there = each_pair slots limit pair.hi pairs are.3 k d (omega (arith, below)) in
    All-cons (OneSide (get_or pairs k d).lo (get_or pairs k d).lo) pair pairs (inr there.begins)
    (begin_sides slots limit pair.hi pairs k d are.3 (omega (arith, below)))

pub end_sides : (slots limit start : ℕ) (pairs : List Pair) (k : ℕ) (d : Pair) → ArePairs slots limit start pairs → k < length pairs
    → All (OneSide (get_or pairs k d).hi (get_or pairs k d).hi) pairs
end_sides slots limit start [] k d are below = absurd (omega (arith, below))
end_sides slots limit start (pair ∷ pairs) zero d are below =
    All-cons (OneSide pair.hi pair.hi) pair pairs (inr (omega arith))
    (All-weaker (IsPair slots limit pair.hi) (OneSide pair.hi pair.hi) (λ p is. inl is.begins) pairs (each_pair slots limit pair.hi pairs are.3))
end_sides slots limit start (pair ∷ pairs) (suc k) d are below =
    let there = each_pair slots limit pair.hi pairs are.3 k d (omega (arith, below)) in
    All-cons (OneSide (get_or pairs k d).hi (get_or pairs k d).hi) pair pairs (inr (omega (arith, there.begins, there.some)))
    (end_sides slots limit pair.hi pairs k d are.3 (omega (arith, below)))
