-- For searches: pairs of one page each, one after the other.
use Rattle.std.proofs.Common.{ℕ, zero, suc, ◌≡◌, ◌<◌, ◌≤◌, ◌+◌, ◌-◌, ◌*◌, min, true, false, nat_eq, List, [], ◌∷◌, ◌++◌, length, refl, sym, ap, subst, ◌∙◌, arith, add-one, length-append}
use Rattle.std.specs.Prelude.{nat_lt}
use Rattle.std.specs.List.{flat_map}
use Rattle.std.proofs.lemmas.Bool.Decides.{nat_tests}
use Rattle.std.proofs.lemmas.Grind.{flat_map-append}
use Rattle.maple_node.specs.Trees.{Pair, pair_of}
use Rattle.maple_node.specs.Pairs.{pair_below, pair_from, overwritten}
use Rattle.area_tree.specs.SpanTrees.{SpanView}
use Rattle.tree_tests.specs.Rows.{row_pairs, IsRow}

-- all pairs lie below the page of the next
one_lower : (count page : ℕ) → 16 + 2 * count + 1 ≤ page → (let pair : Pair = record { lo = 16 + 2 * count; hi = 16 + 2 * count + 1; slot = count } in
    pair_below page pair ≡ pair ∷ [])
one_lower count page below =
    let test : nat_lt (16 + 2 * count) page ≡ true = grind (arith, nat_tests) in
    let whole : min (16 + 2 * count + 1) page ≡ 16 + 2 * count + 1 = omega arith in
    rw (test, whole) refl

one_upper : (count page : ℕ) → 16 + 2 * count + 1 ≤ page
    → pair_from page (record { lo = 16 + 2 * count; hi = 16 + 2 * count + 1; slot = count }) ≡ []
one_upper count page below =
    let test : nat_lt page (16 + 2 * count + 1) ≡ false = grind (arith, nat_tests) in
    rw test refl

all_lower : (count page : ℕ) → 16 + 2 * count ≤ page + 1 → flat_map (pair_below page) (row_pairs count) ≡ row_pairs count
all_lower zero page below = refl
all_lower (suc count) page below =
    let pair : Pair = record { lo = 16 + 2 * count; hi = 16 + 2 * count + 1; slot = count } in
    flat_map-append (pair_below page) (row_pairs count) (pair ∷ [])
    ∙ ap (λ (ps : List Pair). ps ++ (pair_below page pair ++ [])) (all_lower count page (omega arith))
    ∙ ap (λ (ps : List Pair). row_pairs count ++ (ps ++ [])) (one_lower count page (omega arith))

all_upper : (count page : ℕ) → 16 + 2 * count ≤ page + 1 → flat_map (pair_from page) (row_pairs count) ≡ []
all_upper zero page below = refl
all_upper (suc count) page below =
    let pair : Pair = record { lo = 16 + 2 * count; hi = 16 + 2 * count + 1; slot = count } in
    flat_map-append (pair_from page) (row_pairs count) (pair ∷ [])
    ∙ ap (λ (ps : List Pair). ps ++ (pair_from page pair ++ [])) (all_upper count page (omega arith))
    ∙ ap (λ (ps : List Pair). ps ++ []) (one_upper count page (omega arith))

row_more : (count : ℕ) → overwritten (16 + 2 * count) (16 + 2 * count + 1) (count + 1) (row_pairs count) ≡ row_pairs (count + 1)
row_more count =
    let lo = 16 + 2 * count in
    let hi = 16 + 2 * count + 1 in
    let pair : Pair = record { lo = lo; hi = hi; slot = count } in
    let test : nat_eq (count + 1) 0 ≡ false = grind (arith, nat_tests) in
    let less : (count + 1) - 1 ≡ count = omega arith in
    let entry = pair_of lo (record { end = hi; word = count + 1; gap = 0 }) in
    let is : entry ≡ pair ∷ [] = rw (test, less) refl in
    ap (λ (ps : List Pair). ps ++ (entry ++ flat_map (pair_from hi) (row_pairs count))) (all_lower count lo (omega arith))
    ∙ ap (λ (ps : List Pair). row_pairs count ++ (entry ++ ps)) (all_upper count hi (omega arith))
    ∙ ap (λ (ps : List Pair). row_pairs count ++ (ps ++ [])) is
    ∙ ap row_pairs (sym (add-one count))

length-row : (count : ℕ) → length (row_pairs count) ≡ count
length-row zero = refl
length-row (suc count) =
    let pair : Pair = record { lo = 16 + 2 * count; hi = 16 + 2 * count + 1; slot = count } in
    let rest = length-row count in
    let joined = length-append (row_pairs count) (pair ∷ []) in
    omega arith

-- one pair more
pub next_pairs : (tree : SpanView) (count : ℕ) → IsRow tree count
    → overwritten (16 + 2 * count) (16 + 2 * count + 1) (count + 1) tree.pairs ≡ row_pairs (count + 1)
next_pairs tree count is =
    ap (overwritten (16 + 2 * count) (16 + 2 * count + 1) (count + 1)) is.pairs_are ∙ row_more count

pub few_pairs : (tree : SpanView) (count : ℕ) → IsRow tree count → count < 17
    → length (overwritten (16 + 2 * count) (16 + 2 * count + 1) (count + 1) tree.pairs) ≤ tree.areas
few_pairs tree count is few =
    let told = ap (λ (ps : List Pair). length ps) (next_pairs tree count is) in
    let long = length-row (count + 1) in
    let areas = is.wide.areas in
    omega arith

pub next_row : (old new : SpanView) (count free : ℕ) → IsRow old count
    → new ≡ record old { pairs = overwritten (16 + 2 * count) (16 + 2 * count + 1) (count + 1) old.pairs; changed = true; free = free } → IsRow new (count + 1)
next_row old new count free is told =
    let Goal : SpanView → Type 0 = λ v. IsRow v (count + 1) in
    subst Goal (sym told) (record {
      wide = record { areas = is.wide.areas; limit = is.wide.limit; number = is.wide.number };
      roomy = is.roomy;
      pairs_are = next_pairs old count is;
    })
