-- For `SpanTree::store` and `rows_suffice`: sums over the numbers below a limit.
use Rattle.std.proofs.Common.{ℕ, zero, suc, ◌≡◌, ◌<◌, ◌≤◌, ◌+◌, cond, nat_eq, List, [], ◌∷◌, length, arith, inl, inr, refl}
use Rattle.std.proofs.lemmas.Bool.{cases_lt}
use Rattle.std.proofs.lemmas.Bool.Decides.{eqb_tells}
use Rattle.grace_core.specs.Core.{times}
use Rattle.node_slots.proofs.Counting.{times_first, one_if, none_if}
use Rattle.area_tree.specs.Rows.{sum_below}

-- what gives the same has the same sum
pub sum-same : (f g : ℕ → ℕ) (n : ℕ) → ((row : ℕ) → row < n → f row ≡ g row) → sum_below f n ≡ sum_below g n
unfolding sum_below
sum-same f g zero same = refl
sum-same f g (suc n) same =
    let rest = sum-same f g n (λ row below. same row (omega (arith, below))) in omega (arith, rest, same n (omega arith))

-- what gives at most as much has at most that sum
pub sum-le : (f g : ℕ → ℕ) (n : ℕ) → ((row : ℕ) → row < n → f row ≤ g row) → sum_below f n ≤ sum_below g n
unfolding sum_below
sum-le f g zero le = omega arith
sum-le f g (suc n) le = let rest = sum-le f g n (λ row below. le row (omega (arith, below))) in omega (arith, rest, le n (omega arith))

-- the sum of sums
pub sum-add : (f g : ℕ → ℕ) (n : ℕ) → sum_below (λ row. f row + g row) n ≡ sum_below f n + sum_below g n
unfolding sum_below
sum-add f g zero = refl
sum-add f g (suc n) = let rest = sum-add f g n in omega (arith, rest)

-- ones
pub sum-ones : (f : ℕ → ℕ) (n : ℕ) → ((row : ℕ) → row < n → f row ≡ 1) → sum_below f n ≡ n
unfolding sum_below
sum-ones f zero one = refl
sum-ones f (suc n) one = let rest = sum-ones f n (λ row below. one row (omega (arith, below))) in omega (arith, rest, one n (omega arith))

-- zeros
pub sum-zeros : (f : ℕ → ℕ) (n : ℕ) → ((row : ℕ) → row < n → f row ≡ 0) → sum_below f n ≡ 0
unfolding sum_below
sum-zeros f zero none = refl
sum-zeros f (suc n) none = let rest = sum-zeros f n (λ row below. none row (omega (arith, below))) in omega (arith, rest, none n (omega arith))

-- one number below the limit
sum_one : (x n : ℕ) → x < n → sum_below (λ row. cond (nat_eq x row) 1 0) n ≡ 1
unfolding sum_below
sum_one x zero below = absurd (omega arith)
sum_one x (suc n) below = elim (eqb_tells x n) [
  | inl same ↦
      let one = one_if x n same.1 in
      let rest = sum-zeros (λ row. cond (nat_eq x row) 1 0) n (λ row less. none_if x row (λ e. omega (arith, e, less, same.1))) in
      omega (arith, one, rest)
  | inr differ ↦
      let none = none_if x n differ.1 in
      let rest = sum_one x n (elim (cases_lt x n) [ inl less ↦ less | inr not_less ↦ absurd (differ.1 (omega arith)) ]) in
      omega (arith, none, rest)
]

-- how often each number stands in a list, where all are below the limit
pub sum-times : (rows : List ℕ) (n : ℕ) → ((row : ℕ) → 1 ≤ times row rows → row < n) → sum_below (λ row. times row rows) n ≡ length rows
sum-times [] n below = sum-zeros (λ row. times row []) n (λ row _. refl)
sum-times (x ∷ rows) n below =
    let first = sum_one x n (below x (let one = one_if x x refl in omega (arith, times_first x x rows, one))) in
    let rest = sum-times rows n (λ row some. below row (omega (arith, some, times_first row x rows))) in
    let parts = sum-same (λ row. times row (x ∷ rows)) (λ row. cond (nat_eq x row) 1 0 + times row rows) n (λ row _. times_first row x rows) in
    let both = sum-add (λ row. cond (nat_eq x row) 1 0) (λ row. times row rows) n in
    omega (arith, first, rest, parts, both)
