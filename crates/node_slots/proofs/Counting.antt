-- For `first_free`, `NodeTable::scan` and others: how often a row is listed.
use Rattle.std.proofs.Common.{ℕ, ◌≡◌, ◌≢◌, ◌≤◌, ◌+◌, cond, nat_eq, List, [], ◌∷◌, ◌++◌, arith, inl, inr}
use Rattle.std.proofs.lemmas.Bool.{cond-true, cond-false, cases_lt}
use Rattle.std.proofs.lemmas.Bool.Decides.{eqb_tells}
use Rattle.std.proofs.lemmas.List.Sums.{sum_by-cons, sum_by_push}
use Rattle.grace_core.specs.Core.{times}
use Rattle.node_slots.specs.declared.left.Left.{Left}
use Rattle.node_slots.specs.Kept.{left_numbers}
use Rattle.node_slots.specs.Opening.{IsFreeFrom}

-- a row added first, which is this row or another
pub times_first : (row other : ℕ) (rows : List ℕ) → times row (other ∷ rows) ≡ cond (nat_eq other row) 1 0 + times row rows
times_first row other rows = sum_by-cons (λ n. cond (nat_eq n row) 1 0) other rows

-- a row at the end
pub times_last : (row other : ℕ) (rows : List ℕ) → times row (rows ++ other ∷ []) ≡ times row rows + cond (nat_eq other row) 1 0
times_last row other rows = sum_by_push (λ n. cond (nat_eq n row) 1 0) rows other

-- whether two rows are one, as a number
pub one_if : (other row : ℕ) → other ≡ row → ◌≡◌ {A = ℕ} (cond (nat_eq other row) 1 0) 1
one_if other row same = elim (eqb_tells other row) [
  | inl here ↦ cond-true {A = ℕ} (nat_eq other row) 1 0 here.0
  | inr apart ↦ absurd (apart.1 same)
]

pub none_if : (other row : ℕ) → other ≢ row → ◌≡◌ {A = ℕ} (cond (nat_eq other row) 1 0) 0
none_if other row differ = elim (eqb_tells other row) [
  | inl here ↦ absurd (differ here.1)
  | inr apart ↦ cond-false {A = ℕ} (nat_eq other row) 1 0 apart.0
]

-- the rows from one number on have the next one too
pub free_more : (start end : ℕ) (rows : List ℕ) → start ≤ end → IsFreeFrom start end rows → IsFreeFrom start (end + 1) (end ∷ rows)
free_more start end rows order free =
    let count : (row : ℕ) → times row (end ∷ rows) ≡ cond (nat_eq end row) 1 0 + times row rows = λ row. times_first row end rows in
    record {
      once = λ row. elim (eqb_tells end row) [
        | inl here ↦
            let one = one_if end row here.1 in
            elim (cases_lt 0 (times row rows)) [
              | inl some ↦ let low = free.below row some in absurd (omega (arith, low, here.1))
              | inr none ↦ omega (arith, count row, one, none)
            ]
        | inr apart ↦ let none = none_if end row apart.1 in omega (arith, count row, none, free.once row)
      ];
      inside = λ row some. elim (eqb_tells end row) [
        | inl here ↦ omega (arith, order, here.1)
        | inr apart ↦ free.inside row (let none = none_if end row apart.1 in omega (arith, count row, none, some))
      ];
      below = λ row some. elim (eqb_tells end row) [
        | inl here ↦ omega (arith, here.1)
        | inr apart ↦ let low = free.below row (let none = none_if end row apart.1 in omega (arith, count row, none, some)) in omega (arith, low)
      ];
      all = λ row above low. elim (eqb_tells end row) [
        | inl here ↦ let one = one_if end row here.1 in omega (arith, count row, one)
        | inr apart ↦ let more = free.all row above
            (let differ = apart.1 in elim (cases_lt row end) [ inl less ↦ less | inr not_less ↦ absurd (differ (omega arith)) ]) in
            omega (arith, count row, more)
      ];
    }

-- no row at first
pub free_none : (start : ℕ) → IsFreeFrom start start []
free_none start = record {
  once = λ row. omega arith;
  inside = λ row some. absurd (omega arith);
  below = λ row some. absurd (omega arith);
  all = λ row above below. absurd (omega arith);
}

-- the first of the rows that were left
pub first_gone : (row : ℕ) (one : Left) (rest : List Left) → one.row.0 ≡ row → 1 ≤ times row (left_numbers (one ∷ rest))
first_gone row one rest here = let found = one_if one.row.0 row here in omega (arith, found, times_first row one.row.0 (left_numbers rest))
