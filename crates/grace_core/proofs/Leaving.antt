-- For `GraceState::apply`: which rows a publish leaves out.
use Rattle.std.proofs.Common.{ℕ, zero, suc, ◌≡◌, ◌<◌, ◌≤◌, ◌+◌, ◌∙◌, ◌⊎◌, cond, true, false, not, ◌&&◌, List, [], ◌∷◌, length, set, refl, sym, ap, subst, arith, inl, inr}
use Rattle.std.proofs.lemmas.Bool.{cases_lt, cond_both, cond-true, cond-false, and_from, and_left, not_from_false}
use Rattle.std.proofs.lemmas.List.{get_or_past, get_or-set_same, get_or-set_other}
use Rattle.grace_core.specs.Core.{GraceTreeView, has_row, since_at}
use Rattle.grace_core.specs.Steps.{since_from}

-- there is a number for each row
pub length-since_from : (row : ℕ) (old new : GraceTreeView) (since : List ℕ) → length (since_from row old new since) ≡ length since
length-since_from row old new [] = refl
length-since_from row old new (one ∷ others) = ap suc (length-since_from (row + 1) old new others)

-- whether the new tree leaves out a row says since which tree it waits
pub since_is : (row : ℕ) (old new : GraceTreeView) (since : List ℕ) (k at : ℕ) → at ≡ row + k → k < length since
    → since_at (since_from row old new since) k ≡ cond (has_row old at && not (has_row new at)) new.number (since_at since k)
since_is row old new [] k at same within = absurd (omega arith)
since_is row old new (one ∷ others) zero at same within =
    let e : row ≡ at = omega arith in
    subst (λ n. cond (has_row old row && not (has_row new row)) new.number one ≡ cond (has_row old n && not (has_row new n)) new.number one) e refl
since_is row old new (one ∷ others) (suc k) at same within = since_is (row + 1) old new others k at (omega arith) (omega arith)

-- a row that the new tree leaves out waits since it
pub since_left : (old new : GraceTreeView) (since : List ℕ) (row : ℕ) → row < length since → has_row old row ≡ true → has_row new row ≡ false
    → since_at (since_from 0 old new since) row ≡ new.number
since_left old new since row within here out =
    since_is 0 old new since row row (omega arith) within
    ∙ cond-true {A = ℕ} (has_row old row && not (has_row new row)) new.number (since_at since row)
    (and_from (has_row old row) (not (has_row new row)) here (not_from_false (has_row new row) out))

-- a row that the old tree has not waits since the tree that it did
pub since_same : (old new : GraceTreeView) (since : List ℕ) (row : ℕ) → has_row old row ≡ false
    → since_at (since_from 0 old new since) row ≡ since_at since row
since_same old new since row out = elim (cases_lt row (length since)) [
  | inl within ↦ since_is 0 old new since row row (omega arith) within
      ∙ cond-false {A = ℕ} (has_row old row && not (has_row new row)) new.number (since_at since row) (and_left (has_row old row) (not (has_row new row)) out)
  | inr past ↦ get_or_past (since_from 0 old new since) row 0 (omega (arith, past, length-since_from 0 old new since)) ∙ sym (get_or_past since row 0 past)
]

-- no row waits since a tree after the new one
pub since_most : (row : ℕ) (old new : GraceTreeView) (since : List ℕ) → ((k : ℕ) → since_at since k ≤ new.number)
    → (k : ℕ) → since_at (since_from row old new since) k ≤ new.number
since_most row old new [] most k = most k
since_most row old new (one ∷ others) most zero =
    cond_both (has_row old row && not (has_row new row)) new.number one (λ n. n ≤ new.number) (λ _. omega arith) (λ _. most zero)
since_most row old new (one ∷ others) most (suc k) = since_most (row + 1) old new others (λ j. most (suc j)) k

-- numbers that agree with those of a publish up to a row agree one row further
module _ (old new : GraceTreeView) (first now : List ℕ) (row : ℕ) (within : row < length first) (sized : length now ≡ length first)
    (done : (k : ℕ) → k < row → since_at now k ≡ since_at (since_from 0 old new first) k)
    (left : (k : ℕ) → row ≤ k → since_at now k ≡ since_at first k) where
  -- the rows before it do
  before_row : (k : ℕ) → k < row + 1 → (k ≡ row) ⊎ (k < row)
  before_row k below = elim (cases_lt k row) [ inl less ↦ inr less | inr more ↦ inl (omega arith) ]

  -- where the new tree leaves the row out
  pub left_more : (has_row old row && not (has_row new row)) ≡ true → (k : ℕ) → k < row + 1
      → since_at (set now row new.number) k ≡ since_at (since_from 0 old new first) k
  left_more out k below = elim (before_row k below) [
    | inl here ↦ subst (λ n. since_at (set now row new.number) n ≡ since_at (since_from 0 old new first) n) (sym here)
        (get_or-set_same now row new.number 0 (omega (arith, within, sized))
        ∙ sym (since_is 0 old new first row row (omega arith) within ∙ cond-true {A = ℕ} (has_row old row && not (has_row new row)) new.number (since_at first row) out))
    | inr less ↦ get_or-set_other now row k new.number 0 (λ e. absurd (omega (arith, e, less))) ∙ done k less
  ]

  -- and the rows after it stay
  pub left_after : (k : ℕ) → row + 1 ≤ k → since_at (set now row new.number) k ≡ since_at first k
  left_after k after = get_or-set_other now row k new.number 0 (λ e. absurd (omega (arith, e, after))) ∙ left k (omega arith)

  -- where it does not
  pub same_more : (has_row old row && not (has_row new row)) ≡ false → (k : ℕ) → k < row + 1
      → since_at now k ≡ since_at (since_from 0 old new first) k
  same_more stays k below = elim (before_row k below) [
    | inl here ↦ subst (λ n. since_at now n ≡ since_at (since_from 0 old new first) n) (sym here)
        (left row (omega arith)
        ∙ sym (since_is 0 old new first row row (omega arith) within ∙ cond-false {A = ℕ} (has_row old row && not (has_row new row)) new.number (since_at first row) stays))
    | inr less ↦ done k less
  ]
