-- For `GraceState::apply`: the tree up to which all readers are cleared.
use Rattle.std.proofs.Common.{ℕ, zero, suc, ◌≡◌, ◌<◌, ◌≤◌, true, false, min, List, [], ◌∷◌, ◌++◌, length, refl, sym, subst, arith, inl, inr}
use Rattle.std.proofs.lemmas.Bool.{cases_Bool, cases_lt, cond-true, cond-false, both_ways}
use Rattle.std.proofs.lemmas.List.{get_or_past, get_or_append_left}
use Rattle.grace_core.specs.declared.clearing.Clearing.{Clearing}
use Rattle.grace_core.specs.Core.{clearing_at, no_clearing, Exists}
use Rattle.grace_core.specs.Steps.{cleared_up_to}

-- a reader that exists was made
pub exists_within : (clearings : List Clearing) (reader : ℕ) → Exists clearings reader → reader < length clearings
exists_within clearings reader exists = elim (cases_lt reader (length clearings)) [
  | inl within ↦ within
  | inr past ↦ absurd (let past_all = get_or_past clearings reader no_clearing past in let e : true ≡ false = subst (λ (c : Clearing). c.joined ≡ false) past_all exists in cc)
]

-- it is no more than the number
pub least_number : (number : ℕ) (clearings : List Clearing) → cleared_up_to number clearings ≤ number
least_number number [] = omega arith
least_number number (clearing ∷ clearings) = elim (cases_Bool clearing.joined) [
  | inl gone ↦ rw (cond-true {A = ℕ} clearing.joined (cleared_up_to number clearings) (min clearing.cleared (cleared_up_to number clearings)) gone) (least_number number clearings)
  | inr here ↦ rw (cond-false {A = ℕ} clearing.joined (cleared_up_to number clearings) (min clearing.cleared (cleared_up_to number clearings)) here)
      (omega (arith, least_number number clearings))
]

-- each reader that exists is cleared up to it
pub least_cleared : (number : ℕ) (clearings : List Clearing) (reader : ℕ) → Exists clearings reader
    → cleared_up_to number clearings ≤ (clearing_at clearings reader).cleared
least_cleared number [] reader exists = absurd (both_ways true exists refl)
least_cleared number (clearing ∷ clearings) zero exists =
    rw (cond-false {A = ℕ} clearing.joined (cleared_up_to number clearings) (min clearing.cleared (cleared_up_to number clearings)) exists) (omega arith)
least_cleared number (clearing ∷ clearings) (suc reader) exists = elim (cases_Bool clearing.joined) [
  | inl gone ↦ rw (cond-true {A = ℕ} clearing.joined (cleared_up_to number clearings) (min clearing.cleared (cleared_up_to number clearings)) gone)
      (least_cleared number clearings reader exists)
  | inr here ↦ rw (cond-false {A = ℕ} clearing.joined (cleared_up_to number clearings) (min clearing.cleared (cleared_up_to number clearings)) here)
      (omega (arith, least_cleared number clearings reader exists))
]

-- and it is the greatest such number
pub least_greatest : (n number : ℕ) (clearings : List Clearing) → n ≤ number
    → ((reader : ℕ) → Exists clearings reader → n ≤ (clearing_at clearings reader).cleared) → n ≤ cleared_up_to number clearings
least_greatest n number [] below each = below
least_greatest n number (clearing ∷ clearings) below each = elim (cases_Bool clearing.joined) [
  | inl gone ↦ rw (cond-true {A = ℕ} clearing.joined (cleared_up_to number clearings) (min clearing.cleared (cleared_up_to number clearings)) gone)
      (least_greatest n number clearings below (λ reader. each (suc reader)))
  | inr here ↦ rw (cond-false {A = ℕ} clearing.joined (cleared_up_to number clearings) (min clearing.cleared (cleared_up_to number clearings)) here)
      (omega (arith, least_greatest n number clearings below (λ reader. each (suc reader)), each zero here))
]

-- a reader that exists stays as it is where one more is made
pub push_before : (clearings : List Clearing) (clearing : Clearing) (reader : ℕ) → Exists clearings reader
    → clearing_at (clearings ++ clearing ∷ []) reader ≡ clearing_at clearings reader
push_before clearings clearing reader exists = get_or_append_left clearings (clearing ∷ []) no_clearing reader (exists_within clearings reader exists)

-- one reader more makes it no greater
pub least_push : (number : ℕ) (clearings : List Clearing) (clearing : Clearing) → cleared_up_to number (clearings ++ clearing ∷ []) ≤ cleared_up_to number clearings
least_push number clearings clearing = least_greatest (cleared_up_to number (clearings ++ clearing ∷ [])) number clearings
    (least_number number (clearings ++ clearing ∷ []))
    (λ reader exists. subst (λ (c : Clearing). cleared_up_to number (clearings ++ clearing ∷ []) ≤ c.cleared) (push_before clearings clearing reader exists)
    (least_cleared number (clearings ++ clearing ∷ []) reader (subst (λ (c : Clearing). c.joined ≡ false) (sym (push_before clearings clearing reader exists)) exists)))
