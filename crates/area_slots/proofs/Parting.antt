-- For `AreaSlots::seen`: the beginning of a list that passes a test, and the rest that does not.
use Rattle.std.proofs.Common.{◌≡◌, ◌≤◌, ℕ, Bool, true, false, not, suc, zero, List, [], ◌∷◌, length, filter, take, drop, refl, ap, arith}
use Rattle.std.specs.List.Sorted.{IsPartitionPoint}

-- what passes the test stands before the place, and the rest after it
pub record IsParted {X : Type 0} (p : X → Bool) (xs : List X) (place : ℕ) : Type 0 where
  pub before : take place xs ≡ filter p xs
  pub behind : drop place xs ≡ filter (λ x. not (p x)) xs

pub parted : {X : Type 0} (p : X → Bool) (xs : List X) (place : ℕ) → place ≤ length xs
    → IsPartitionPoint (λ x. p x ≡ true) (λ x. p x ≡ false) xs place → IsParted p xs place
parted p [] zero within is = record { before = refl; behind = refl }
parted p [] (suc place) within is = absurd (omega arith)
parted p (x ∷ xs) zero within is =
    let later : IsParted p xs zero = parted p xs zero (omega arith) ((λ k d low high. absurd (omega arith)), (λ k d low high. is.1 (suc k) d (omega arith) (omega arith))) in
    let fails : p x ≡ false = is.1 0 x (omega arith) (omega arith) in
    record { before = rw fails later.before; behind = rw fails (ap (λ rest. x ∷ rest) later.behind) }
parted p (x ∷ xs) (suc place) within is =
    let later : IsParted p xs place = parted p xs place (omega arith) (
      (λ k d low high. is.0 (suc k) d (omega arith) (omega arith)),
      (λ k d low high. is.1 (suc k) d (omega arith) (omega arith)),
    ) in
    let passes : p x ≡ true = is.0 0 x (omega arith) (omega arith) in
    record { before = rw passes (ap (λ rest. x ∷ rest) later.before); behind = rw passes later.behind }
