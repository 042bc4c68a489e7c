-- For `begins_below`, `ends_by` and `last_of`: the beginning of a list that passes a test.
use Rattle.std.proofs.Common.{◌≡◌, ◌≤◌, ℕ, Bool, true, false, ◌-◌, Some, None, slice_get, List, [], ◌∷◌, length, refl, ap, ◌∙◌, sym, arith}
use Rattle.std.specs.List.{prefix_len, last_or}
use Rattle.std.specs.List.Sorted.{IsPartitionPoint}
use Rattle.std.proofs.lemmas.List.Sums.{prefix_len_is}

-- the place that a binary search gives is the length of that beginning
pub prefix_from_partition : {X : Type 0} (p : X → Bool) (xs : List X) (place : ℕ) → place ≤ length xs
    → IsPartitionPoint (λ x. p x ≡ true) (λ x. p x ≡ false) xs place → place ≡ prefix_len p xs
prefix_from_partition p [] place within is = omega arith
prefix_from_partition p (x ∷ xs) place within is = sym (prefix_len_is p (x ∷ xs) place x within
    (λ k below. is.0 k x (omega arith) below) (λ less. is.1 place x (omega arith) less))

last_behind : {A : Type 0} (x : A) (xs : List A) → slice_get (x ∷ xs) (length xs) ≡ last_or (Some x) xs
last_behind x [] = refl
last_behind x (y ∷ ys) = last_behind y ys

-- the last element
pub last_is : {A : Type 0} (xs : List A) → slice_get xs (length xs - 1) ≡ last_or None xs
last_is [] = refl
last_is (x ∷ xs) = let back : length (x ∷ xs) - 1 ≡ length xs = omega arith in ap (slice_get (x ∷ xs)) back ∙ last_behind x xs
