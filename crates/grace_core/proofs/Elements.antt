-- For `GraceState::apply`: what is so of each element of a list stays so.
use Rattle.std.proofs.Common.{ℕ, zero, suc, ◌≡◌, List, [], ◌∷◌, ◌++◌, get_or, set, arith}

-- what is so of each element, and of a new one at its place, is so of each after the new one took the place
pub each_set : {A : Type 0} (P : ℕ → A → Type 0) (xs : List A) (i : ℕ) (x d : A) → ((k : ℕ) → P k (get_or xs k d)) → P i x → (k : ℕ)
    → P k (get_or (set xs i x) k d)
each_set P [] i x d all one k = all k
each_set P (y ∷ ys) zero x d all one zero = one
each_set P (y ∷ ys) zero x d all one (suc k) = all (suc k)
each_set P (y ∷ ys) (suc i) x d all one zero = all zero
each_set P (y ∷ ys) (suc i) x d all one (suc k) = each_set (λ j. P (suc j)) ys i x d (λ j. all (suc j)) one k

-- the same of one element
pub one_set : {A : Type 0} (P : A → Type 0) (xs : List A) (i k : ℕ) (x d : A) → P (get_or xs k d) → (k ≡ i → P x) → P (get_or (set xs i x) k d)
one_set P [] i k x d all one = all
one_set P (y ∷ ys) zero zero x d all one = one (omega arith)
one_set P (y ∷ ys) zero (suc k) x d all one = all
one_set P (y ∷ ys) (suc i) zero x d all one = all
one_set P (y ∷ ys) (suc i) (suc k) x d all one = one_set P ys i k x d all (λ e. one (omega arith))

-- the same after a new one was added at the end
pub each_push : {A : Type 0} (P : A → Type 0) (xs : List A) (x d : A) → ((k : ℕ) → P (get_or xs k d)) → P x → (k : ℕ) → P (get_or (xs ++ x ∷ []) k d)
each_push P [] x d all one zero = one
each_push P [] x d all one (suc k) = all (suc k)
each_push P (y ∷ ys) x d all one zero = all zero
each_push P (y ∷ ys) x d all one (suc k) = each_push P ys x d (λ j. all (suc j)) one k
