-- For `LockState::add`, `LockState::begin`, `LockState::end` and others: elements of lists: what is so of each stays so, and counts follow.
use Rattle.std.proofs.Common.{ℕ, zero, suc, ◌≡◌, ◌<◌, ◌≤◌, ◌+◌, Bool, false, cond, List, [], ◌∷◌, ◌++◌, length, get_or, set, arith, inl, inr}
use Rattle.std.specs.List.{sum_by, count_by}
use Rattle.std.proofs.lemmas.Bool.{cases_Bool, cases_lt, cond-true}
use Rattle.std.proofs.lemmas.List.Sums.{sum_by-cons, sum_by-set}

-- what is so of each element, and of a new one, is so of each after the new one took a place
pub each_set : {A : Type 0} (P : A → Type 0) (xs : List A) (i : ℕ) (x d : A) → ((k : ℕ) → P (get_or xs k d)) → P x → (k : ℕ) → P (get_or (set xs i x) k d)
each_set P [] i x d all one k = all k
each_set P (y ∷ ys) zero x d all one zero = one
each_set P (y ∷ ys) zero x d all one (suc k) = all (suc k)
each_set P (y ∷ ys) (suc i) x d all one zero = all zero
each_set P (y ∷ ys) (suc i) x d all one (suc k) = each_set P ys i x d (λ j. all (suc j)) one k

-- the same after the new one was added at the end
pub each_push : {A : Type 0} (P : A → Type 0) (xs : List A) (x d : A) → ((k : ℕ) → P (get_or xs k d)) → P x → (k : ℕ) → P (get_or (xs ++ x ∷ []) k d)
each_push P [] x d all one zero = one
each_push P [] x d all one (suc k) = all (suc k)
each_push P (y ∷ ys) x d all one zero = all zero
each_push P (y ∷ ys) x d all one (suc k) = each_push P ys x d (λ j. all (suc j)) one k

-- how many pass a test after one element took the place of another
pub count_by-set : {A : Type 0} (p : A → Bool) (xs : List A) (i : ℕ) (x d : A) → i < length xs
    → count_by p (set xs i x) + cond (p (get_or xs i d)) 1 0 ≡ count_by p xs + cond (p x) 1 0
count_by-set p xs i x d within = sum_by-set (λ y. cond (p y) 1 0) xs i x d within

-- a weight is at most the sum
pub one_weighs : {A : Type 0} (f : A → ℕ) (xs : List A) (k : ℕ) (d : A) → k < length xs → f (get_or xs k d) ≤ sum_by f xs
one_weighs f [] k d within = absurd (omega arith)
one_weighs f (x ∷ xs) zero d within = omega (arith, sum_by-cons f x xs)
one_weighs f (x ∷ xs) (suc k) d within = omega (arith, sum_by-cons f x xs, one_weighs f xs k d (omega arith))

-- where a sum is not 0, neither is the weight of some element
pub some_weighs : {A : Type 0} (f : A → ℕ) (xs : List A) (d : A) → 0 < sum_by f xs → (k : ℕ) × (k < length xs) × (0 < f (get_or xs k d))
some_weighs f [] d some = absurd (omega arith)
some_weighs f (x ∷ xs) d some = elim (cases_lt 0 (f x)) [
  | inl here ↦ (0, omega arith, here)
  | inr none ↦
      let rest = some_weighs f xs d (omega (arith, sum_by-cons f x xs)) in
      (suc rest.0, omega (arith, rest.1), rest.2)
]

-- where none is counted, none passes the test
pub none_passes : {A : Type 0} (p : A → Bool) (xs : List A) (k : ℕ) (d : A) → p d ≡ false → count_by p xs ≡ 0 → p (get_or xs k d) ≡ false
none_passes p [] k d other none = other
none_passes p (x ∷ xs) zero d other none = elim (cases_Bool (p x)) [
  | inl passes ↦
      let one = cond-true {A = ℕ} (p x) 1 0 passes in
      absurd (omega (arith, none, sum_by-cons (λ y. cond (p y) 1 0) x xs, one))
  | inr fails ↦ fails
]
none_passes p (x ∷ xs) (suc k) d other none =
    none_passes p xs k d other (omega (arith, none, sum_by-cons (λ y. cond (p y) 1 0) x xs))
