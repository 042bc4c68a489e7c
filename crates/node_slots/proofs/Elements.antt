-- For `NodeTable::open`, `NodeTable::scan` and others: what is so of each seat after one took another view.
use Rattle.std.proofs.Common.{ℕ, zero, suc, ◌≡◌, ◌≢◌, ◌<◌, sym, subst, List, [], ◌∷◌, ◌++◌, length, get_or, set, slice_get, Some, arith}
use mathlib.Core.Option.{some, some-injective, some-ne-none}
use lib.ListN.{get_elem?}

-- an element that is found at a place
pub found_there : {A : Type 0} (xs : List A) (i : ℕ) (x d : A) → get_elem? xs i ≡ some x → (get_or xs i d ≡ x) × (i < length xs)
found_there [] i x d e = absurd (some-ne-none x (sym e))
found_there (y ∷ ys) zero x d e = (some-injective y x e, omega arith)
found_there (y ∷ ys) (suc i) x d e = let rest = found_there ys i x d e in (rest.0, omega (arith, rest.1))

-- what is so of each other element and of a new one is so of each after the new one took a place
pub each_else : {A : Type 0} (P : ℕ → A → Type 0) (xs : List A) (i : ℕ) (x d : A) → i < length xs
    → ((k : ℕ) → k ≢ i → P k (get_or xs k d)) → P i x → (k : ℕ) → P k (get_or (set xs i x) k d)
each_else P [] i x d within all one k = absurd (omega arith)
each_else P (y ∷ ys) zero x d within all one zero = one
each_else P (y ∷ ys) zero x d within all one (suc k) = all (suc k) (λ e. omega arith)
each_else P (y ∷ ys) (suc i) x d within all one zero = all zero (λ e. omega arith)
each_else P (y ∷ ys) (suc i) x d within all one (suc k) =
    each_else (λ j. P (suc j)) ys i x d (omega arith) (λ j apart. all (suc j) (λ e. apart (omega arith))) one k

-- the same after a new one was added at the end
pub each_more : {A : Type 0} (P : ℕ → A → Type 0) (xs : List A) (x d : A) → ((k : ℕ) → P k (get_or xs k d)) → P (length xs) x
    → (k : ℕ) → P k (get_or (xs ++ x ∷ []) k d)
each_more P [] x d all one zero = one
each_more P [] x d all one (suc k) = all (suc k)
each_more P (y ∷ ys) x d all one zero = all zero
each_more P (y ∷ ys) x d all one (suc k) = each_more (λ j. P (suc j)) ys x d (λ j. all (suc j)) one k

-- what is so of each element that is found, and of a new one, is so of each after the new one was added at the end
pub each_found : {A : Type 0} (P : ℕ → A → Type 0) (xs : List A) (x : A) → ((k : ℕ) (y : A) → slice_get xs k ≡ Some y → P k y) → P (length xs) x
    → (k : ℕ) (y : A) → slice_get (xs ++ x ∷ []) k ≡ Some y → P k y
each_found P [] x all one zero y at = subst (P 0) (let e : x ≡ y = cc in e) one
each_found P [] x all one (suc k) y at = absurd (cc)
each_found P (z ∷ zs) x all one zero y at = all zero y at
each_found P (z ∷ zs) x all one (suc k) y at = each_found (λ j. P (suc j)) zs x (λ j. all (suc j)) one k y at
