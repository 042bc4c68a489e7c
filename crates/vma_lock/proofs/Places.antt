-- For `VmaTable::add`, `VmaTable::begin`, `VmaTable::end` and others: seats by their numbers: what is so of each seat, and sums over all seats, after one took another view.
use Rattle.std.proofs.Common.{ℕ, zero, suc, ◌≡◌, ◌≢◌, ◌<◌, ◌≤◌, ◌+◌, ◌∙◌, refl, sym, ap, List, [], ◌∷◌, ◌++◌, length, map, get_or, set, arith}
use mathlib.Core.Option.{some, some-injective, some-ne-none}
use lib.ListN.{get_elem?}
use Rattle.std.specs.List.{sum_by}
use Rattle.std.proofs.lemmas.List.Sums.{sum_by-cons}
use Rattle.lock_core.proofs.Elements.{one_weighs}

-- an element that is found at a place
pub found_there : {A : Type 0} (xs : List A) (i : ℕ) (x d : A) → get_elem? xs i ≡ some x → (get_or xs i d ≡ x) × (i < length xs)
found_there [] i x d e = absurd (some-ne-none x (sym e))
found_there (y ∷ ys) zero x d e = (some-injective y x e, omega arith)
found_there (y ∷ ys) (suc i) x d e = let rest = found_there ys i x d e in (rest.0, omega (arith, rest.1))

-- what is so of each other element and of a new one is so of each after the new one took a place
pub each_else : {A : Type 0} (P : ℕ → A → Type 0) (xs : List A) (i : ℕ) (x d : A) → i < length xs
    → ((k : ℕ) → k ≢ i → P k (get_or xs k d)) → P i x → (k : ℕ) → P k (get_or (set xs i x) k d)
each_else P [] i x d within all one k = absurd (omega arith)
each_else P (y ∷ ys) zero x d within all one zero = one
each_else P (y ∷ ys) zero x d within all one (suc k) = all (suc k) (λ e. omega arith)
each_else P (y ∷ ys) (suc i) x d within all one zero = all zero (λ e. omega arith)
each_else P (y ∷ ys) (suc i) x d within all one (suc k) =
    each_else (λ j. P (suc j)) ys i x d (omega arith) (λ j apart. all (suc j) (λ e. apart (omega arith))) one k

-- the same after a new one was added at the end
pub each_more : {A : Type 0} (P : ℕ → A → Type 0) (xs : List A) (x d : A) → ((k : ℕ) → P k (get_or xs k d)) → P (length xs) x
    → (k : ℕ) → P k (get_or (xs ++ x ∷ []) k d)
each_more P [] x d all one zero = one
each_more P [] x d all one (suc k) = all (suc k)
each_more P (y ∷ ys) x d all one zero = all zero
each_more P (y ∷ ys) x d all one (suc k) = each_more (λ j. P (suc j)) ys x d (λ j. all (suc j)) one k

-- where each weighs no more by one weight than by another, neither do all
pub each_less : {A : Type 0} (f g : A → ℕ) (xs : List A) (d : A) → ((k : ℕ) → f (get_or xs k d) ≤ g (get_or xs k d)) → sum_by f xs ≤ sum_by g xs
each_less f g [] d less = omega arith
each_less f g (x ∷ xs) d less =
    omega (arith, sum_by-cons f x xs, sum_by-cons g x xs, less 0, each_less f g xs d (λ k. less (suc k)))

-- two elements weigh no more than all
pub two_weigh : {A : Type 0} (f : A → ℕ) (xs : List A) (i j : ℕ) (d : A) → i < length xs → j < length xs → j ≢ i
    → f (get_or xs i d) + f (get_or xs j d) ≤ sum_by f xs
two_weigh f [] i j d first second apart = absurd (omega arith)
two_weigh f (x ∷ xs) zero zero d first second apart = absurd (apart refl)
two_weigh f (x ∷ xs) zero (suc j) d first second apart =
    omega (arith, sum_by-cons f x xs, one_weighs f xs j d (omega arith))
two_weigh f (x ∷ xs) (suc i) zero d first second apart =
    omega (arith, sum_by-cons f x xs, one_weighs f xs i d (omega arith))
two_weigh f (x ∷ xs) (suc i) (suc j) d first second apart =
    omega (arith, sum_by-cons f x xs, two_weigh f xs i j d (omega arith) (omega arith) (λ e. apart (ap suc e)))

-- a sum over what elements are made into
pub sum_by-map : {A B : Type 0} (f : B → ℕ) (g : A → B) (xs : List A) → sum_by f (map g xs) ≡ sum_by (λ x. f (g x)) xs
sum_by-map f g [] = refl
sum_by-map f g (x ∷ xs) =
    sum_by-cons f (g x) (map g xs) ∙ ap (λ n. f (g x) + n) (sum_by-map f g xs) ∙ sym (sum_by-cons (λ y. f (g y)) x xs)
