-- Elements of lists by their places.
use Rattle.std.proofs.Common.{ℕ, zero, suc, ◌≡◌, ◌<◌, ◌≤◌, refl, sym, ap, subst, List, [], ◌∷◌, ◌++◌, length, take, slice_get, All, Some, arith}
use Rattle.std.proofs.lemmas.Option.{slice_get_within, get_or_from_slice_get}

-- a list, as what stands before a place, the element there, and what stands after it
pub split_at : {X : Type 0} (xs : List X) (place : ℕ) (x : X) → slice_get xs place ≡ Some x → (rest : List X) × (take place xs ++ x ∷ rest ≡ xs)
split_at [] place x found = absurd (cc)
split_at {X} (first ∷ xs) zero x found =
    let is : first ≡ x = cc in (xs, ap (λ (y : X). y ∷ xs) (sym is))
split_at {X} (first ∷ xs) (suc place) x found =
    let later = split_at xs place x found in (later.0, ap (λ (l : List X). first ∷ l) later.1)

pub at_place : {X : Type 0} (P : X → Type 0) (xs : List X) (place : ℕ) (x : X) → All P xs → slice_get xs place ≡ Some x → P x
at_place P xs place x all found =
    subst P (get_or_from_slice_get xs place x x found) (all place x (slice_get_within xs place x found))

-- there is an element at each place of a list
pub slice_get_found : {X : Type 0} (xs : List X) (place : ℕ) → place < length xs → (x : X) × (slice_get xs place ≡ Some x)
slice_get_found [] place within = absurd (omega arith)
slice_get_found (x ∷ xs) zero within = (x, refl)
slice_get_found (x ∷ xs) (suc place) within = slice_get_found xs place (omega arith)

-- behind a beginning of a list there is its rest
pub get_past : {X : Type 0} (xs ys : List X) (i : ℕ) (x : X) → length xs ≤ i → slice_get (xs ++ ys) i ≡ Some x → (k : ℕ) × (slice_get ys k ≡ Some x)
get_past [] ys i x past found = (i, found)
get_past (first ∷ xs) ys zero x past found = absurd (omega arith)
get_past (first ∷ xs) ys (suc i) x past found = get_past xs ys i x (omega arith) found
