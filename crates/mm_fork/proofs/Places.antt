-- Places in lists that stand one behind the other, and in lists whose elements were mapped.
use Rattle.std.proofs.Common.{ℕ, zero, suc, ◌≡◌, ◌+◌, ◌-◌, ◌<◌, ◌≤◌, ◌∙◌, refl, sym, ap, List, [], ◌∷◌, ◌++◌, length, map, take, slice_get, Some, arith}

at_once : (n : ℕ) → 0 + n ≡ n
at_once n = omega arith

one_out : (m n : ℕ) → suc m + n ≡ suc (m + n)
one_out m n = omega arith

-- as many elements of two lists as the first has and some more
pub taken_on : {X : Type 0} (xs ys : List X) (n : ℕ) → take (length xs + n) (xs ++ ys) ≡ xs ++ take n ys
taken_on {X} [] ys n = ap (λ (k : ℕ). take k ys) (at_once n)
taken_on {X} (x ∷ xs) ys n =
    ap (λ (k : ℕ). take k (x ∷ (xs ++ ys))) (one_out (length xs) n) ∙ ap (λ (l : List X). x ∷ l) (taken_on xs ys n)

-- of two lists at least as many elements as the first has
pub taken_past : {X : Type 0} (xs ys : List X) (n : ℕ) → length xs ≤ n → take n (xs ++ ys) ≡ xs ++ take (n - length xs) ys
taken_past {X} xs ys n past =
    let split : n ≡ length xs + (n - length xs) = omega arith in
    ap (λ (k : ℕ). take k (xs ++ ys)) split ∙ taken_on xs ys (n - length xs)

-- an element behind the first of two lists
pub got_on : {X : Type 0} (xs ys : List X) (n : ℕ) → slice_get (xs ++ ys) (length xs + n) ≡ slice_get ys n
got_on {X} [] ys n = ap (λ (k : ℕ). slice_get ys k) (at_once n)
got_on {X} (x ∷ xs) ys n = ap (λ (k : ℕ). slice_get (x ∷ (xs ++ ys)) k) (one_out (length xs) n) ∙ got_on xs ys n

-- what stands in a list that was mapped came from what stood there
pub mapped_from : {X Y : Type 0} (f : X → Y) (xs : List X) (k : ℕ) (y : Y) → slice_get (map f xs) k ≡ Some y
    → (x : X) × (slice_get xs k ≡ Some x) × (f x ≡ y)
mapped_from f [] k y found = absurd (cc)
mapped_from f (x ∷ xs) zero y found = let is : f x ≡ y = cc in (x, refl, is)
mapped_from f (x ∷ xs) (suc k) y found = mapped_from f xs k y found

-- and so it stands there
pub mapped_to : {X Y : Type 0} (f : X → Y) (xs : List X) (k : ℕ) (x : X) → slice_get xs k ≡ Some x → slice_get (map f xs) k ≡ Some (f x)
mapped_to f [] k x found = absurd (cc)
mapped_to f (first ∷ xs) zero x found = let is : first ≡ x = cc in ap (λ v. Some (f v)) is
mapped_to f (first ∷ xs) (suc k) x found = mapped_to f xs k x found
