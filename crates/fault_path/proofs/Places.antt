-- For `passes_of`: the elements of a list that gains one.
use Rattle.std.proofs.Common.{ℕ, zero, suc, ◌≡◌, ◌<◌, List, [], ◌∷◌, ◌++◌, length, slice_get, Some, None, IfSome, refl, sym, subst, ap, ◌∙◌, arith, append_assoc}
use Rattle.std.proofs.lemmas.List.{length-append}

some_is : {X : Type 0} (P : X → Type 0) (x y : X) → Some x ≡ Some y → P x → P y
some_is P x y is holds = subst (λ o. IfSome o P) is holds

pub none_is_some : {X : Type 0} {x : X} → None ≡ Some x → ⊥
none_is_some {X} {x} is = grind (arith, is)

-- what is so of the elements, each in its place, and of one more, is so of all together
pub push_places : {X : Type 0} (P : ℕ → X → Type 0) (xs : List X) (x : X) → ((place : ℕ) (y : X) → slice_get xs place ≡ Some y → P place y)
    → P (length xs) x → (place : ℕ) (y : X) → slice_get (xs ++ x ∷ []) place ≡ Some y → P place y
push_places P [] x each last zero y is = some_is (P zero) x y is last
push_places P [] x each last (suc place) y is = absurd (none_is_some is)
push_places P (z ∷ zs) x each last zero y is = each zero y is
push_places P (z ∷ zs) x each last (suc place) y is =
    push_places (λ i w. P (suc i) w) zs x (λ i w at. each (suc i) w at) last place y is

-- the element between those before it and those after it
pub at_seam : {X : Type 0} (xs ys zs : List X) (x : X) → xs ++ x ∷ ys ≡ zs → slice_get zs (length xs) ≡ Some x
at_seam xs ys zs x is = subst (λ all. slice_get all (length xs) ≡ Some x) is (seam xs ys x)
  where
    seam : {X : Type 0} (xs ys : List X) (x : X) → slice_get (xs ++ x ∷ ys) (length xs) ≡ Some x
    seam [] ys x = refl
    seam (z ∷ zs) ys x = seam zs ys x

-- the first element of the second of two parts
pub next_at : {X : Type 0} (xs ys rest zs : List X) (x : X) → xs ++ ys ≡ zs → ys ≡ x ∷ rest → slice_get zs (length xs) ≡ Some x
next_at xs ys rest zs x whole step = at_seam xs rest zs x (ap (λ part. xs ++ part) (sym step) ∙ whole)

-- a list in two parts, of which the second gives its first element to the other
pub next_part : {X : Type 0} (xs ys rest zs : List X) (x : X) → xs ++ ys ≡ zs → ys ≡ x ∷ rest → (xs ++ x ∷ []) ++ rest ≡ zs
next_part xs ys rest zs x whole step = append_assoc xs (x ∷ []) rest ∙ ap (λ part. xs ++ part) (sym step) ∙ whole

-- a list whose second part is empty
pub last_part : {X : Type 0} (xs ys zs : List X) → xs ++ ys ≡ zs → length ys ≡ 0 → length xs ≡ length zs
last_part xs ys zs whole none = let total = ap (λ all. length all) whole in let parts = length-append xs ys in omega (arith, total, parts, none)

-- two lists of one length that each gain an element
pub same_lengths : {X Y : Type 0} (xs : List X) (ys : List Y) (x : X) (y : Y) → length xs ≡ length ys → length (xs ++ x ∷ []) ≡ length (ys ++ y ∷ [])
same_lengths xs ys x y same = let first = length-append xs (x ∷ []) in let second = length-append ys (y ∷ []) in omega (arith, first, second, same)

-- a list in two parts, of which the first is shorter than another list of its length
pub some_left : {X Y : Type 0} (xs ys zs : List X) (before rest all : List Y) (y : Y) → xs ++ ys ≡ zs → before ++ y ∷ rest ≡ all
    → length xs ≡ length before → length zs ≡ length all → 0 < length ys
some_left xs ys zs before rest all y whole other same total =
    let one = ap (λ l. length l) whole in
    let two = ap (λ l. length l) other in
    let first = length-append xs ys in
    let second = length-append before (y ∷ rest) in
    omega arith
