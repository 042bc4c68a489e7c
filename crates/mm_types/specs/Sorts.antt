-- Stable sorts of lists.
use Rattle.std.specs.Prelude.{ℕ, Bool, if◌then◌else◌, nat_le, List, [], ◌∷◌}

-- an element in its place in a list that is in order, before those that it ties with; goes_first tells whether the first of two may stand before the second
abbrev pub insert_in_order : {X : Type 0} → (X → X → Bool) → X → List X → List X
insert_in_order goes_first x [] = x ∷ []
insert_in_order goes_first x (y ∷ ys) = if goes_first x y then x ∷ y ∷ ys else y ∷ insert_in_order goes_first x ys

-- elements in an order; those that tie keep the one that they had
abbrev pub sort_stably : {X : Type 0} → (X → X → Bool) → List X → List X
sort_stably goes_first [] = []
sort_stably goes_first (x ∷ xs) = insert_in_order goes_first x (sort_stably goes_first xs)

-- elements by ascending number; those of the same number keep their order
abbrev pub sort_by : {X : Type 0} → (X → ℕ) → List X → List X
sort_by key xs = sort_stably (λ x y. nat_le (key x) (key y)) xs
