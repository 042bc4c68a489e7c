-- For the law `sort_by_is_stable`: an insertion sort by a number is the only stable sort by it.
use Rattle.std.proofs.Common.{ℕ, suc, ◌≡◌, ◌<◌, ◌≤◌, ◌∙◌, refl, sym, ap, cond, Bool, true, false, nat_eq, nat_le, List, [], ◌∷◌, length, get_or, filter, All, arith, inl, inr, suc-le-suc, zero-le}
use Rattle.std.specs.List.Sorted.{ties, IsNonDecreasingBy, IsSortedByKey, IsStableByKey}
use Rattle.std.specs.Ordering.{is_lt, nat_cmp}
use Rattle.std.proofs.lemmas.Bool.{cases_Bool, cond_both, cond-true, cond-false, leb-true, leb-false, eqb-true, eq-eqb}
use Rattle.std.proofs.lemmas.Bool.Decides.{nat_tests}
use Rattle.std.proofs.lemmas.List.Elements.{All-cons, All-head, All-tail, filter_agree}
use Rattle.std.proofs.lemmas.List.Sorted.{IsNonDecreasingBy-from_sort}
use Rattle.mm_types.specs.Sorts.{insert_in_order, sort_by}

-- an element in its place by a number
abbrev pub insert_by : {X : Type 0} → (X → ℕ) → X → List X → List X
insert_by key x xs = insert_in_order (λ a b. nat_le (key a) (key b)) x xs

filter-kept : {X : Type 0} (p : X → Bool) (x : X) (xs : List X) → p x ≡ true → filter p (x ∷ xs) ≡ x ∷ filter p xs
filter-kept p x xs h = cond-true _ _ _ h

filter-dropped : {X : Type 0} (p : X → Bool) (x : X) (xs : List X) → p x ≡ false → filter p (x ∷ xs) ≡ filter p xs
filter-dropped p x xs h = cond-false _ _ _ h

-- two elements of which a filter keeps at most one
kept_either_way : {X : Type 0} (a b : Bool) (x y : X) (xs : List X) → (a ≡ true → b ≡ true → ⊥)
    → cond b (y ∷ cond a (x ∷ xs) xs) (cond a (x ∷ xs) xs) ≡ cond a (x ∷ cond b (y ∷ xs) xs) (cond b (y ∷ xs) xs)
kept_either_way true true x y xs apart = absurd (apart refl refl)
kept_either_way true false x y xs apart = refl
kept_either_way false true x y xs apart = refl
kept_either_way false false x y xs apart = refl

-- the elements of a number are the same before and after
filter-insert_by : {X : Type 0} (key : X → ℕ) (n : ℕ) (x : X) (xs : List X)
    → filter (λ y. nat_eq (key y) n) (insert_by key x xs) ≡ filter (λ y. nat_eq (key y) n) (x ∷ xs)
filter-insert_by key n x [] = refl
filter-insert_by {X} key n x (first ∷ xs) =
    let p : X → Bool = λ y. nat_eq (key y) n in
    cond_both (nat_le (key x) (key first)) (x ∷ first ∷ xs) (first ∷ insert_by key x xs) (λ l. filter p l ≡ filter p (x ∷ first ∷ xs))
    (λ h. refl)
    (λ h. ap (λ (l : List X). cond (p first) (first ∷ l) l) (filter-insert_by key n x xs)
    ∙ kept_either_way (p x) (p first) x first (filter p xs)
    (λ a b. omega (arith, leb-false (key x) (key first) h, eqb-true (key x) n a, eqb-true (key first) n b)))

pub filter-sort_by : {X : Type 0} (key : X → ℕ) (n : ℕ) (xs : List X) → filter (λ y. nat_eq (key y) n) (sort_by key xs) ≡ filter (λ y. nat_eq (key y) n) xs
filter-sort_by key n [] = refl
filter-sort_by {X} key n (x ∷ xs) =
    filter-insert_by key n x (sort_by key xs) ∙ ap (λ (l : List X). cond (nat_eq (key x) n) (x ∷ l) l) (filter-sort_by key n xs)

-- what is so of each element stays so
All-insert_by : {X : Type 0} (key : X → ℕ) (P : X → Type 0) (x : X) (xs : List X) → P x → All P xs → All P (insert_by key x xs)
All-insert_by key P x [] one all = All-cons P x [] one all
All-insert_by key P x (first ∷ xs) one all =
    cond_both (nat_le (key x) (key first)) (x ∷ first ∷ xs) (first ∷ insert_by key x xs) (All P)
    (λ h. All-cons P x (first ∷ xs) one all)
    (λ h. All-cons P first (insert_by key x xs) (All-head P first xs all) (All-insert_by key P x xs one (All-tail P first xs all)))

pub All-sort_by : {X : Type 0} (key : X → ℕ) (P : X → Type 0) (xs : List X) → All P xs → All P (sort_by key xs)
All-sort_by key P [] all = all
All-sort_by key P (x ∷ xs) all = All-insert_by key P x (sort_by key xs) (All-head P x xs all) (All-sort_by key P xs (All-tail P x xs all))

-- the numbers do not fall, from this one on
abbrev pub Rises : {X : Type 0} → (X → ℕ) → ℕ → List X → Type 0
Rises key low [] = Unit {0}
Rises key low (x ∷ xs) = (low ≤ key x) × Rises key (key x) xs

Rises-insert_by : {X : Type 0} (key : X → ℕ) (low : ℕ) (x : X) (xs : List X) → low ≤ key x → Rises key low xs → Rises key low (insert_by key x xs)
Rises-insert_by key low x [] above rises = (above, tt)
Rises-insert_by key low x (first ∷ xs) above rises =
    cond_both (nat_le (key x) (key first)) (x ∷ first ∷ xs) (first ∷ insert_by key x xs) (Rises key low)
    (λ h. (above, (leb-true (key x) (key first) h, rises.1)))
    (λ h. (rises.0, Rises-insert_by key (key first) x xs (omega (arith, leb-false (key x) (key first) h)) rises.1))

pub Rises-sort_by : {X : Type 0} (key : X → ℕ) (xs : List X) → Rises key 0 (sort_by key xs)
Rises-sort_by key [] = tt
Rises-sort_by key (x ∷ xs) = Rises-insert_by key 0 x (sort_by key xs) zero-le (Rises-sort_by key xs)

-- a number that an element has is no lower
number_above : {X : Type 0} (key : X → ℕ) (low n : ℕ) (xs : List X) (y : X) (ys : List X) → Rises key low xs → filter (λ y. nat_eq (key y) n) xs ≡ y ∷ ys → low ≤ n
number_above key low n [] y ys rises found = absurd (cc)
number_above {X} key low n (x ∷ xs) y ys rises found =
    let p : X → Bool = λ y. nat_eq (key y) n in
    elim (cases_Bool (p x)) [
      | inl here ↦ omega (arith, rises.0, eqb-true (key x) n here)
      | inr later ↦ let up : key x ≤ n = number_above key (key x) n xs y ys rises.1 (sym (filter-dropped p x xs later) ∙ found) in omega (arith, rises.0, up)
    ]

-- two lists that rise, and have the same elements of each number in the same order, are one
pub same_from_filters : {X : Type 0} (key : X → ℕ) (low : ℕ) (xs : List X) (other : ℕ) (ys : List X) → Rises key low xs → Rises key other ys
    → ((x : X) → filter (λ y. nat_eq (key y) (key x)) xs ≡ filter (λ y. nat_eq (key y) (key x)) ys) → xs ≡ ys
same_from_filters key low [] other [] left right same = refl
same_from_filters {X} key low [] other (y ∷ ys) left right same =
    let clash = same y ∙ filter-kept (λ (z : X). nat_eq (key z) (key y)) y ys (eq-eqb (key y) (key y) refl) in absurd (cc)
same_from_filters {X} key low (x ∷ xs) other [] left right same =
    let clash = sym (same x) ∙ filter-kept (λ (z : X). nat_eq (key z) (key x)) x xs (eq-eqb (key x) (key x) refl) in absurd (cc)
same_from_filters {X} key low (x ∷ xs) other (y ∷ ys) left right same =
    let of : ℕ → X → Bool = λ n z. nat_eq (key z) n in
    let at_x : filter (of (key x)) (x ∷ xs) ≡ x ∷ filter (of (key x)) xs = filter-kept (of (key x)) x xs (eq-eqb (key x) (key x) refl) in
    let at_y : filter (of (key y)) (y ∷ ys) ≡ y ∷ filter (of (key y)) ys = filter-kept (of (key y)) y ys (eq-eqb (key y) (key y) refl) in
    let up : key y ≤ key x = number_above key (key y) (key x) (y ∷ ys) x (filter (of (key x)) xs) (omega arith, right.1) (sym (same x) ∙ at_x) in
    let down : key x ≤ key y = number_above key (key x) (key y) (x ∷ xs) y (filter (of (key y)) ys) (omega arith, left.1) (same y ∙ at_y) in
    let heads : x ∷ filter (of (key x)) xs ≡ y ∷ filter (of (key x)) ys =
    sym at_x ∙ same x ∙ filter-kept (of (key x)) y ys (eq-eqb (key y) (key x) (omega arith)) in
    let head : x ≡ y = cc in
    let tails : (z : X) → filter (of (key z)) xs ≡ filter (of (key z)) ys =
    λ z. elim (cases_Bool (of (key z) x)) [
      | inl with ↦
          let both = sym (filter-kept (of (key z)) x xs with) ∙ same z ∙ filter-kept (of (key z)) y ys (ap (of (key z)) (sym head) ∙ with) in cc
      | inr without ↦
          sym (filter-dropped (of (key z)) x xs without) ∙ same z ∙ filter-dropped (of (key z)) y ys (ap (of (key z)) (sym head) ∙ without)
    ] in
    ap (λ (w : X). w ∷ xs) head ∙ ap (λ (l : List X). y ∷ l) (same_from_filters key (key x) xs (key y) ys left.1 right.1 tails)

rises_at : {X : Type 0} (key : X → ℕ) (low : ℕ) (xs : List X) → IsNonDecreasingBy key xs → ((d : X) → 0 < length xs → low ≤ key (get_or xs 0 d)) → Rises key low xs
rises_at key low [] sorted above = tt
rises_at key low (x ∷ xs) sorted above = (
  above x (suc-le-suc zero-le),
  rises_at key (key x) xs (λ i j d le lt. sorted (suc i) (suc j) d (suc-le-suc le) (suc-le-suc lt)) (λ d some. sorted 0 (suc 0) d zero-le (suc-le-suc some)),
)

-- a sorted list with the same elements of each number in the same order is the sorted one
pub sort_by-from_filters : {X : Type 0} (key : X → ℕ) (xs ys : List X) → IsSortedByKey key nat_cmp ys
    → ((x : X) → filter (λ y. nat_eq (key y) (key x)) ys ≡ filter (λ y. nat_eq (key y) (key x)) xs) → ys ≡ sort_by key xs
sort_by-from_filters key xs ys sorted same =
    same_from_filters key 0 ys 0 (sort_by key xs) (rises_at key 0 ys (IsNonDecreasingBy-from_sort key ys sorted) (λ d some. zero-le)) (Rises-sort_by key xs)
    (λ x. same x ∙ sym (filter-sort_by key (key x) xs))

ties_are_equal : (m n : ℕ) → nat_eq n m ≡ ties (λ (x : ℕ) (y : ℕ). is_lt (nat_cmp x y)) m n
ties_are_equal m n = grind (arith, nat_tests)

-- so any stable sort by the number makes that list
pub sort_by-from_stable : {X : Type 0} (key : X → ℕ) (xs ys : List X) → IsSortedByKey key nat_cmp ys → IsStableByKey key nat_cmp xs ys → ys ≡ sort_by key xs
sort_by-from_stable {X} key xs ys sorted stable =
    let tie : X → X → Bool = ties (λ (x : X) (y : X). is_lt (nat_cmp (key x) (key y))) in
    sort_by-from_filters key xs ys sorted
    (λ x. filter_agree (λ (y : X). nat_eq (key y) (key x)) (tie x) (λ y. ties_are_equal (key x) (key y)) ys ∙ stable x
    ∙ sym (filter_agree (λ (y : X). nat_eq (key y) (key x)) (tie x) (λ y. ties_are_equal (key x) (key y)) xs))

-- two numbers that order the elements of a list alike sort it alike
insert_by_alike : {X : Type 0} (key other : X → ℕ) (P : X → Type 0) → ((x y : X) → P x → P y → nat_le (key x) (key y) ≡ nat_le (other x) (other y))
    → (x : X) (xs : List X) → P x → All P xs → insert_by key x xs ≡ insert_by other x xs
insert_by_alike key other P alike x [] one all = refl
insert_by_alike {X} key other P alike x (first ∷ xs) one all =
    ap (λ (t : Bool). cond t (x ∷ first ∷ xs) (first ∷ insert_by key x xs)) (alike x first one (All-head P first xs all))
    ∙ ap (λ (l : List X). cond (nat_le (other x) (other first)) (x ∷ first ∷ xs) (first ∷ l)) (insert_by_alike key other P alike x xs one (All-tail P first xs all))

pub sort_by_alike : {X : Type 0} (key other : X → ℕ) (P : X → Type 0) → ((x y : X) → P x → P y → nat_le (key x) (key y) ≡ nat_le (other x) (other y))
    → (xs : List X) → All P xs → sort_by key xs ≡ sort_by other xs
sort_by_alike key other P alike [] all = refl
sort_by_alike {X} key other P alike (x ∷ xs) all =
    ap (insert_by key x) (sort_by_alike key other P alike xs (All-tail P x xs all))
    ∙ insert_by_alike key other P alike x (sort_by other xs) (All-head P x xs all) (All-sort_by other P xs (All-tail P x xs all))
