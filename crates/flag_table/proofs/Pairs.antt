-- For the law `tables_are_sound`: facts about each two elements of a list, and tests that show them.
use Rattle.std.proofs.Common.{ℕ, ◌<◌, ◌≡◌, suc, zero, Bool, true, ◌&&◌, List, [], ◌∷◌, length, get_or, arith, All, AllPairs}
use Rattle.std.specs.List.{list_all}
use Rattle.std.proofs.lemmas.Bool.{and_parts}
use Rattle.std.proofs.lemmas.List.Elements.{All-nil, All-cons}

-- what a test shows of each element
pub All-from_test : {X : Type 0} (P : X → Type 0) (test : X → Bool) → ((x : X) → test x ≡ true → P x) → (xs : List X)
    → list_all test xs ≡ true → All P xs
All-from_test P test shows [] passes = All-nil P
All-from_test P test shows (x ∷ xs) passes = let both = and_parts (test x) (list_all test xs) passes in
    All-cons P x xs (shows x both.0) (All-from_test P test shows xs both.1)

-- each two elements at places in order, of a list with a first element
pub AllPairs-cons : {X : Type 0} (R : X → X → Type 0) (x : X) (xs : List X) → All (R x) xs → AllPairs R xs
    → (i j : ℕ) (d : X) → i < j → j < length (x ∷ xs) → R (get_or (x ∷ xs) i d) (get_or (x ∷ xs) j d)
AllPairs-cons R x xs first rest i zero d below within = absurd (omega arith)
AllPairs-cons R x xs first rest zero (suc j) d below within = first j d (omega arith)
AllPairs-cons R x xs first rest (suc i) (suc j) d below within = rest i j d (omega arith) (omega arith)

-- whether each element passes the test with each later one
abbrev pub pairs_pass : {X : Type 0} → (X → X → Bool) → List X → Bool
pairs_pass test [] = true
pairs_pass test (x ∷ xs) = list_all (test x) xs && pairs_pass test xs

-- what such a test shows of each two elements
pub AllPairs-from_test : {X : Type 0} (R : X → X → Type 0) (test : X → X → Bool) → ((x y : X) → test x y ≡ true → R x y)
    → (xs : List X) → pairs_pass test xs ≡ true → AllPairs R xs
AllPairs-from_test R test shows [] passes = λ i j d below within. absurd (omega arith)
AllPairs-from_test R test shows (x ∷ xs) passes = let both = and_parts (list_all (test x) xs)
    (pairs_pass test xs) passes in
    AllPairs-cons R x xs (All-from_test (R x) (test x) (shows x) xs both.0) (AllPairs-from_test R test shows xs both.1)
