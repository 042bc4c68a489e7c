-- For `area_at`, `is_free`, `is_too_long` and others: lists that are filtered and mapped.
use Rattle.std.proofs.Common.{◌≡◌, ◌≤◌, Bool, true, false, List, [], ◌∷◌, ◌++◌, length, if◌then◌else◌, refl, ap, sym, arith}
use Rattle.std.specs.List.{filter, flat_map, AllByRecursion as Each}
use Rattle.std.proofs.lemmas.Bool.{cond_both, true≢false}
use Rattle.area_list.proofs.Elements.{Pairs, Each-right, Each-always, Each-also, Each-append, Pairs-append}

-- a filter that each element passes changes nothing
pub filter_all : {A : Type 0} (passes : A → Bool) (xs : List A) → Each (λ x. passes x ≡ true) xs → filter passes xs ≡ xs
filter_all passes [] each = refl
filter_all passes (x ∷ xs) each = rw (each.0) (ap (λ rest. x ∷ rest) (filter_all passes xs each.1))

-- what holds of each element holds of each that passes
pub Each-filter : {A : Type 0} (P : A → Type 0) (passes : A → Bool) (xs : List A) → Each P xs → Each P (filter passes xs)
Each-filter P passes [] each = tt
Each-filter P passes (x ∷ xs) each =
    cond_both (passes x) (x ∷ filter passes xs) (filter passes xs) (Each P)
    (λ h. (each.0, Each-filter P passes xs each.1)) (λ h. Each-filter P passes xs each.1)

pub length-filter_at_most : {A : Type 0} (passes : A → Bool) (xs : List A) → length (filter passes xs) ≤ length xs
length-filter_at_most passes [] = omega arith
length-filter_at_most passes (x ∷ xs) =
    cond_both (passes x) (x ∷ filter passes xs) (filter passes xs) (λ ys. length ys ≤ length (x ∷ xs))
    (λ h. omega (arith, length-filter_at_most passes xs)) (λ h. omega (arith, length-filter_at_most passes xs))

-- a filter that no element passes leaves nothing
pub filter_nothing : {A : Type 0} (passes : A → Bool) (xs : List A) → Each (λ x. passes x ≡ false) xs → filter passes xs ≡ []
filter_nothing passes [] each = refl
filter_nothing passes (x ∷ xs) each = rw (each.0) (filter_nothing passes xs each.1)

-- a filter that passes more leaves no fewer
pub length-filter_wider : {A : Type 0} (passes wider : A → Bool) (xs : List A) → Each (λ x. passes x ≡ true → wider x ≡ true) xs
    → length (filter passes xs) ≤ length (filter wider xs)
length-filter_wider passes wider [] each = omega arith
length-filter_wider passes wider (x ∷ xs) each = by (passes x) (wider x) each.0 (length-filter_wider passes wider xs each.1)
  where
    by : (test more : Bool) → (test ≡ true → more ≡ true) → length (filter passes xs) ≤ length (filter wider xs)
        → length (if test then x ∷ filter passes xs else filter passes xs) ≤ length (if more then x ∷ filter wider xs else filter wider xs)
    by true true implies rest = omega (arith, rest)
    by true false implies rest = absurd (true≢false (sym (implies refl)))
    by false true implies rest = omega (arith, rest)
    by false false implies rest = rest

-- in a list of which each element is related to each later one, those of the last part, and the ones of the first part to the others
pub Pairs-right : {A : Type 0} (R : A → A → Type 0) (xs ys : List A) → Pairs R (xs ++ ys) → Pairs R ys
Pairs-right R [] ys pairs = pairs
Pairs-right R (x ∷ xs) ys pairs = Pairs-right R xs ys pairs.1

pub Pairs-across : {A : Type 0} (R : A → A → Type 0) (xs ys : List A) → Pairs R (xs ++ ys) → Each (λ x. Each (R x) ys) xs
Pairs-across R [] ys pairs = tt
Pairs-across R (x ∷ xs) ys pairs = (Each-right (R x) xs ys pairs.0, Pairs-across R xs ys pairs.1)

-- what holds between the images of x and those of each element of a list
images_across : {A B : Type 0} (P : A → Type 0) (R : A → A → Type 0) (S : B → B → Type 0) (f : A → List B) (x : A)
    → ((y : A) → P y → R x y → Each (λ u. Each (S u) (f y)) (f x)) → (ys : List A) → Each P ys → Each (R x) ys
    → Each (λ u. Each (S u) (flat_map f ys)) (f x)
images_across P R S f x cross [] each related = Each-always (λ u. Each (S u) []) (λ u. tt) (f x)
images_across P R S f x cross (y ∷ ys) each related =
    Each-also (λ u. Each (S u) (f y)) (λ u. Each (S u) (flat_map f ys)) (λ u. Each (S u) (f y ++ flat_map f ys))
    (λ u. Each-append (S u) (f y) (flat_map f ys)) (f x) (cross y each.0 related.0) (images_across P R S f x cross ys each.1 related.1)

-- the images of a list keep a relation that holds within one element's images, and between those of two
pub Pairs-images : {A B : Type 0} (P : A → Type 0) (R : A → A → Type 0) (S : B → B → Type 0) (f : A → List B) → ((x : A) → P x → Pairs S (f x))
    → ((x y : A) → P x → P y → R x y → Each (λ u. Each (S u) (f y)) (f x))
    → (xs : List A) → Each P xs → Pairs R xs → Pairs S (flat_map f xs)
Pairs-images P R S f within cross [] each pairs = tt
Pairs-images P R S f within cross (x ∷ xs) each pairs =
    Pairs-append S (f x) (flat_map f xs) (within x each.0) (Pairs-images P R S f within cross xs each.1 pairs.1)
    (images_across P R S f x (λ y. cross x y each.0) xs each.1 pairs.0)
