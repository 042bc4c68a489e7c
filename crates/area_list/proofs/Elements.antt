-- For all laws of lists: what holds of each element of a list, and of each element and each later one, by recursion.
use Rattle.std.proofs.Common.{List, [], ◌∷◌, ◌++◌}
use Rattle.std.specs.List.{flat_map, AllByRecursion as Each}

-- R holds of each element and each later one
abbrev pub Pairs : {A : Type 0} → (A → A → Type 0) → List A → Type 0
Pairs R [] = Unit {0}
Pairs R (a ∷ rest) = Each (R a) rest × Pairs R rest

pub Each-append : {A : Type 0} (P : A → Type 0) (xs ys : List A) → Each P xs → Each P ys → Each P (xs ++ ys)
Each-append P [] ys h k = k
Each-append P (x ∷ xs) ys h k = (h.0, Each-append P xs ys h.1 k)

pub Each-left : {A : Type 0} (P : A → Type 0) (xs ys : List A) → Each P (xs ++ ys) → Each P xs
Each-left P [] ys h = tt
Each-left P (x ∷ xs) ys h = (h.0, Each-left P xs ys h.1)

pub Each-right : {A : Type 0} (P : A → Type 0) (xs ys : List A) → Each P (xs ++ ys) → Each P ys
Each-right P [] ys h = h
Each-right P (x ∷ xs) ys h = Each-right P xs ys h.1

pub Each-also : {A : Type 0} (P Q S : A → Type 0) → ((x : A) → P x → Q x → S x) → (xs : List A) → Each P xs
    → Each Q xs → Each S xs
Each-also P Q S step [] h k = tt
Each-also P Q S step (x ∷ xs) h k = (step x h.0 k.0, Each-also P Q S step xs h.1 k.1)

pub Each-weaker : {A : Type 0} (P Q : A → Type 0) → ((x : A) → P x → Q x) → (xs : List A) → Each P xs → Each Q xs
Each-weaker P Q step [] h = tt
Each-weaker P Q step (x ∷ xs) h = (step x h.0, Each-weaker P Q step xs h.1)

pub Each-always : {A : Type 0} (P : A → Type 0) → ((x : A) → P x) → (xs : List A) → Each P xs
Each-always P each [] = tt
Each-always P each (x ∷ xs) = (each x, Each-always P each xs)

pub Each-flat_map : {A : Type 0} (P Q : A → Type 0) (f : A → List A) → ((x : A) → P x → Each Q (f x))
    → (xs : List A) → Each P xs → Each Q (flat_map f xs)
Each-flat_map P Q f step [] h = tt
Each-flat_map P Q f step (x ∷ xs) h =
    Each-append Q (f x) (flat_map f xs) (step x h.0) (Each-flat_map P Q f step xs h.1)

pub Pairs-append : {A : Type 0} (R : A → A → Type 0) (xs ys : List A) → Pairs R xs → Pairs R ys
    → Each (λ x. Each (R x) ys) xs → Pairs R (xs ++ ys)
Pairs-append R [] ys h k c = k
Pairs-append R (x ∷ xs) ys h k c = (Each-append (R x) xs ys h.0 c.0, Pairs-append R xs ys h.1 k c.1)

pub Pairs-weaker : {A : Type 0} (R S : A → A → Type 0) → ((x y : A) → R x y → S x y) → (xs : List A) → Pairs R xs
    → Pairs S xs
Pairs-weaker R S step [] h = tt
Pairs-weaker R S step (x ∷ xs) h = (Each-weaker (R x) (S x) (step x) xs h.0, Pairs-weaker R S step xs h.1)

-- what holds between the images of x and those of each element of a list
Each-across : {A : Type 0} (P : A → Type 0) (R S : A → A → Type 0) (f : A → List A) (x : A)
    → ((y : A) → P y → R x y → Each (λ u. Each (S u) (f y)) (f x))
    → (ys : List A) → Each P ys → Each (R x) ys → Each (λ u. Each (S u) (flat_map f ys)) (f x)
Each-across P R S f x cross [] h k = Each-always (λ u. Each (S u) []) (λ u. tt) (f x)
Each-across P R S f x cross (y ∷ ys) h k =
    Each-also (λ u. Each (S u) (f y)) (λ u. Each (S u) (flat_map f ys)) (λ u. Each (S u) (f y ++ flat_map f ys))
    (λ u. Each-append (S u) (f y) (flat_map f ys)) (f x) (cross y h.0 k.0) (Each-across P R S f x cross ys h.1 k.1)

-- the images of a list keep a relation that holds within one element's images, and between those of two
pub Pairs-flat_map : {A : Type 0} (P : A → Type 0) (R S : A → A → Type 0) (f : A → List A)
    → ((x : A) → P x → Pairs S (f x))
    → ((x y : A) → P x → P y → R x y → Each (λ u. Each (S u) (f y)) (f x))
    → (xs : List A) → Each P xs → Pairs R xs → Pairs S (flat_map f xs)
Pairs-flat_map P R S f within cross [] h k = tt
Pairs-flat_map P R S f within cross (x ∷ xs) h k =
    Pairs-append S (f x) (flat_map f xs) (within x h.0) (Pairs-flat_map P R S f within cross xs h.1 k.1)
    (Each-across P R S f x (λ y. cross x y h.0) xs h.1 k.0)
