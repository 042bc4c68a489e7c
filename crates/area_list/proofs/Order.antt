-- For all laws of lists: canonical lists by recursion, where each area is valid and each lies apart from each later one.
use Rattle.std.proofs.Common.{◌≡◌, ◌≤◌, ℕ, false, List, [], ◌∷◌, All, arith}
use Rattle.std.specs.List.{AllByRecursion as Each}
use Rattle.std.proofs.lemmas.List.Elements.{All-from_recursion, recursion_from_All}
use Rattle.mm_types.specs.declared.area.Record.{Record}
use Rattle.mm_types.specs.Records.{IsValid}
use Rattle.area_list.specs.Areas.{joins, OfFirst, Neighbours, IsCanonical}
use Rattle.area_list.proofs.Elements.{Pairs, Each-also, Each-weaker}
use Rattle.area_list.proofs.Parts.{Apart, joins_touching}

-- a valid area that ends at or below this page
pub record IsGood (end : ℕ) (area : Record) : Type 0 where
  pub valid : IsValid area
  pub below_end : area.span.hi ≤ end

-- the one area ends where the other begins, or before that
abbrev pub Before : Record → Record → Type 0
Before a b = a.span.hi ≤ b.span.lo

pub OfFirst-weaker : {A : Type 0} (P Q : A → Type 0) → ((x : A) → P x → Q x) → (xs : List A) → OfFirst P xs
    → OfFirst Q xs
OfFirst-weaker P Q step [] h = tt
OfFirst-weaker P Q step (x ∷ xs) h = step x h

pub Neighbours-weaker : {A : Type 0} (R S : A → A → Type 0) → ((x y : A) → R x y → S x y) → (xs : List A)
    → Neighbours R xs → Neighbours S xs
Neighbours-weaker R S step [] h = tt
Neighbours-weaker R S step (x ∷ xs) h =
    (OfFirst-weaker (R x) (S x) (step x) xs h.0, Neighbours-weaker R S step xs h.1)

pub Neighbours-from_Pairs : {A : Type 0} (R : A → A → Type 0) (xs : List A) → Pairs R xs → Neighbours R xs
Neighbours-from_Pairs R [] h = tt
Neighbours-from_Pairs R (x ∷ []) h = (tt, tt)
Neighbours-from_Pairs R (x ∷ (y ∷ xs)) h = (h.0.0, Neighbours-from_Pairs R (y ∷ xs) h.1)

-- an area after one that lies apart lies apart too
beyond : (a b c : Record) → Apart a b → IsValid b → Apart b c → Apart a c
beyond a b c first valid second = let order : a.span.hi ≤ c.span.lo =
    omega (arith, first.order, second.order, valid.some_pages) in
    record {
      order = order;
      apart = joins_touching a c (omega (arith, first.order, second.order, valid.some_pages));
    }

Pairs-from_Neighbours : (areas : List Record) → Each IsValid areas → Neighbours Before areas
    → Neighbours (λ a b. joins a b ≡ false) areas → Pairs Apart areas
Pairs-from_Neighbours [] valid order apart = tt
Pairs-from_Neighbours (a ∷ []) valid order apart = (tt, tt)
Pairs-from_Neighbours (a ∷ (b ∷ rest)) valid order apart =
    let here : Apart a b = record { order = order.0; apart = apart.0 } in
    let later : Pairs Apart (b ∷ rest) = Pairs-from_Neighbours (b ∷ rest) valid.1 order.1 apart.1 in
    ((here, Each-weaker (Apart b) (Apart a) (λ c. beyond a b c here valid.1.0) rest later.0), later)

pub good_from_All : (end : ℕ) (areas : List Record) → All IsValid areas → All (λ area. area.span.hi ≤ end) areas
    → Each (IsGood end) areas
good_from_All end areas valid below = Each-also IsValid (λ area. area.span.hi ≤ end) (IsGood end)
    (λ area v b. record { valid = v; below_end = b }) areas
    (recursion_from_All IsValid areas valid) (recursion_from_All (λ area. area.span.hi ≤ end) areas below)

pub good_from_canonical : (end : ℕ) (areas : List Record) → IsCanonical end areas → Each (IsGood end) areas
good_from_canonical end areas c = good_from_All end areas c.valid c.below_end

pub pairs_from_canonical : (end : ℕ) (areas : List Record) → IsCanonical end areas → Pairs Apart areas
pairs_from_canonical end areas c =
    Pairs-from_Neighbours areas (recursion_from_All IsValid areas c.valid) c.ordered c.apart

pub canonical_from_good : (end : ℕ) (areas : List Record) → Each (IsGood end) areas → Neighbours Apart areas
    → IsCanonical end areas
canonical_from_good end areas good apart = record {
  valid = All-from_recursion IsValid areas (Each-weaker (IsGood end) IsValid (λ area g. g.valid) areas good);
  below_end = All-from_recursion (λ area. area.span.hi ≤ end) areas
      (Each-weaker (IsGood end) (λ area. area.span.hi ≤ end) (λ area g. g.below_end) areas good);
  ordered = Neighbours-weaker Apart Before (λ a b p. p.order) areas apart;
  apart = Neighbours-weaker Apart (λ a b. joins a b ≡ false) (λ a b p. p.apart) areas apart;
}
