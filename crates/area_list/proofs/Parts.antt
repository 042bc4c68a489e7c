-- For the laws of cut, put and protect: what holds of each part of an area, and when two lie apart.
use Rattle.std.proofs.Common.{◌^◌, ◌≡◌, ◌<◌, ◌≤◌, ◌+◌, ◌-◌, ℕ, Bool, false, ◌&&◌, ◌||◌, ◌⊎◌, inl, inr, if◌then◌else◌, nat_eq, nat_lt, min, max, List, [], ◌∷◌, arith}
use Rattle.std.specs.List.{AllByRecursion as Each}
use Rattle.std.proofs.lemmas.Bool.{cond_both, ltb-true, and_left, ne_eqb}
use Rattle.std.proofs.lemmas.Bool.Decides.{nat_tests}
use Rattle.mm_types.specs.declared.area.Span.{Span}
use Rattle.mm_types.specs.declared.area.Record.{Record}
use Rattle.mm_types.specs.Records.{IsValid}
use Rattle.area_list.specs.Areas.{index_of, joins, same_attr}
use Rattle.area_list.specs.Changes.{piece, parts_outside}
use Rattle.area_list.proofs.Elements.{Pairs, Each-append, Pairs-append}

-- the part of an area from lo up to hi
abbrev pub part : Record → ℕ → ℕ → Record
part area lo hi = record area { span = record { lo = lo; hi = hi }; offset = index_of area lo }

-- the one area ends where the other begins or before that, and they do not join
pub record Apart (a b : Record) : Type 0 where
  pub order : a.span.hi ≤ b.span.lo
  pub apart : joins a b ≡ false

pub part_valid : (area : Record) (lo hi : ℕ) → IsValid area → area.span.lo ≤ lo → lo < hi → hi ≤ area.span.hi
    → IsValid (part area lo hi)
unfolding index_of
part_valid area lo hi valid low some high = record {
  some_pages = some;
  below_end = omega (arith, valid.below_end);
  allowed = valid.allowed;
  anonymous = λ none. (of_nothing area.object _ none, (valid.anonymous none).1);
  backed = λ backed. of_object area.object area.offset area.span.lo area.span.hi lo hi backed (valid.backed backed)
      low some high;
}
  where
    of_nothing : (object index : ℕ) → object ≡ 0 → (if nat_eq object 0 then 0 else index) ≡ 0
    of_nothing object index none = grind (arith, nat_tests)

    of_object : (object offset from to lo hi : ℕ) → (object ≡ 0 → ⊥) → offset + (to - from) ≤ 2 ^ 51 - 1
        → from ≤ lo → lo < hi → hi ≤ to
        → (if nat_eq object 0 then 0 else offset + (lo - from)) + (hi - lo) ≤ 2 ^ 51 - 1
    of_object object offset from to lo hi backed fits low some high = grind (arith, nat_tests)

-- areas that do not touch do not join
pub joins_touching : (a b : Record) → a.span.hi < b.span.lo → joins a b ≡ false
unfolding joins
joins_touching a b gap = and_left (nat_eq a.span.hi b.span.lo) _ (ne_eqb a.span.hi b.span.lo (λ same. omega arith))

-- the test of `joins`, of numbers
abbrev touching : (lo hi object offset start other next : ℕ) → Bool → Bool
touching lo hi object offset start other next alike =
    nat_eq hi start && (alike && (nat_eq object other && (nat_eq object 0 || nat_eq next (offset + (hi - lo)))))

-- where a part begins in its object
abbrev begins : (object offset lo from : ℕ) → ℕ
begins object offset lo from = if nat_eq object 0 then 0 else offset + (from - lo)

part_tests : (lo hi offset object start next other l h m : ℕ) (alike : Bool) → hi ≤ start → lo ≤ l → l < h → h ≤ hi
    → start ≤ m
    → touching lo hi object offset start other next alike ≡ false
    → touching l h object (begins object offset lo l) m other (begins other next start m) alike ≡ false
part_tests lo hi offset object start next other l h m alike order low some high second apart =
    grind (arith, nat_tests)

-- parts of areas that lie apart lie apart
pub parts_apart : (a b : Record) (l h m n : ℕ) → Apart a b → a.span.lo ≤ l → l < h → h ≤ a.span.hi → b.span.lo ≤ m
    → Apart (part a l h) (part b m n)
unfolding joins index_of
parts_apart a b l h m n given low some high second = record {
  order = omega (arith, given.order);
  apart = part_tests a.span.lo a.span.hi a.offset a.object b.span.lo b.offset b.object l h m
      (same_attr a.attr b.attr) given.order low some high second given.apart;
}

pub Each-piece : (P : Record → Type 0) (area : Record) (lo hi : ℕ) → (lo < hi → P (part area lo hi))
    → Each P (piece area lo hi)
unfolding piece
Each-piece P area lo hi holds =
    cond_both (nat_lt lo hi) (part area lo hi ∷ []) [] (Each P) (λ some. (holds (ltb-true lo hi some), tt))
    (λ none. tt)

pub Pairs-piece : (R : Record → Record → Type 0) (area : Record) (lo hi : ℕ) → Pairs R (piece area lo hi)
unfolding piece
Pairs-piece R area lo hi =
    cond_both (nat_lt lo hi) (part area lo hi ∷ []) [] (Pairs R) (λ some. (tt, tt)) (λ none. tt)

-- what lies below the span, and above it
abbrev pub piece_below : Span → Record → List Record
piece_below span area = piece area area.span.lo (min area.span.hi span.lo)

abbrev pub piece_above : Span → Record → List Record
piece_above span area = piece area (max area.span.lo span.hi) area.span.hi

-- what holds of each part outside the span
pub Each-outside : (P : Record → Type 0) (span : Span) (area : Record)
    → ((lo hi : ℕ) → area.span.lo ≤ lo → lo < hi → hi ≤ area.span.hi → (hi ≤ span.lo) ⊎ (span.hi ≤ lo)
    → P (part area lo hi))
    → Each P (parts_outside span area)
unfolding parts_outside
Each-outside P span area holds =
    Each-append P (piece_below span area) (piece_above span area)
    (Each-piece P area area.span.lo (min area.span.hi span.lo)
    (λ some. holds area.span.lo (min area.span.hi span.lo) (omega arith) some (omega arith)
    (inl (omega arith))))
    (Each-piece P area (max area.span.lo span.hi) area.span.hi
    (λ some. holds (max area.span.lo span.hi) area.span.hi (omega arith) some (omega arith)
    (inr (omega arith))))

-- what holds between the part below the span and the one above it
pub Pairs-outside : (R : Record → Record → Type 0) (span : Span) (area : Record)
    → ((l h m n : ℕ) → h ≤ span.lo → span.hi ≤ m → R (part area l h) (part area m n))
    → Pairs R (parts_outside span area)
unfolding parts_outside
Pairs-outside R span area holds =
    Pairs-append R (piece_below span area) (piece_above span area)
    (Pairs-piece R area area.span.lo (min area.span.hi span.lo))
    (Pairs-piece R area (max area.span.lo span.hi) area.span.hi)
    (Each-piece (λ u. Each (R u) (piece_above span area)) area area.span.lo (min area.span.hi span.lo)
    (λ below. Each-piece (R (part area area.span.lo (min area.span.hi span.lo))) area
    (max area.span.lo span.hi) area.span.hi
    (λ above. holds area.span.lo (min area.span.hi span.lo) (max area.span.lo span.hi) area.span.hi
    (omega arith) (omega arith))))
