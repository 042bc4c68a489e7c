-- For `query`: halving among lines that are in order.
use Rattle.std.proofs.Common.{◌≡◌, ℕ, ◌+◌, ◌*◌, ◌^◌, ◌<◌, ◌≤◌, max, Bool, true, false, cond, nat_lt, List, [], length, get_or, Option, Some, None, IfSome, slice_get, refl, sym, ap, subst, ◌∙◌, inl, inr, mul_assoc, arith}
use Rattle.std.specs.Bool.{then_some}
use Rattle.std.specs.List.{position_or_len}
use Rattle.std.proofs.lemmas.Bool.{cases_lt, ltb-true, ltb-false, lt-ltb}
use Rattle.std.proofs.lemmas.Bool.Decides.{nat_tests}
use Rattle.std.proofs.lemmas.List.Sums.{position_or_len_is}
use Rattle.std.proofs.lemmas.Nat.{pow-add, mul-le}
use Rattle.std.proofs.lemmas.Option.{slice_get-get_or}
use Rattle.maps_read.specs.declared.maps.MapsLine.{MapsLine}
use Rattle.maps_read.specs.Maps.{IsMaps}
use Rattle.maps_read.specs.Query.{first_above}

-- the lines before this place end at or below an address
abbrev pub EndsWithin : ℕ → ℕ → List MapsLine → Type 0
EndsWithin address place lines = (k : ℕ) (d : MapsLine) → k < place → (get_or lines k d).hi ≤ address

-- the lines from this place on end above an address
abbrev pub EndsAbove : ℕ → ℕ → List MapsLine → Type 0
EndsAbove address place lines = (k : ℕ) (d : MapsLine) → place ≤ k → k < length lines → address < (get_or lines k d).hi

-- what a comparison answers of the line at a place
abbrev pub Compares : ℕ → ℕ → List MapsLine → Bool → Type 0
Compares address place lines answer = IfSome (slice_get lines place) (λ line. answer ≡ nat_lt address line.hi)

compared : (address place : ℕ) (lines : List MapsLine) (answer : Bool) (d : MapsLine) → place < length lines → Compares address place lines answer
    → answer ≡ nat_lt address (get_or lines place d).hi
compared address place lines answer d within says =
    subst (λ (o : Option MapsLine). IfSome o (λ line. answer ≡ nat_lt address line.hi)) (slice_get-get_or lines place d within) says

-- a later line ends above an earlier one
later_higher : (lines : List MapsLine) → IsMaps lines → (i j : ℕ) (d : MapsLine) → i < j → j < length lines → (get_or lines i d).hi < (get_or lines j d).hi
later_higher lines maps i j d before within = omega (arith, maps.apart i j d before within, maps.spans j d within)

-- where a line ends above an address, so do those behind it
pub above_from : (address place : ℕ) (lines : List MapsLine) → IsMaps lines → place < length lines → Compares address place lines true → EndsAbove address place lines
above_from address place lines maps within says k d low here =
    let first : address < (get_or lines place d).hi = ltb-true address (get_or lines place d).hi (sym (compared address place lines true d within says)) in
    elim (cases_lt place k) [
      | inl more ↦ omega (arith, later_higher lines maps place k d more here)
      | inr same ↦ subst (λ (n : ℕ). address < (get_or lines n d).hi) (omega arith) first
    ]

-- where a line does not, neither do it and those before it
pub below_to : (address place : ℕ) (lines : List MapsLine) → IsMaps lines → place < length lines → Compares address place lines false → EndsWithin address (place + 1) lines
below_to address place lines maps within says k d low =
    let last : (get_or lines place d).hi ≤ address = ltb-false address (get_or lines place d).hi (sym (compared address place lines false d within says)) in
    elim (cases_lt k place) [
      | inl less ↦ omega (arith, later_higher lines maps k place d less within)
      | inr same ↦ subst (λ (n : ℕ). (get_or lines n d).hi ≤ address) (omega arith) last
    ]

-- a line, for lemmas that want one
no_line : MapsLine
no_line = record { lo = 0; hi = 0; prot = record { read = false; write = false; exec = false }; shared = false; offset = 0; major = 0; minor = 0; inode = 0; name = [] }

then_some_is : (b : Bool) (n : ℕ) → then_some b n ≡ cond b (Some n) None
then_some_is true n = refl
then_some_is false n = refl

-- the place that halving ends at is that of the first line above the address, or there is none
pub found_is : (address place : ℕ) (lines : List MapsLine) → place ≤ length lines → EndsWithin address place lines → EndsAbove address place lines
    → then_some (nat_lt place (length lines)) place ≡ first_above address lines
found_is address place lines within below above =
    let first : position_or_len (λ line. nat_lt address line.hi) lines ≡ place =
    position_or_len_is (λ line. nat_lt address line.hi) lines place no_line within
    (λ k before. grind (arith, nat_tests, below k no_line before))
    (λ here. lt-ltb address (get_or lines place no_line).hi (above place no_line (omega arith) here)) in
    then_some_is (nat_lt place (length lines)) place ∙ ap (λ (n : ℕ). cond (nat_lt n (length lines)) (Some n) None) (sym first)

-- a step at most halves what is left: twice the power of two, and half the lines, or none
pub halved : (count size next bound : ℕ) → 0 < size → 2 * next ≤ size → 2 ^ count * max (2 * size) 1 ≤ bound
    → 2 ^ (count + 1) * max (2 * next) 1 ≤ bound
halved count size next bound some half before =
    let left = max (2 * next) 1 in
    let twice : 2 * left ≤ max (2 * size) 1 = omega arith in
    let same : 2 ^ (count + 1) * left ≡ 2 ^ count * (2 * left) = ap (λ (p : ℕ). p * left) (pow-add 2 count 1) ∙ mul_assoc (2 ^ count) 2 left in
    omega (arith, mul-le (2 ^ count) (2 * left) (2 ^ count) (max (2 * size) 1) (omega arith) twice)
