-- For `SpanTree::elapsed`, `SpanTree::scan` and others: the greatest tree whose grace period has elapsed.
use Rattle.std.proofs.Common.{ℕ, ◌≡◌, ◌<◌, ◌≤◌, ◌+◌, ◌-◌, Bool, true, false, not, ◌&&◌, nat_lt, nat_le, Option, Some, None, is_some, refl, ap, arith, inl, inr}
use Rattle.std.specs.Option.{unwrap_or}
use Rattle.std.proofs.lemmas.Bool.{cases_lt, both_ways}
use Rattle.std.proofs.lemmas.Bool.Decides.{nat_tests}
use Rattle.area_rules.specs.Placement.{greatest_below, least_below}
use Rattle.area_rules.proofs.Searching.{none_from_least, least_none, greatest_found, greatest_not_found}

-- whether one of so many rows waits that left at a tree's publish or before
abbrev held_back : (ℕ → Bool) → (ℕ → ℕ) → ℕ → ℕ → Bool
held_back waits since n tree = is_some (least_below (λ row. waits row && nat_le (since row) tree) n)

-- the greatest tree, up to a number, that none of so many rows holds back
abbrev elapsed_among : (ℕ → Bool) → (ℕ → ℕ) → ℕ → ℕ → ℕ
elapsed_among waits since number n = unwrap_or (greatest_below (λ tree. not (held_back waits since n tree)) (number + 1)) 0

-- a tree that no row holds back is below what each row waits for
later_than : (left tree : ℕ) (waits : Bool) → (waits && nat_le left tree) ≡ false → waits ≡ true → tree < left
later_than left tree waits none is = grind (arith, nat_tests)

no_hold : (left tree : ℕ) (waits : Bool) → (waits ≡ true → tree < left) → (waits && nat_le left tree) ≡ false
no_hold left tree true later = let less = later refl in grind (arith, nat_tests)
no_hold left tree false later = refl

none_held : (found : Option ℕ) → is_some found ≡ false → found ≡ None
none_held None is = refl
none_held (Some row) is = cc

passes_not : (held : Bool) → not held ≡ true → held ≡ false
passes_not true is = cc
passes_not false is = refl

below_each : (waits : ℕ → Bool) (since : ℕ → ℕ) (n tree row : ℕ) → held_back waits since n tree ≡ false → row < n → waits row ≡ true → tree < since row
below_each waits since n tree row free within is =
    let holds : ℕ → Bool = λ row. waits row && nat_le (since row) tree in
    later_than (since row) tree (waits row) (none_from_least holds n (none_held (least_below holds n) free) row within) is

free_of_each : (waits : ℕ → Bool) (since : ℕ → ℕ) (n tree : ℕ) → ((row : ℕ) → row < n → waits row ≡ true → tree < since row)
    → held_back waits since n tree ≡ false
free_of_each waits since n tree each =
    ap is_some (least_none (λ row. waits row && nat_le (since row) tree) n (λ row within. no_hold (since row) tree (waits row) (each row within)))

-- what a search for it found
both_tests : (bound n : ℕ) (held : Bool) → (nat_lt n bound && not held) ≡ true → (n < bound) × (held ≡ false)
both_tests bound n held both = (grind (arith, nat_tests), grind (arith, nat_tests))

fails_test : (bound n : ℕ) (held : Bool) → (nat_lt n bound && not held) ≡ false → n < bound → held ≡ true
fails_test bound n held none below = grind (arith, nat_tests)

-- it is at most the present tree
pub wait-most : (waits : ℕ → Bool) (since : ℕ → ℕ) (number n : ℕ) → elapsed_among waits since number n ≤ number
wait-most waits since number n = at (greatest_below passes (number + 1)) refl
  where
    passes : ℕ → Bool
    passes tree = not (held_back waits since n tree)

    at : (found : Option ℕ) → greatest_below passes (number + 1) ≡ found → unwrap_or found 0 ≤ number
    at None none = omega arith
    at (Some tree) is =
        let most = (both_tests (number + 1) tree (held_back waits since n tree) ((greatest_found passes (number + 1) tree).0 is).passing).0 in omega (arith, most)

-- and below what each row waits for
pub wait-below : (waits : ℕ → Bool) (since : ℕ → ℕ) (number n row : ℕ) → row < n → waits row ≡ true
    → elapsed_among waits since number n ≤ since row - 1
wait-below waits since number n row within is = at (greatest_below passes (number + 1)) refl
  where
    passes : ℕ → Bool
    passes tree = not (held_back waits since n tree)

    at : (found : Option ℕ) → greatest_below passes (number + 1) ≡ found → unwrap_or found 0 ≤ since row - 1
    at None none = omega arith
    at (Some tree) found =
        let free = (both_tests (number + 1) tree (held_back waits since n tree) ((greatest_found passes (number + 1) tree).0 found).passing).1 in
        let less = below_each waits since n tree row free within is in omega (arith, less)

-- and the greatest such number
pub wait-greatest : (waits : ℕ → Bool) (since : ℕ → ℕ) (number n x : ℕ) → x ≤ number
    → ((row : ℕ) → row < n → waits row ≡ true → x ≤ since row - 1) → x ≤ elapsed_among waits since number n
wait-greatest waits since number n x most each = at (greatest_below passes (number + 1)) refl
  where
    passes : ℕ → Bool
    passes tree = not (held_back waits since n tree)

    free : 0 < x → held_back waits since n x ≡ false
    free some = free_of_each waits since n x (λ row within is. let less = each row within is in omega (arith, less, some))

    at : (found : Option ℕ) → greatest_below passes (number + 1) ≡ found → x ≤ unwrap_or found 0
    at None none = elim (cases_lt 0 x) [
      | inl some ↦ absurd (both_ways (held_back waits since n x) (free some)
          (fails_test (number + 1) x (held_back waits since n x) ((greatest_not_found passes (number + 1)).0 none x) (omega (arith, most))))
      | inr zero ↦ omega (arith, zero)
    ]
    at (Some tree) found = elim (cases_lt tree x) [
      | inl above ↦ absurd (both_ways (held_back waits since n x) (free (omega (arith, above)))
          (fails_test (number + 1) x (held_back waits since n x) (((greatest_found passes (number + 1) tree).0 found).none_greater x above) (omega (arith, most))))
      | inr not_above ↦ omega (arith, not_above)
    ]

-- where no row waits it is the present tree
pub wait-none : (waits : ℕ → Bool) (since : ℕ → ℕ) (number n : ℕ) → ((row : ℕ) → waits row ≡ false) → elapsed_among waits since number n ≡ number
wait-none waits since number n none =
    let most = wait-most waits since number n in
    let least = wait-greatest waits since number n number (omega arith) (λ row _ is. absurd (both_ways (waits row) (none row) is)) in
    omega (arith, most, least)
