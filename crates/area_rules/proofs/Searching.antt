-- For the laws of the two searches: they find the greatest and the least number that passes.
use Rattle.std.proofs.Common.{◌≡◌, ◌↔◌, ℕ, zero, suc, ◌<◌, ◌&&◌, inl, inr, Bool, true, false, cond, nat_lt, Option, Some, None, refl, sym, ap, subst, arith}
use Rattle.std.proofs.lemmas.Bool.{cases_lt}
use Rattle.std.proofs.lemmas.Bool.Decides.{nat_tests}
use Rattle.mm_types.specs.Searches.{IsGreatest, IsLeast, NonePasses}
use Rattle.area_rules.specs.Placement.{greatest_below, least_below, passes_below}
use Rattle.std.specs.Option.{option_or}

pub greatest_none : (passes : ℕ → Bool) (bound : ℕ) → ((n : ℕ) → n < bound → passes n ≡ false) → greatest_below passes bound ≡ None
unfolding greatest_below
greatest_none passes zero none = refl
greatest_none passes (suc n) none = rw (none n (omega arith)) (greatest_none passes n (λ m below. none m (omega arith)))

pub greatest_is : (passes : ℕ → Bool) (bound n : ℕ) → n < bound → passes n ≡ true → ((m : ℕ) → n < m → m < bound → passes m ≡ false)
    → greatest_below passes bound ≡ Some n
unfolding greatest_below
greatest_is passes zero n below passing none = absurd (omega (arith, below))
greatest_is passes (suc bound) n below passing none = elim (cases_lt n bound) [
  | inl less ↦
      rw (none bound less (omega arith)) (greatest_is passes bound n less passing (λ m above under. none m above (omega arith)))
  | inr more ↦
      let same : n ≡ bound = omega (arith, below) in
      let last : passes bound ≡ true = subst (λ m. passes m ≡ true) same passing in rw last (ap (λ m. Some m) (sym same))
]

-- the other way round, by whether the last number passes
greatest_back : (passes : ℕ → Bool) (bound n : ℕ) (last : Bool) → passes bound ≡ last → cond last (Some bound) (greatest_below passes bound) ≡ Some n
    → (greatest_below passes bound ≡ Some n → (n < bound) × (passes n ≡ true) × ((m : ℕ) → n < m → m < bound → passes m ≡ false))
    → (n < suc bound) × (passes n ≡ true) × ((m : ℕ) → n < m → m < suc bound → passes m ≡ false)
greatest_back passes bound n true last found before = let same : bound ≡ n = cc in
    (omega arith, subst (λ m. passes m ≡ true) same last, λ m above under. absurd (omega arith))
greatest_back passes bound n false last found before = let is = before found in (
  omega (arith, is.0),
  is.1,
  λ m above under. elim (cases_lt m bound) [
    | inl less ↦ is.2 m above less
    | inr more ↦
        let same : bound ≡ m = omega arith in subst (λ k. passes k ≡ false) same last
  ],
)

greatest_some : (passes : ℕ → Bool) (bound n : ℕ) → greatest_below passes bound ≡ Some n
    → (n < bound) × (passes n ≡ true) × ((m : ℕ) → n < m → m < bound → passes m ≡ false)
unfolding greatest_below
greatest_some passes zero n found = cc
greatest_some passes (suc bound) n found = greatest_back passes bound n (passes bound) refl found (greatest_some passes bound n)

none_back : (passes : ℕ → Bool) (bound : ℕ) (last : Bool) → passes bound ≡ last → cond last (Some bound) (greatest_below passes bound) ≡ None
    → (greatest_below passes bound ≡ None → (n : ℕ) → n < bound → passes n ≡ false) → (n : ℕ) → n < suc bound → passes n ≡ false
none_back passes bound true last found before = cc
none_back passes bound false last found before = λ m under. elim (cases_lt m bound) [
  | inl less ↦ before found m less
  | inr more ↦
      let same : bound ≡ m = omega arith in subst (λ k. passes k ≡ false) same last
]

none_from_greatest : (passes : ℕ → Bool) (bound : ℕ) → greatest_below passes bound ≡ None → (n : ℕ) → n < bound → passes n ≡ false
unfolding greatest_below
none_from_greatest passes zero found = λ m under. absurd (omega arith)
none_from_greatest passes (suc bound) found = none_back passes bound (passes bound) refl found (none_from_greatest passes bound)

pub least_none : (passes : ℕ → Bool) (bound : ℕ) → ((n : ℕ) → n < bound → passes n ≡ false) → least_below passes bound ≡ None
unfolding least_below
least_none passes zero none = refl
least_none passes (suc n) none = rw (least_none passes n (λ m below. none m (omega arith)), none n (omega arith))

pub least_is : (passes : ℕ → Bool) (bound n : ℕ) → n < bound → passes n ≡ true → ((m : ℕ) → m < n → passes m ≡ false)
    → least_below passes bound ≡ Some n
unfolding least_below
least_is passes zero n below passing none = absurd (omega (arith, below))
least_is passes (suc bound) n below passing none = elim (cases_lt n bound) [
  | inl less ↦ rw (least_is passes bound n less passing none)
  | inr more ↦
      let same : n ≡ bound = omega (arith, below) in
      let last : passes bound ≡ true = subst (λ m. passes m ≡ true) same passing in
      rw (least_none passes bound (λ m under. none m (omega arith)), last) (ap (λ m. Some m) (sym same))
]

-- the other way round, by what the search below the last number found and whether that passes
least_back : (passes : ℕ → Bool) (bound n : ℕ) (before : Option ℕ) (last : Bool) → least_below passes bound ≡ before → passes bound ≡ last
    → option_or before (cond last (Some bound) None) ≡ Some n
    → (least_below passes bound ≡ Some n → (n < bound) × (passes n ≡ true) × ((m : ℕ) → m < n → passes m ≡ false))
    → (least_below passes bound ≡ None → (m : ℕ) → m < bound → passes m ≡ false)
    → (n < suc bound) × (passes n ≡ true) × ((m : ℕ) → m < n → passes m ≡ false)
least_back passes bound n (Some m) last search passing found is none = let found_before = is cc in
    (omega (arith, found_before.0), found_before.1, found_before.2)
least_back passes bound n None true search passing found is none = let same : bound ≡ n = cc in
    (omega arith, subst (λ m. passes m ≡ true) same passing, λ m under. none search m (omega arith))
least_back passes bound n None false search passing found is none = cc

-- nothing found below one more number
least_none_back : (passes : ℕ → Bool) (bound : ℕ) (before : Option ℕ) (last : Bool) → least_below passes bound ≡ before → passes bound ≡ last
    → option_or before (cond last (Some bound) None) ≡ None
    → (least_below passes bound ≡ None → (n : ℕ) → n < bound → passes n ≡ false) → (n : ℕ) → n < suc bound → passes n ≡ false
least_none_back passes bound (Some m) last search passing found none = cc
least_none_back passes bound None true search passing found none = cc
least_none_back passes bound None false search passing found none = λ m under. elim (cases_lt m bound) [
  | inl less ↦ none search m less
  | inr more ↦
      let same : bound ≡ m = omega arith in subst (λ k. passes k ≡ false) same passing
]

pub none_from_least : (passes : ℕ → Bool) (bound : ℕ) → least_below passes bound ≡ None → (n : ℕ) → n < bound → passes n ≡ false
unfolding least_below
none_from_least passes zero found = λ m under. absurd (omega arith)
none_from_least passes (suc bound) found = least_none_back passes bound (least_below passes bound) (passes bound) refl refl found (none_from_least passes bound)

pub least_some : (passes : ℕ → Bool) (bound n : ℕ) → least_below passes bound ≡ Some n
    → (n < bound) × (passes n ≡ true) × ((m : ℕ) → m < n → passes m ≡ false)
unfolding least_below
least_some passes zero n found = cc
least_some passes (suc bound) n found = least_back passes bound n (least_below passes bound) (passes bound) refl refl found
    (least_some passes bound n) (none_from_least passes bound)

-- what passes below the bound
both_tests : (bound n : ℕ) (passing : Bool) → (nat_lt n bound && passing) ≡ true → (n < bound) × (passing ≡ true)
both_tests bound n passing both = (grind (arith, nat_tests), grind (arith, nat_tests))

to_both : (bound n : ℕ) (passing : Bool) → n < bound → passing ≡ true → (nat_lt n bound && passing) ≡ true
to_both bound n passing below is = grind (arith, nat_tests)

fails_test : (bound n : ℕ) (passing : Bool) → (nat_lt n bound && passing) ≡ false → n < bound → passing ≡ false
fails_test bound n passing both below = grind (arith, nat_tests)

to_fails : (bound n : ℕ) (passing : Bool) → (n < bound → passing ≡ false) → (nat_lt n bound && passing) ≡ false
to_fails bound n passing fails = grind (arith, nat_tests)

none_below : (passes : ℕ → Bool) (bound : ℕ) → ((n : ℕ) → n < bound → passes n ≡ false) ↔ NonePasses (passes_below passes bound)
none_below passes bound = (λ none n. to_fails bound n (passes n) (none n), λ none n. fails_test bound n (passes n) (none n))

-- the laws
pub greatest_found : (passes : ℕ → Bool) (bound n : ℕ) → (greatest_below passes bound ≡ Some n) ↔ IsGreatest (passes_below passes bound) n
greatest_found passes bound n = (
  λ found. let is = greatest_some passes bound n found in record {
    passing = to_both bound n (passes n) is.0 is.1;
    none_greater = λ m above. to_fails bound m (passes m) (is.2 m above);
  },
  λ is. let tests = both_tests bound n (passes n) is.passing in
      greatest_is passes bound n tests.0 tests.1 (λ m above. fails_test bound m (passes m) (is.none_greater m above)),
)

pub greatest_not_found : (passes : ℕ → Bool) (bound : ℕ) → (greatest_below passes bound ≡ None) ↔ NonePasses (passes_below passes bound)
greatest_not_found passes bound = (
  λ found. (none_below passes bound).0 (none_from_greatest passes bound found),
  λ none. greatest_none passes bound ((none_below passes bound).1 none),
)

pub least_found : (passes : ℕ → Bool) (bound n : ℕ) → (least_below passes bound ≡ Some n) ↔ IsLeast (passes_below passes bound) n
least_found passes bound n = (
  λ found. let is = least_some passes bound n found in record {
    passing = to_both bound n (passes n) is.0 is.1;
    none_lesser = λ m less. to_fails bound m (passes m) (λ _. is.2 m less);
  },
  λ is. let tests = both_tests bound n (passes n) is.passing in
      least_is passes bound n tests.0 tests.1 (λ m less. fails_test bound m (passes m) (is.none_lesser m less) (omega (arith, less, tests.0))),
)

pub least_not_found : (passes : ℕ → Bool) (bound : ℕ) → (least_below passes bound ≡ None) ↔ NonePasses (passes_below passes bound)
least_not_found passes bound = (
  λ found. (none_below passes bound).0 (none_from_least passes bound found),
  λ none. least_none passes bound ((none_below passes bound).1 none),
)
