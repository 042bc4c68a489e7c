-- What searches for free pages look for: the greatest or the least number that passes a test, and pages that no span has.
use Rattle.std.specs.Prelude.{ℕ, ◌≡◌, ◌<◌, ◌+◌, Bool, true, false, ◌||◌, nat_le, List}
use Rattle.std.specs.List.{list_all}
use Rattle.mm_types.specs.declared.area.Span.{Span}

-- a number passes, and no greater one does
pub record IsGreatest (passes : ℕ → Bool) (n : ℕ) : Type 0 where
  pub passing : passes n ≡ true
  pub none_greater : (m : ℕ) → n < m → passes m ≡ false

-- a number passes, and no lesser one does
pub record IsLeast (passes : ℕ → Bool) (n : ℕ) : Type 0 where
  pub passing : passes n ≡ true
  pub none_lesser : (m : ℕ) → m < n → passes m ≡ false

-- no number passes
abbrev pub NonePasses : (ℕ → Bool) → Type 0
NonePasses passes = (n : ℕ) → passes n ≡ false

-- whether none of the spans has one of so many pages from this start on
abbrev pub is_clear_of : List Span → ℕ → ℕ → Bool
is_clear_of spans pages start = list_all (λ span. nat_le (start + pages) span.lo || nat_le span.hi start) spans
