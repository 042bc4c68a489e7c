-- For `Chunk::look_down` and `Chunk::look_up`: a chunk whose gaps are all too narrow.
use Rattle.std.proofs.Common.{◌≡◌, ◌≤◌, ◌<◌, ◌+◌, inl, inr, ℕ, Bool, true, false, ◌&&◌, ◌||◌, nat_le, List, [], ◌∷◌, length, refl, arith}
use Rattle.std.proofs.lemmas.Bool.{cases_lt}
use Rattle.mm_types.specs.declared.area.Record.{Record}
use Rattle.area_rules.specs.Placement.{is_free}
use Rattle.plain_space.specs.Internal.Chunks.{chunk_low, chunk_high}
use Rattle.plain_space.specs.Internal.Gaps.{widest_gap}
use Rattle.plain_space.proofs.Searching.{taken_tests}

first_false : (a b : Bool) → a ≡ false → (a && b) ≡ false
first_false true b is = absurd (cc)
first_false false b is = refl

second_false : (a b : Bool) → b ≡ false → (a && b) ≡ false
second_false true b is = is
second_false false b is = refl

-- no start whose pages end above the first area and not far above the last is free
pub skipped_down : (pages : ℕ) (areas : List Record) (end start : ℕ) → widest_gap areas < pages → 0 < length areas
    → end < chunk_high areas + pages → chunk_low areas < start + pages → start + pages ≤ end → is_free areas pages start ≡ false
unfolding is_free
skipped_down pages [] end start narrow some above low within = absurd (omega (arith, some))
skipped_down pages (a ∷ []) end start narrow some above low within =
    first_false (nat_le (start + pages) a.span.lo || nat_le a.span.hi start) true (taken_tests a.span.lo a.span.hi start pages low (omega (arith, above, within)))
skipped_down pages (a ∷ (b ∷ rest)) end start narrow some above low within = elim (cases_lt start a.span.hi) [
  | inl inside ↦ first_false (nat_le (start + pages) a.span.lo || nat_le a.span.hi start) (is_free (b ∷ rest) pages start)
      (taken_tests a.span.lo a.span.hi start pages low inside)
  | inr past ↦ second_false (nat_le (start + pages) a.span.lo || nat_le a.span.hi start) (is_free (b ∷ rest) pages start)
      (skipped_down pages (b ∷ rest) end start (omega (arith, narrow)) (omega arith) above (omega (arith, past, narrow)) within)
]

-- and no start below the last end from one on that is not far below the first area
pub skipped_up : (pages : ℕ) (areas : List Record) (start other : ℕ) → widest_gap areas < pages → 0 < length areas
    → chunk_low areas < start + pages → start ≤ other → other < chunk_high areas → is_free areas pages other ≡ false
unfolding is_free
skipped_up pages [] start other narrow some low from before = absurd (omega (arith, some))
skipped_up pages (a ∷ []) start other narrow some low from before =
    first_false (nat_le (other + pages) a.span.lo || nat_le a.span.hi other) true (taken_tests a.span.lo a.span.hi other pages (omega (arith, low, from)) before)
skipped_up pages (a ∷ (b ∷ rest)) start other narrow some low from before = elim (cases_lt other a.span.hi) [
  | inl inside ↦ first_false (nat_le (other + pages) a.span.lo || nat_le a.span.hi other) (is_free (b ∷ rest) pages other)
      (taken_tests a.span.lo a.span.hi other pages (omega (arith, low, from)) inside)
  | inr past ↦ second_false (nat_le (other + pages) a.span.lo || nat_le a.span.hi other) (is_free (b ∷ rest) pages other)
      (skipped_up pages (b ∷ rest) other other (omega (arith, narrow)) (omega arith) (omega (arith, past, narrow)) (omega arith) before)
]
