-- For `is_free`: free ranges by the first area that ends above their begin.
use Rattle.std.proofs.Common.{◌≡◌, ◌≤◌, ◌<◌, ◌+◌, ℕ, Bool, true, ◌&&◌, ◌||◌, nat_le, nat_lt, List, [], ◌∷◌, Some, None, refl, subst, arith}
use Rattle.std.specs.List.{AllByRecursion as Each}
use Rattle.std.proofs.lemmas.Bool.{cond_both, ltb-true, ltb-false}
use Rattle.std.proofs.lemmas.Bool.Decides.{nat_tests}
use Rattle.std.proofs.lemmas.Option.{same_Some}
use Rattle.mm_types.specs.declared.area.Record.{Record}
use Rattle.area_rules.specs.Placement.{is_free}
use Rattle.area_list.proofs.Elements.{Each-weaker}
use Rattle.area_list.proofs.Order.{Before}
use Rattle.split_merge.specs.Finding.{first_from}
use Rattle.split_merge.proofs.Walking.{InOrder}

-- the range up to end lies below an area, or after it
abbrev misses : ℕ → ℕ → ℕ → ℕ → Bool
misses start end lo hi = nat_le end lo || nat_le hi start

below_first : (start end lo hi : ℕ) (rest : Bool) → end ≤ lo → rest ≡ true → (misses start end lo hi && rest) ≡ true
below_first start end lo hi rest below is = grind (arith, nat_tests)

behind_first : (start end lo hi : ℕ) (rest test : Bool) → hi ≤ start → test ≡ rest → test ≡ (misses start end lo hi && rest)
behind_first start end lo hi rest test behind is = grind (arith, nat_tests)

above_start : (start end lo hi : ℕ) (rest : Bool) → start < hi → (end ≤ lo → rest ≡ true) → nat_le end lo ≡ (misses start end lo hi && rest)
above_start start end lo hi rest above later = grind (arith, nat_tests)

-- a range below each area is free
pub free_below : (areas : List Record) (pages start : ℕ) → Each (λ area. start + pages ≤ area.span.lo) areas → is_free areas pages start ≡ true
unfolding is_free
free_below [] pages start below = refl
free_below (area ∷ areas) pages start below =
    below_first start (start + pages) area.span.lo area.span.hi (is_free areas pages start) below.0 (free_below areas pages start below.1)

-- where an area ends above the range's begin, the range is free if it ends where the first such area begins, or below that
pub free_before : (areas : List Record) (pages start : ℕ) (area : Record) → InOrder areas → first_from areas start ≡ Some area
    → nat_le (start + pages) area.span.lo ≡ is_free areas pages start
unfolding is_free
free_before [] pages start area o found = cc
free_before (first ∷ areas) pages start area o found =
    cond_both (nat_lt start first.span.hi) (Some first) (first_from areas start)
    (λ found. found ≡ Some area → nat_le (start + pages) area.span.lo ≡ is_free (first ∷ areas) pages start)
    (λ here is. subst (λ (a : Record). nat_le (start + pages) a.span.lo ≡ is_free (first ∷ areas) pages start) (same_Some first area is)
    (above_start start (start + pages) first.span.lo first.span.hi (is_free areas pages start) (ltb-true start first.span.hi here)
    (λ below. free_below areas pages start (Each-weaker (Before first) (λ next. start + pages ≤ next.span.lo)
    (λ next before. omega (arith, o.valid.0.some_pages)) areas o.ordered.0))))
    (λ past is. behind_first start (start + pages) first.span.lo first.span.hi (is_free areas pages start) (nat_le (start + pages) area.span.lo)
    (ltb-false start first.span.hi past)
    (free_before areas pages start area (record { valid = o.valid.1; ordered = o.ordered.1 }) is))
    found

-- and where none does, it is free
pub free_without : (areas : List Record) (pages start : ℕ) → first_from areas start ≡ None → true ≡ is_free areas pages start
unfolding is_free
free_without [] pages start none = refl
free_without (first ∷ areas) pages start none =
    cond_both (nat_lt start first.span.hi) (Some first) (first_from areas start)
    (λ found. found ≡ None → true ≡ is_free (first ∷ areas) pages start)
    (λ here is. cc)
    (λ past is. behind_first start (start + pages) first.span.lo first.span.hi (is_free areas pages start) true
    (ltb-false start first.span.hi past) (free_without areas pages start is))
    none
