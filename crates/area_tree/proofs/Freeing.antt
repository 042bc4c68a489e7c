-- For `AreaTree::has_free`: free pages by the first area that ends above the first of them.
use Rattle.std.proofs.Common.{ℕ, ◌≡◌, ◌<◌, ◌≤◌, ◌+◌, ◌-◌, ◌∙◌, Bool, true, false, ◌&&◌, ◌||◌, nat_le, nat_lt, List, [], ◌∷◌, Some, refl, subst, ap, arith}
use Rattle.std.proofs.lemmas.Bool.{cond_both, ltb-true, ltb-false}
use Rattle.std.proofs.lemmas.Bool.Decides.{nat_tests}
use Rattle.std.proofs.lemmas.Option.{same_Some}
use Rattle.mm_types.specs.declared.area.Record.{Record}
use Rattle.area_rules.specs.Placement.{is_free}
use Rattle.split_merge.specs.Finding.{first_from}
use Rattle.area_tree.specs.AreaTrees.{AreasRise}

-- the pages up to end lie below an area, or after it
abbrev misses : ℕ → ℕ → ℕ → ℕ → Bool
misses start end lo hi = nat_le end lo || nat_le hi start

below_first : (start end lo hi : ℕ) (rest : Bool) → end ≤ lo → rest ≡ true → (misses start end lo hi && rest) ≡ true
below_first start end lo hi rest below is = grind (arith, nat_tests)

behind_first : (start end lo hi : ℕ) (rest test : Bool) → hi ≤ start → test ≡ rest → test ≡ (misses start end lo hi && rest)
behind_first start end lo hi rest test behind is = grind (arith, nat_tests)

above_start : (start end lo hi : ℕ) (rest : Bool) → start < hi → (end ≤ lo → rest ≡ true) → nat_le end lo ≡ (misses start end lo hi && rest)
above_start start end lo hi rest above later = grind (arith, nat_tests)

-- pages below all areas are free
free_below : (limit begin : ℕ) (areas : List Record) (pages start : ℕ) → AreasRise limit begin areas → start + pages ≤ begin → is_free areas pages start ≡ true
unfolding is_free
free_below limit begin [] pages start rises below = refl
free_below limit begin (area ∷ areas) pages start (begins, some, upto, rest) below =
    below_first start (start + pages) area.span.lo area.span.hi (is_free areas pages start) (omega (arith, below, begins))
    (free_below limit area.span.hi areas pages start rest (omega (arith, below, begins, some)))

free_before : (limit begin : ℕ) (areas : List Record) (pages start : ℕ) (area : Record) → AreasRise limit begin areas → first_from areas start ≡ Some area
    → nat_le (start + pages) area.span.lo ≡ is_free areas pages start
unfolding is_free
free_before limit begin [] pages start area rises found = cc
free_before limit begin (first ∷ areas) pages start area (begins, some, upto, rest) found =
    cond_both (nat_lt start first.span.hi) (Some first) (first_from areas start)
    (λ found. found ≡ Some area → nat_le (start + pages) area.span.lo ≡ is_free (first ∷ areas) pages start)
    (λ here is. subst (λ (a : Record). nat_le (start + pages) a.span.lo ≡ is_free (first ∷ areas) pages start) (same_Some first area is)
    (above_start start (start + pages) first.span.lo first.span.hi (is_free areas pages start) (ltb-true start first.span.hi here)
    (λ below. free_below limit first.span.hi areas pages start rest (omega (arith, below, some)))))
    (λ past is. behind_first start (start + pages) first.span.lo first.span.hi (is_free areas pages start) (nat_le (start + pages) area.span.lo)
    (ltb-false start first.span.hi past) (free_before limit first.span.hi areas pages start area rest is))
    found

-- where an area ends above the first page, the pages are free if they end where the first such area begins, or below that
pub free_up_to : (limit : ℕ) (areas : List Record) (lo hi : ℕ) (area : Record) → AreasRise limit 0 areas → lo ≤ hi → first_from areas lo ≡ Some area
    → nat_le hi area.span.lo ≡ is_free areas (hi - lo) lo
free_up_to limit areas lo hi area rises order found =
    let same : hi ≡ lo + (hi - lo) = omega (arith, order) in
    ap (λ n. nat_le n area.span.lo) same ∙ free_before limit 0 areas (hi - lo) lo area rises found

-- and up to a limit
pub within_limit : (hi limit : ℕ) (free test : Bool) → hi ≤ limit → test ≡ free → test ≡ (nat_le hi limit && free)
within_limit hi limit free test upto is = grind (arith, nat_tests)

pub over_limit : (hi limit : ℕ) (free : Bool) → limit < hi → false ≡ (nat_le hi limit && free)
over_limit hi limit free over = grind (arith, nat_tests)
