-- For the searches of the code: what blocks a place, and where a search stands.
use Rattle.std.proofs.Common.{◌≡◌, ℕ, ◌+◌, ◌-◌, ◌<◌, ◌≤◌, ◌&&◌, ◌||◌, Bool, true, false, cond, nat_lt, nat_le, List, [], ◌∷◌, Option, Some, None, refl, ◌∙◌, max, arith}
use Rattle.std.specs.List.{list_all}
use Rattle.std.proofs.lemmas.Bool.Decides.{nat_tests}
use Rattle.std.proofs.lemmas.List.Folds.{list_all-map}
use Rattle.mm_types.specs.declared.area.Span.{Span}
use Rattle.mm_types.specs.declared.area.Record.{Record}
use Rattle.area_rules.specs.declared.placement.Bounds.{Bounds}
use Rattle.area_rules.specs.declared.placement.TheConstants.{FLOOR, WINDOW_END}
use Rattle.area_rules.specs.Placement.{is_free, highest_below, high_place, low_place}
use Rattle.area_rules.specs.Blockers.{blocker}
use Rattle.area_list.proofs.Finding.{find_passes, find_fails_all}
use Rattle.area_rules.proofs.Searching.{greatest_is, greatest_none, least_is, least_none}

-- no area has one of the pages
pub free_each : (areas : List Record) (pages start : ℕ)
    → is_free areas pages start ≡ list_all (λ (a : Record). nat_le (start + pages) a.span.lo || nat_le a.span.hi start) areas
unfolding is_free
free_each areas pages start = list_all-map (λ (s : Span). nat_le (start + pages) s.lo || nat_le s.hi start) (λ (a : Record). a.span) areas

-- one area, by its numbers: it is in the way, or the place is free of it
tests_free : (lo hi start pages : ℕ) (area : Record) (found : Option Record) (rest : Bool)
    → cond (nat_lt lo (start + pages) && nat_lt start hi) (Some area) found ≡ None → (found ≡ None → rest ≡ true)
    → ((nat_le (start + pages) lo || nat_le hi start) && rest) ≡ true
tests_free lo hi start pages area found rest none before = grind (arith, nat_tests)

pub free_from_none : (areas : List Record) (pages start : ℕ) → blocker areas pages start ≡ None → is_free areas pages start ≡ true
unfolding blocker is_free
free_from_none [] pages start none = refl
free_from_none (area ∷ areas) pages start none = tests_free area.span.lo area.span.hi start pages area _ _ none (free_from_none areas pages start)

-- an area that was found has a page of the place
pub record IsInWay (pages start : ℕ) (area : Record) : Type 0 where
  pub begins : area.span.lo < start + pages
  pub ends : start < area.span.hi

in_way_tests : (lo hi start pages : ℕ) → (nat_lt lo (start + pages) && nat_lt start hi) ≡ true → (lo < start + pages) × (start < hi)
in_way_tests lo hi start pages passes = (grind (arith, nat_tests), grind (arith, nat_tests))

pub in_way : (areas : List Record) (pages start : ℕ) (area : Record) → blocker areas pages start ≡ Some area → IsInWay pages start area
unfolding blocker
in_way areas pages start area found =
    let tests = in_way_tests area.span.lo area.span.hi start pages (find_passes _ areas area found) in record { begins = tests.0; ends = tests.1 }

taken_tests : (lo hi start pages : ℕ) → lo < start + pages → start < hi → (nat_le (start + pages) lo || nat_le hi start) ≡ false
taken_tests lo hi start pages begins ends = grind (arith, nat_tests)

-- no place that has a page of it is free
pub taken : (areas : List Record) (pages start : ℕ) (area : Record) (other : ℕ) → blocker areas pages start ≡ Some area
    → area.span.lo < other + pages → other < area.span.hi → is_free areas pages other ≡ false
unfolding blocker
taken areas pages start area other found begins ends =
    free_each areas pages other ∙ find_fails_all _ (λ (a : Record). nat_le (other + pages) a.span.lo || nat_le a.span.hi other) areas area found
    (taken_tests area.span.lo area.span.hi other pages begins ends)

-- what the test of a loop says
pub fits_true : (fits : Bool) (m n : ℕ) → fits ≡ nat_le m n → fits ≡ true → m ≤ n
fits_true fits m n is true_ = grind (arith, nat_tests)

pub fits_false : (fits : Bool) (m n : ℕ) → fits ≡ nat_le m n → fits ≡ false → n < m
fits_false fits m n is false_ = grind (arith, nat_tests)

high_tests : (low top pages start end : ℕ) (free : Bool) → end < low + pages → (end < start + pages → start + pages ≤ top → free ≡ false)
    → (nat_le low start && (nat_le (start + pages) top && free)) ≡ false
high_tests low top pages start end free past none = grind (arith, nat_tests)

-- the search from above has nothing to try any more
pub highest_none : (bounds : Bounds) (end : ℕ) (areas : List Record) (pages last : ℕ) → last < bounds.low + pages
    → ((start : ℕ) → last < start + pages → start + pages ≤ end → is_free areas pages start ≡ false) → highest_below bounds end areas pages ≡ None
highest_none bounds end areas pages last past none =
    greatest_none _ _ (λ start below. high_tests bounds.low end pages start last (is_free areas pages start) past (none start))

higher_tests : (low top pages start : ℕ) (free : Bool) → (start + pages ≤ top → free ≡ false) → (nat_le low start && (nat_le (start + pages) top && free)) ≡ false
higher_tests low top pages start free none = grind (arith, nat_tests)

found_tests : (low start end last : ℕ) (free : Bool) → low ≤ start → end ≤ last → free ≡ true → (nat_le low start && (nat_le end last && free)) ≡ true
found_tests low start end last free above within is = grind (arith, nat_tests)

-- the search from above has found a place
pub highest_found : (bounds : Bounds) (end : ℕ) (areas : List Record) (pages last : ℕ) → bounds.low + pages ≤ last → last ≤ end
    → ((start : ℕ) → last < start + pages → start + pages ≤ end → is_free areas pages start ≡ false)
    → is_free areas pages (last - pages) ≡ true → highest_below bounds end areas pages ≡ Some (last - pages)
highest_found bounds end areas pages last room within none free = greatest_is _ _ _ (omega arith)
    (found_tests bounds.low (last - pages) (last - pages + pages) end (is_free areas pages (last - pages)) (omega arith) (omega arith) free)
    (λ start above below. higher_tests bounds.low end pages start (is_free areas pages start) (none start (omega arith)))

-- the search below the top has nothing to try any more
pub high_none : (bounds : Bounds) (areas : List Record) (pages end : ℕ) → end < bounds.low + pages
    → ((start : ℕ) → end < start + pages → start + pages ≤ bounds.top → is_free areas pages start ≡ false) → high_place bounds areas pages ≡ None
unfolding high_place
high_none bounds areas pages end past none = highest_none bounds bounds.top areas pages end past none

-- the search below the top has found a place
pub high_found : (bounds : Bounds) (areas : List Record) (pages end : ℕ) → bounds.low + pages ≤ end → end ≤ bounds.top
    → ((start : ℕ) → end < start + pages → start + pages ≤ bounds.top → is_free areas pages start ≡ false)
    → is_free areas pages (end - pages) ≡ true → high_place bounds areas pages ≡ Some (end - pages)
unfolding high_place
high_found bounds areas pages end room within none free = highest_found bounds bounds.top areas pages end room within none free

low_tests : (low limit pages start next : ℕ) (free : Bool) → limit < next + pages → (low ≤ start → start < next → free ≡ false)
    → (nat_le low start && (nat_le (start + pages) limit && free)) ≡ false
low_tests low limit pages start next free past none = grind (arith, nat_tests)

-- the search from below has nothing to try any more
pub low_none : (bounds : Bounds) (areas : List Record) (pages next : ℕ) → WINDOW_END < next + pages
    → ((start : ℕ) → max FLOOR bounds.low ≤ start → start < next → is_free areas pages start ≡ false) → low_place bounds areas pages ≡ None
unfolding low_place
low_none bounds areas pages next past none =
    least_none _ _ (λ start below. low_tests (max FLOOR bounds.low) WINDOW_END pages start next (is_free areas pages start) past (none start))

lower_tests : (low limit pages start : ℕ) (free : Bool) → (low ≤ start → free ≡ false) → (nat_le low start && (nat_le (start + pages) limit && free)) ≡ false
lower_tests low limit pages start free none = grind (arith, nat_tests)

-- the search from below has found a place
pub low_found : (bounds : Bounds) (areas : List Record) (pages next : ℕ) → max FLOOR bounds.low ≤ next → next + pages ≤ WINDOW_END
    → ((start : ℕ) → max FLOOR bounds.low ≤ start → start < next → is_free areas pages start ≡ false)
    → is_free areas pages next ≡ true → low_place bounds areas pages ≡ Some next
unfolding low_place
low_found bounds areas pages next above room none free = least_is _ _ _ (omega arith)
    (found_tests (max FLOOR bounds.low) next (next + pages) WINDOW_END (is_free areas pages next) above room free)
    (λ start less. lower_tests (max FLOOR bounds.low) WINDOW_END pages start (is_free areas pages start) (λ from. none start from less))
