-- For `AreaTree::place`: free pages among pairs, and among the areas that their slots show.
use Rattle.std.proofs.Common.{ℕ, ◌≡◌, ◌<◌, ◌+◌, ◌∙◌, max, Bool, true, List, map, Option, Some, None, refl, sym, ap, arith}
use Rattle.std.specs.Prelude.{MatchOption, nat_le, ◌&&◌}
use Rattle.std.specs.Option.{option_or}
use Rattle.std.proofs.lemmas.Bool.{and_parts, leb-true}
use Rattle.mm_types.specs.declared.area.Span.{Span}
use Rattle.mm_types.specs.declared.area.Page.{Page}
use Rattle.mm_types.specs.declared.area.Record.{Record}
use Rattle.mm_types.specs.Searches.{IsGreatest, IsLeast, NonePasses, is_clear_of}
use Rattle.area_rules.specs.declared.placement.Bounds.{Bounds}
use Rattle.area_rules.specs.declared.placement.TheConstants.{FLOOR, WINDOW_END}
use Rattle.area_rules.specs.Placement.{is_free, greatest_below, least_below, high_place, low_place, place_high, place_low}
use Rattle.area_rules.proofs.Searching.{greatest_is, greatest_none, least_is, least_none}
use Rattle.maple_node.specs.Trees.{Pair}
use Rattle.maple_gap.specs.Gaps.{span_of, fits}
use Rattle.split_merge.specs.PageNumbers.{page_number}
use Rattle.area_tree.specs.AreaTrees.{shown_at, areas_shown, AreRecords}
use Rattle.area_tree.proofs.Order.{areas_spans}

-- pages that no pair has are those that no area has
free_same : (records : List Record) (pages start : ℕ) (pairs : List Pair) → AreRecords records pairs
    → is_clear_of (map span_of pairs) pages start ≡ is_free (areas_shown (map (shown_at records) pairs)) pages start
unfolding is_free
free_same records pages start pairs spans = ap (λ (s : List Span). is_clear_of s pages start) (areas_spans records pairs spans)

-- whether pages are free from a page up to another
passes_at : List Record → ℕ → ℕ → ℕ → ℕ → Bool
passes_at areas pages lo hi start = nat_le lo start && (nat_le (start + pages) hi && is_free areas pages start)

fits_same : (records : List Record) (pages lo hi : ℕ) (pairs : List Pair) → AreRecords records pairs → (start : ℕ)
    → fits pairs pages lo hi start ≡ passes_at (areas_shown (map (shown_at records) pairs)) pages lo hi start
unfolding fits passes_at
fits_same records pages lo hi pairs spans start = ap (λ (b : Bool). nat_le lo start && (nat_le (start + pages) hi && b)) (free_same records pages start pairs spans)

-- they end where their window ends
within : (areas : List Record) (pages lo hi start : ℕ) → passes_at areas pages lo hi start ≡ true → start < hi + 1
unfolding passes_at
within areas pages lo hi start passes =
    let parts = and_parts (nat_le lo start) (nat_le (start + pages) hi && is_free areas pages start) passes in
    let inner = and_parts (nat_le (start + pages) hi) (is_free areas pages start) parts.1 in
    omega (arith, leb-true (start + pages) hi inner.0)

-- a search without a bound finds what one below a bound does that all pass
greatest_found : (passes others : ℕ → Bool) (bound : ℕ) (result : Option Page) → ((n : ℕ) → passes n ≡ others n)
    → ((n : ℕ) → others n ≡ true → n < bound) → MatchOption result (NonePasses passes) (λ (page : Page). IsGreatest passes page.0)
    → page_number result ≡ greatest_below others bound
greatest_found passes others bound None same below found = sym (greatest_none others bound (λ n _. sym (same n) ∙ found n))
greatest_found passes others bound (Some page) same below found = sym (greatest_is others bound page.0 (below page.0 (sym (same page.0) ∙ found.passing))
    (sym (same page.0) ∙ found.passing) (λ m above _. sym (same m) ∙ found.none_greater m above))

least_found : (passes others : ℕ → Bool) (bound : ℕ) (result : Option Page) → ((n : ℕ) → passes n ≡ others n)
    → ((n : ℕ) → others n ≡ true → n < bound) → MatchOption result (NonePasses passes) (λ (page : Page). IsLeast passes page.0)
    → page_number result ≡ least_below others bound
least_found passes others bound None same below found = sym (least_none others bound (λ n _. sym (same n) ∙ found n))
least_found passes others bound (Some page) same below found = sym (least_is others bound page.0 (below page.0 (sym (same page.0) ∙ found.passing))
    (sym (same page.0) ∙ found.passing) (λ m under. sym (same m) ∙ found.none_lesser m under))

-- the two searches
pub high_found : (records : List Record) (bounds : Bounds) (pages : ℕ) (pairs : List Pair) (result : Option Page) → AreRecords records pairs
    → MatchOption result (NonePasses (fits pairs pages bounds.low bounds.top)) (λ (page : Page). IsGreatest (fits pairs pages bounds.low bounds.top) page.0)
    → page_number result ≡ high_place bounds (areas_shown (map (shown_at records) pairs)) pages
unfolding high_place passes_at
high_found records bounds pages pairs result spans found =
    greatest_found (fits pairs pages bounds.low bounds.top) (passes_at (areas_shown (map (shown_at records) pairs)) pages bounds.low bounds.top) (bounds.top + 1) result
    (fits_same records pages bounds.low bounds.top pairs spans)
    (within (areas_shown (map (shown_at records) pairs)) pages bounds.low bounds.top) found

pub low_found : (records : List Record) (bounds : Bounds) (pages low : ℕ) (pairs : List Pair) (result : Option Page) → AreRecords records pairs
    → low ≡ max FLOOR bounds.low
    → MatchOption result (NonePasses (fits pairs pages low WINDOW_END)) (λ (page : Page). IsLeast (fits pairs pages low WINDOW_END) page.0)
    → page_number result ≡ low_place bounds (areas_shown (map (shown_at records) pairs)) pages
unfolding low_place passes_at
low_found records bounds pages low pairs result spans is found =
    least_found (fits pairs pages low WINDOW_END) (passes_at (areas_shown (map (shown_at records) pairs)) pages low WINDOW_END) (WINDOW_END + 1) result
    (fits_same records pages low WINDOW_END pairs spans)
    (within (areas_shown (map (shown_at records) pairs)) pages low WINDOW_END) found
    ∙ ap (λ (n : ℕ). least_below (passes_at (areas_shown (map (shown_at records) pairs)) pages n WINDOW_END) (WINDOW_END + 1)) is

-- the search of a high call
pub wide_found : (records : List Record) (bounds : Bounds) (pages : ℕ) (pairs : List Pair) (result : Option Page) → AreRecords records pairs
    → MatchOption result (NonePasses (fits pairs pages bounds.low bounds.limit)) (λ (page : Page). IsGreatest (fits pairs pages bounds.low bounds.limit) page.0)
    → page_number result ≡ place_high bounds (areas_shown (map (shown_at records) pairs)) pages
unfolding place_high passes_at
wide_found records bounds pages pairs result spans found =
    greatest_found (fits pairs pages bounds.low bounds.limit) (passes_at (areas_shown (map (shown_at records) pairs)) pages bounds.low bounds.limit) (bounds.limit + 1) result
    (fits_same records pages bounds.low bounds.limit pairs spans)
    (within (areas_shown (map (shown_at records) pairs)) pages bounds.low bounds.limit) found

-- without a hint the second search follows the first
placed : (bounds : Bounds) (areas : List Record) (pages : ℕ) → place_low bounds areas pages ≡ option_or (high_place bounds areas pages) (low_place bounds areas pages)
unfolding place_low
placed bounds areas pages = refl

-- where the first search finds a place, and where only the second may
pub high_placed : (records : List Record) (bounds : Bounds) (pages : ℕ) (pairs : List Pair) (result : Option Page) (start : Page) → AreRecords records pairs
    → MatchOption result (NonePasses (fits pairs pages bounds.low bounds.top)) (λ (page : Page). IsGreatest (fits pairs pages bounds.low bounds.top) page.0)
    → result ≡ Some start → Some start.0 ≡ place_low bounds (areas_shown (map (shown_at records) pairs)) pages
high_placed records bounds pages pairs result start spans found is =
    let areas : List Record = areas_shown (map (shown_at records) pairs) in
    let high : Some start.0 ≡ high_place bounds areas pages = sym (ap page_number is) ∙ high_found records bounds pages pairs result spans found in
    sym (placed bounds areas pages ∙ ap (λ (o : Option ℕ). option_or o (low_place bounds areas pages)) (sym high))

pub low_placed : (records : List Record) (bounds : Bounds) (pages low : ℕ) (pairs : List Pair) (first second : Option Page) → AreRecords records pairs
    → MatchOption first (NonePasses (fits pairs pages bounds.low bounds.top)) (λ (page : Page). IsGreatest (fits pairs pages bounds.low bounds.top) page.0)
    → first ≡ None → low ≡ max FLOOR bounds.low
    → MatchOption second (NonePasses (fits pairs pages low WINDOW_END)) (λ (page : Page). IsLeast (fits pairs pages low WINDOW_END) page.0)
    → page_number second ≡ place_low bounds (areas_shown (map (shown_at records) pairs)) pages
low_placed records bounds pages low pairs first second spans found is same more =
    let areas : List Record = areas_shown (map (shown_at records) pairs) in
    let high : None ≡ high_place bounds areas pages = sym (ap page_number is) ∙ high_found records bounds pages pairs first spans found in
    low_found records bounds pages low pairs second spans same more
    ∙ sym (placed bounds areas pages ∙ ap (λ (o : Option ℕ). option_or o (low_place bounds areas pages)) (sym high))
