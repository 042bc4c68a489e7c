-- For `scan_down`, `scan_up` and others: areas in order, looked at one after the other for room.
use Rattle.std.proofs.Common.{Bool, AllPairs, ◌≡◌, ◌≤◌, ◌<◌, ◌+◌, ◌-◌, ◌⊎◌, inl, inr, ℕ, true, false, ◌||◌, nat_le, nat_lt, List, [], ◌∷◌, length, take, get_or, slice_get, Some, None, ap, ◌∙◌, sym, subst, arith}
use Rattle.std.specs.List.{last_or, prefix_len}
use Rattle.std.specs.List.Sorted.{IsNonDecreasingBy}
use Rattle.std.proofs.lemmas.Bool.Decides.{nat_tests}
use Rattle.std.proofs.lemmas.List.{length-take-le, get_or-take}
use Rattle.std.proofs.lemmas.List.Folds.{list_all_at}
use Rattle.std.proofs.lemmas.List.Sums.{list_all-from_AllPass, prefix_len_passes, prefix_len_stops}
use Rattle.std.proofs.lemmas.Option.{slice_get-get_or, slice_get_within, get_or_from_slice_get}
use Rattle.std.proofs.lemmas.Bool.{cases_lt, cases_eq, ltb-true, ltb-false, leb-true, leb-false}
use Rattle.mm_types.specs.declared.area.Record.{Record}
use Rattle.area_rules.specs.declared.placement.Bounds.{Bounds}
use Rattle.area_rules.specs.Placement.{is_free, highest_below, high_place}
use Rattle.area_rules.proofs.Placing.{free_each, high_found, high_none}
use Rattle.split_merge.specs.Sorted.{begins_below, ends_by, BeginsRise, EndsRise}
use Rattle.plain_space.proofs.Fronting.{last_is}

-- a list that ascends does not fall
pub rise_by : (number : Record → ℕ) (areas : List Record) → AllPairs (λ a b. number a < number b) areas → IsNonDecreasingBy number areas
rise_by number areas ascend i j d order within = elim (cases_eq i j) [
  | inl same ↦ subst (λ k. number (get_or areas i d) ≤ number (get_or areas k d)) same (omega arith)
  | inr apart ↦ omega (arith, ascend i j d (omega arith) within)
]

-- an area that is found at a place
pub record IsAt (areas : List Record) (place : ℕ) (area : Record) : Type 0 where
  pub within : place < length areas
  pub there : (d : Record) → get_or areas place d ≡ area

pub at_found : (areas : List Record) (place : ℕ) (area : Record) → slice_get areas place ≡ Some area → IsAt areas place area
at_found areas place area found = record {
  within = slice_get_within areas place area found;
  there = λ d. get_or_from_slice_get areas place area d found;
}

pub past_end : (areas : List Record) (place : ℕ) → slice_get areas place ≡ None → length areas ≤ place
past_end [] place none = omega arith
past_end (area ∷ areas) place none = by (cases_lt place (length (area ∷ areas)))
  where
    by : (place < length (area ∷ areas)) ⊎ (length (area ∷ areas) ≤ place) → length (area ∷ areas) ≤ place
    by (inr past) = past
    by (inl within) = let some = slice_get-get_or (area ∷ areas) place area within in cc

-- the last area before a place
pub last_at : (areas : List Record) (place : ℕ) (area : Record) → place ≤ length areas → last_or None (take place areas) ≡ Some area
    → (0 < place) × IsAt areas (place - 1) area
last_at areas place area within found =
    let long = length-take-le place areas within in
    let got = at_found (take place areas) (length (take place areas) - 1) area (last_is (take place areas) ∙ found) in
    let some : 0 < place = omega (arith, got.within) in (
      some,
      record {
        within = omega arith;
        there = λ d. sym (get_or-take place areas (place - 1) d (omega arith))
            ∙ ap (λ n. get_or (take place areas) (n - 1) d) (sym long) ∙ got.there d;
      },
    )

pub no_last : (areas : List Record) (place : ℕ) → place ≤ length areas → last_or None (take place areas) ≡ None → place ≡ 0
no_last areas place within none =
    let past = past_end (take place areas) (length (take place areas) - 1) (last_is (take place areas) ∙ none) in
    omega (arith, past, length-take-le place areas within)

pub taken_tests : (lo hi start pages : ℕ) → lo < start + pages → start < hi → (nat_le (start + pages) lo || nat_le hi start) ≡ false
taken_tests lo hi start pages begins ends = grind (arith, nat_tests)

-- where an area has one of the pages they are not free
pub not_free : (areas : List Record) (pages start place : ℕ) (area : Record) → IsAt areas place area → area.span.lo < start + pages → start < area.span.hi
    → is_free areas pages start ≡ false
not_free areas pages start place area at begins ends =
    free_each areas pages start ∙ list_all_at (λ (a : Record). nat_le (start + pages) a.span.lo || nat_le a.span.hi start) areas place area at.within
    (ap (λ (a : Record). nat_le (start + pages) a.span.lo || nat_le a.span.hi start) (at.there area)
    ∙ taken_tests area.span.lo area.span.hi start pages begins ends)

free_tests : (lo hi start pages : ℕ) → (start + pages ≤ lo) ⊎ (hi ≤ start) → (nat_le (start + pages) lo || nat_le hi start) ≡ true
free_tests lo hi start pages (inl below) = grind (arith, nat_tests)
free_tests lo hi start pages (inr above) = grind (arith, nat_tests)

-- and where the areas before a place end at or below their start, and those from there on begin at or above their end, they are
pub free_between : (areas : List Record) (pages start place : ℕ)
    → ((k : ℕ) (d : Record) → k < place → k < length areas → (get_or areas k d).span.hi ≤ start)
    → ((k : ℕ) (d : Record) → place ≤ k → k < length areas → start + pages ≤ (get_or areas k d).span.lo)
    → is_free areas pages start ≡ true
free_between areas pages start place before after =
    free_each areas pages start ∙ list_all-from_AllPass (λ (a : Record). nat_le (start + pages) a.span.lo || nat_le a.span.hi start) areas
    (λ k d within. free_tests (get_or areas k d).span.lo (get_or areas k d).span.hi start pages (elim (cases_lt k place) [
      | inl front ↦ inr (before k d front within)
      | inr back ↦ inl (after k d back within)
    ]))

-- the areas before a place have a number below a bound, and those from there on have not
pub record IsParted (number : Record → ℕ) (areas : List Record) (place bound : ℕ) : Type 0 where
  pub within : place ≤ length areas
  pub below : (k : ℕ) (d : Record) → k < place → number (get_or areas k d) < bound
  pub above : (k : ℕ) (d : Record) → place ≤ k → k < length areas → bound ≤ number (get_or areas k d)

-- so they are by the test of a binary search
parted : (number : Record → ℕ) (test : Record → Bool) (areas : List Record) (place bound : ℕ) → ((area : Record) → test area ≡ true → number area < bound)
    → ((area : Record) → test area ≡ false → bound ≤ number area) → IsNonDecreasingBy number areas → place ≡ prefix_len test areas → place ≤ length areas
    → IsParted number areas place bound
parted number test areas place bound passes stops rise is within = record {
  within = within;
  below = λ k d before. passes (get_or areas k d) (prefix_len_passes test areas k d (omega arith));
  above = λ k d behind inside. omega (
    arith,
    rise (prefix_len test areas) k d (omega arith) inside,
    stops (get_or areas (prefix_len test areas) d) (prefix_len_stops test areas d (omega arith)),
  );
}

pub parted_by_begins : (areas : List Record) (page place : ℕ) → BeginsRise areas → place ≡ begins_below page areas → place ≤ length areas
    → IsParted (λ area. area.span.lo) areas place page
parted_by_begins areas page place = parted (λ area. area.span.lo) (λ area. nat_lt area.span.lo page) areas place page
    (λ area. ltb-true area.span.lo page) (λ area. ltb-false area.span.lo page)

pub parted_by_ends : (areas : List Record) (page place : ℕ) → EndsRise areas → place ≡ ends_by page areas → place ≤ length areas
    → IsParted (λ area. area.span.hi) areas place (page + 1)
parted_by_ends areas page place = parted (λ area. area.span.hi) (λ area. nat_le area.span.hi page) areas place (page + 1)
    (λ area passes. omega (arith, leb-true area.span.hi page passes)) (λ area stops. omega (arith, leb-false area.span.hi page stops))

-- where the numbers ascend, an area parts the list at its own place and at the next
pub parted_at : (number : Record → ℕ) (areas : List Record) (place : ℕ) (area : Record) → AllPairs (λ a b. number a < number b) areas
    → IsAt areas place area → IsParted number areas place (number area) × IsParted number areas (place + 1) (number area + 1)
parted_at number areas place area ascend at = (
  record { within = omega (arith, at.within); below = lower; above = λ k d behind inside. from_here k d behind inside },
  record {
    within = omega (arith, at.within);
    below = λ k d before. elim (cases_eq k place) [
      | inl same ↦ omega (arith, ap number (ap (λ n. get_or areas n d) same ∙ at.there d))
      | inr apart ↦ omega (arith, lower k d (omega arith))
    ];
    above = λ k d behind inside. omega (arith, ascend place k d (omega arith) inside, ap number (at.there d));
  },
)
  where
    lower : (k : ℕ) (d : Record) → k < place → number (get_or areas k d) < number area
    lower k d before = omega (arith, ascend k place d before at.within, ap number (at.there d))

    from_here : (k : ℕ) (d : Record) → place ≤ k → k < length areas → number area ≤ number (get_or areas k d)
    from_here k d behind inside = elim (cases_eq k place) [
      | inl same ↦ omega (arith, ap number (ap (λ n. get_or areas n d) same ∙ at.there d))
      | inr apart ↦ omega (arith, ascend place k d (omega arith) inside, ap number (at.there d))
    ]

-- the search from above, below any page: it has found a place
pub highest_found : (bounds : Bounds) (last : ℕ) (areas : List Record) (pages end : ℕ) → bounds.low + pages ≤ end → end ≤ last
    → ((start : ℕ) → end < start + pages → start + pages ≤ last → is_free areas pages start ≡ false)
    → is_free areas pages (end - pages) ≡ true → highest_below bounds last areas pages ≡ Some (end - pages)
unfolding high_place
highest_found bounds last areas pages end room within none free = high_found (record bounds { top = last }) areas pages end room within none free

-- or has nothing to try any more
pub highest_none : (bounds : Bounds) (last : ℕ) (areas : List Record) (pages end : ℕ) → end < bounds.low + pages
    → ((start : ℕ) → end < start + pages → start + pages ≤ last → is_free areas pages start ≡ false) → highest_below bounds last areas pages ≡ None
unfolding high_place
highest_none bounds last areas pages end past none = high_none (record bounds { top = last }) areas pages end past none
