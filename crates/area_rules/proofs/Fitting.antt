-- For the laws of the step: a place that is found has room below the limit, and is free.
use Rattle.std.proofs.Common.{◌≡◌, ◌≤◌, ◌+◌, ℕ, zero, suc, Bool, true, ◌&&◌, if◌then◌else◌, nat_le, List, Option, Some, None, option_and_then, subst, arith}
use Rattle.std.proofs.lemmas.Bool.{cond_both, and_parts, leb-true}
use Rattle.std.proofs.lemmas.Option.{same_Some, cond_some}
use Rattle.mm_types.specs.declared.area.Record.{Record}
use Rattle.mm_types.specs.declared.config.Config.{Config}
use Rattle.mm_types.specs.Config.{IsValidConfig}
use Rattle.area_list.specs.Areas.{page_of}
use Rattle.std.specs.Option.{option_or}
use Rattle.area_rules.proofs.Limits.{limit_between}
use Rattle.area_rules.specs.declared.placement.TheConstants.{WINDOW_END}
use Rattle.area_rules.specs.Placement.{greatest_below, least_below, bounds_of, is_free, has_room_at, hint_page, is_high, window_end, hinted_place, high_place, low_place, place_high, place_low, place}

-- what the search downwards finds passes the test
pub greatest_passes : (passes : ℕ → Bool) (bound found : ℕ) → greatest_below passes bound ≡ Some found
    → passes found ≡ true
unfolding greatest_below
greatest_passes passes zero found h = cc
greatest_passes passes (suc n) found h =
    cond_both (passes n) (Some n) (greatest_below passes n) (λ o. o ≡ Some found → passes found ≡ true)
    (λ here e. subst (λ m. passes m ≡ true) (same_Some n found e) here)
    (λ fails e. greatest_passes passes n found e) h

-- what holds of an answer of each of the two, holds of an answer of the first that has one
or_else_both : {A : Type 0} (P : A → Type 0) (a b : Option A) (x : A) → (a ≡ Some x → P x) → (b ≡ Some x → P x)
    → option_or a b ≡ Some x → P x
or_else_both P (Some y) b x first second h = first h
or_else_both P None b x first second h = second h

-- what the search upwards finds passes the test
pub least_passes : (passes : ℕ → Bool) (bound found : ℕ) → least_below passes bound ≡ Some found
    → passes found ≡ true
unfolding least_below
least_passes passes zero found h = cc
least_passes passes (suc n) found h =
    or_else_both (λ m. passes m ≡ true) (least_below passes n) (if passes n then Some n else None) found
    (least_passes passes n found)
    (λ here. let parts = cond_some (passes n) n found here in subst (λ m. passes m ≡ true) parts.1 parts.0) h

-- a step after an answer that is there
after_some : {A B : Type 0} (next : A → Option B) (first : Option A) (x : B) → option_and_then next first ≡ Some x
    → (a : A) × (next a ≡ Some x)
after_some next None x h = cc
after_some next (Some a) x h = (a, h)

-- a hint's place ends where the window does, and is free
record IsHinted (config : Config) (areas : List Record) (pages hint start : ℕ) : Type 0 where
  ends : start + pages ≤ window_end (bounds_of config) hint
  free : is_free areas pages start ≡ true

hinted_is : (config : Config) (areas : List Record) (pages hint start : ℕ)
    → hinted_place (bounds_of config) areas pages hint ≡ Some start → IsHinted config areas pages hint start
unfolding hinted_place
hinted_is config areas pages hint start h =
    let end = window_end (bounds_of config) hint in
    let at = after_some (λ page. if has_room_at areas pages end page then Some page else None) (hint_page (bounds_of config) hint) start h in
    let parts = cond_some (has_room_at areas pages end at.0) at.0 start at.1 in
    let fits = and_parts (nat_le (at.0 + pages) end) (is_free areas pages at.0) parts.0 in
    subst (λ page. IsHinted config areas pages hint page) parts.1
    (record { ends = leb-true (at.0 + pages) end fits.0; free = fits.1 })

-- the window ends at or below the limit
window_within : (config : Config) (hint : ℕ) → IsValidConfig config → window_end (bounds_of config) hint ≤ page_of config.limit
window_within config hint valid =
    let low : WINDOW_END ≤ page_of config.limit = omega (arith, (limit_between config valid).low) in
    cond_both (is_high (bounds_of config) hint) (page_of config.limit) WINDOW_END (λ end. end ≤ page_of config.limit)
    (λ high. omega arith) (λ usual. low)

hinted_fits : (config : Config) (areas : List Record) (pages hint start : ℕ) → IsValidConfig config
    → hinted_place (bounds_of config) areas pages hint ≡ Some start
    → start + pages ≤ page_of config.limit
hinted_fits config areas pages hint start valid h =
    omega (arith, (hinted_is config areas pages hint start h).ends, window_within config hint valid)

-- the test of both searches: from the lowest page on, with room up to the highest, and free
searched_fits : (areas : List Record) (low high pages start : ℕ)
    → (nat_le low start && (nat_le (start + pages) high && is_free areas pages start)) ≡ true → start + pages ≤ high
searched_fits areas low high pages start h =
    let second = and_parts (nat_le low start) _ h in
    leb-true (start + pages) high (and_parts (nat_le (start + pages) high) _ second.1).0

high_fits : (config : Config) (areas : List Record) (pages start : ℕ)
    → high_place (bounds_of config) areas pages ≡ Some start
    → start + pages ≤ page_of config.top
unfolding high_place
high_fits config areas pages start h =
    searched_fits areas _ (page_of config.top) pages start (greatest_passes _ _ start h)

low_fits : (config : Config) (areas : List Record) (pages start : ℕ)
    → low_place (bounds_of config) areas pages ≡ Some start
    → start + pages ≤ WINDOW_END
unfolding low_place
low_fits config areas pages start h =
    searched_fits areas _ WINDOW_END pages start (least_passes _ _ start h)

wide_fits : (config : Config) (areas : List Record) (pages start : ℕ)
    → place_high (bounds_of config) areas pages ≡ Some start
    → start + pages ≤ page_of config.limit
unfolding place_high
wide_fits config areas pages start h =
    searched_fits areas _ (page_of config.limit) pages start (greatest_passes _ _ start h)

unhinted_fits : (config : Config) (areas : List Record) (pages start : ℕ) → IsValidConfig config
    → place_low (bounds_of config) areas pages ≡ Some start
    → start + pages ≤ page_of config.limit
unfolding place_low
unhinted_fits config areas pages start valid h =
    let limit = (limit_between config valid).low in
    or_else_both (λ page. page + pages ≤ page_of config.limit) (high_place (bounds_of config) areas pages)
    (low_place (bounds_of config) areas pages) start
    (λ found. omega (arith, high_fits config areas pages start found, valid.top.within, limit))
    (λ found. omega (arith, low_fits config areas pages start found, limit)) h

pub place_fits : (config : Config) (areas : List Record) (pages hint start : ℕ) → IsValidConfig config
    → place (bounds_of config) areas pages hint ≡ Some start
    → start + pages ≤ page_of config.limit
unfolding place
place_fits config areas pages hint start valid h =
    let bounds = bounds_of config in
    let Fits : ℕ → Type 0 = λ page. page + pages ≤ page_of config.limit in
    or_else_both Fits (hinted_place bounds areas pages hint)
    (if is_high bounds hint then place_high bounds areas pages else place_low bounds areas pages) start
    (hinted_fits config areas pages hint start valid)
    (cond_both (is_high bounds hint) (place_high bounds areas pages) (place_low bounds areas pages) (λ o. o ≡ Some start → Fits start)
    (λ high. wide_fits config areas pages start) (λ usual. unhinted_fits config areas pages start valid))
    h

searched_free : (areas : List Record) (low high pages start : ℕ)
    → (nat_le low start && (nat_le (start + pages) high && is_free areas pages start)) ≡ true
    → is_free areas pages start ≡ true
searched_free areas low high pages start h =
    let second = and_parts (nat_le low start) _ h in (and_parts (nat_le (start + pages) high) _ second.1).1

high_free : (config : Config) (areas : List Record) (pages start : ℕ)
    → high_place (bounds_of config) areas pages ≡ Some start → is_free areas pages start ≡ true
unfolding high_place
high_free config areas pages start h =
    searched_free areas _ (page_of config.top) pages start (greatest_passes _ _ start h)

wide_free : (config : Config) (areas : List Record) (pages start : ℕ)
    → place_high (bounds_of config) areas pages ≡ Some start → is_free areas pages start ≡ true
unfolding place_high
wide_free config areas pages start h =
    searched_free areas _ (page_of config.limit) pages start (greatest_passes _ _ start h)

low_free : (config : Config) (areas : List Record) (pages start : ℕ)
    → low_place (bounds_of config) areas pages ≡ Some start → is_free areas pages start ≡ true
unfolding low_place
low_free config areas pages start h =
    searched_free areas _ WINDOW_END pages start (least_passes _ _ start h)

unhinted_free : (config : Config) (areas : List Record) (pages start : ℕ)
    → place_low (bounds_of config) areas pages ≡ Some start → is_free areas pages start ≡ true
unfolding place_low
unhinted_free config areas pages start h =
    or_else_both (λ page. is_free areas pages page ≡ true) (high_place (bounds_of config) areas pages)
    (low_place (bounds_of config) areas pages) start (high_free config areas pages start) (low_free config areas pages start) h

pub place_free : (config : Config) (areas : List Record) (pages hint start : ℕ)
    → place (bounds_of config) areas pages hint ≡ Some start → is_free areas pages start ≡ true
unfolding place
place_free config areas pages hint start h =
    let bounds = bounds_of config in
    let Free : ℕ → Type 0 = λ page. is_free areas pages page ≡ true in
    or_else_both Free (hinted_place bounds areas pages hint)
    (if is_high bounds hint then place_high bounds areas pages else place_low bounds areas pages) start
    (λ found. (hinted_is config areas pages hint start found).free)
    (cond_both (is_high bounds hint) (place_high bounds areas pages) (place_low bounds areas pages) (λ o. o ≡ Some start → Free start)
    (λ high. wide_free config areas pages start) (λ usual. unhinted_free config areas pages start))
    h
