-- For the law `narrow_placement` and the crates above: where a call without a hint goes, and what user memory of 47 bits makes of it.
use Rattle.std.proofs.Common.{◌≡◌, ◌<◌, ◌+◌, ℕ, false, ◌&&◌, max, nat_le, List, None, ap, ◌∙◌, arith}
use Rattle.std.specs.Option.{option_or, option_map_or}
use Rattle.std.proofs.lemmas.Bool.{and_left, and_right, cond-false, cond-true, le-ltb, eq-eqb}
use Rattle.mm_types.specs.declared.area.Record.{Record}
use Rattle.mm_types.specs.declared.config.Config.{Config}
use Rattle.mm_types.specs.declared.config.TheConstants.{PAGE_SIZE, ADDRESS_LIMIT}
use Rattle.area_list.specs.Areas.{page_of}
use Rattle.area_rules.specs.declared.placement.Bounds.{Bounds}
use Rattle.area_rules.specs.declared.placement.TheConstants.{FLOOR, WINDOW_END}
use Rattle.area_rules.specs.Placement.{least_below, bounds_of, is_free, hint_page, is_high, hinted_place, high_place, low_place, place_high, place_low, place}

-- an address below a page is no hint
pub no_hint : (bounds : Bounds) (hint : ℕ) → hint < PAGE_SIZE → hint_page bounds hint ≡ None
unfolding hint_page
no_hint bounds hint small = cond-true _ None _ (eq-eqb (page_of hint) 0 (omega arith))

-- without a hint a call is not high
pub low_without_hint : (bounds : Bounds) (hint : ℕ) → hint_page bounds hint ≡ None → is_high bounds hint ≡ false
unfolding is_high
low_without_hint bounds hint none =
    and_right _ _ (ap (λ o. option_map_or (λ page. nat_le WINDOW_END page) o false) none)

-- and goes where `place_low` says
pub place-no_hint : (bounds : Bounds) (areas : List Record) (pages hint : ℕ) → hint < PAGE_SIZE
    → place bounds areas pages hint ≡ place_low bounds areas pages
unfolding place hinted_place
place-no_hint bounds areas pages hint small =
    let none = no_hint bounds hint small in
    rw none (cond-false (is_high bounds hint) (place_high bounds areas pages) (place_low bounds areas pages)
    (low_without_hint bounds hint none))

-- so at a hint of 0
pub place-zero : (bounds : Bounds) (areas : List Record) (pages : ℕ) → place bounds areas pages 0 ≡ place_low bounds areas pages
place-zero bounds areas pages = place-no_hint bounds areas pages 0 (omega arith)

-- where user memory ends with the window, no hint is high
pub none_high : (config : Config) (hint : ℕ) → config.limit ≡ ADDRESS_LIMIT → is_high (bounds_of config) hint ≡ false
unfolding is_high
none_high config hint narrow = and_left _ _ (le-ltb WINDOW_END (page_of config.limit) (omega (arith, narrow)))

-- so a call without a hint goes below the top, and else from the floor on
pub narrow_place : (config : Config) (areas : List Record) (pages hint : ℕ) → config.limit ≡ ADDRESS_LIMIT → hint < PAGE_SIZE
    → place (bounds_of config) areas pages hint
    ≡ option_or (high_place (bounds_of config) areas pages)
    (least_below (λ start. nat_le (max FLOOR (page_of config.min)) start
    && (nat_le (start + pages) (page_of config.limit) && is_free areas pages start)) (page_of config.limit + 1))
unfolding place_low low_place
narrow_place config areas pages hint narrow small =
    let same : WINDOW_END ≡ page_of config.limit = omega (arith, narrow) in
    place-no_hint (bounds_of config) areas pages hint small
    ∙ ap (λ end. option_or (high_place (bounds_of config) areas pages)
    (least_below (λ start. nat_le (max FLOOR (page_of config.min)) start
    && (nat_le (start + pages) end && is_free areas pages start)) (end + 1))) same
