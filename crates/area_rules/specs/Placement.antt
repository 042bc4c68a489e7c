-- Where a new area goes that names no fixed place.
use Rattle.std.specs.Prelude.{ℕ, zero, suc, ◌+◌, max, Bool, false, ◌&&◌, if◌then◌else◌, map, nat_eq, nat_lt, nat_le, List, Option, Some, None, option_and_then}
use Rattle.std.specs.Option.{option_or, option_map_or}
use Rattle.mm_types.specs.declared.area.Record.{Record}
use Rattle.mm_types.specs.declared.config.Config.{Config}
use Rattle.mm_types.specs.Searches.{is_clear_of}
use Rattle.area_rules.specs.declared.placement.Bounds.{Bounds}
use Rattle.area_rules.specs.declared.placement.TheConstants.{FLOOR, WINDOW_END}
use Rattle.area_list.specs.Areas.{page_of}

-- the greatest number below the bound that passes the test
unfoldable pub greatest_below : (ℕ → Bool) → ℕ → Option ℕ
greatest_below passes zero = None
greatest_below passes (suc n) = if passes n then Some n else greatest_below passes n

-- the least number below the bound that passes the test
unfoldable pub least_below : (ℕ → Bool) → ℕ → Option ℕ
least_below passes zero = None
least_below passes (suc n) = option_or (least_below passes n) (if passes n then Some n else None)

-- whether a number is below the bound and passes the test
abbrev pub passes_below : (ℕ → Bool) → ℕ → ℕ → Bool
passes_below passes bound n = nat_lt n bound && passes n

-- the pages between which a configuration places areas
abbrev pub bounds_of : Config → Bounds
bounds_of config = record { low = page_of config.min; top = page_of config.top; limit = page_of config.limit }

-- whether no area has one of so many pages, at least one, from this start on
unfoldable pub is_free : List Record → ℕ → ℕ → Bool
is_free areas pages start = is_clear_of (map (λ area. area.span) areas) pages start

-- The page of a hint: a hint below one page is none, and another is raised to the lowest page.
unfoldable pub hint_page : Bounds → ℕ → Option ℕ
hint_page bounds hint = if nat_eq (page_of hint) 0 then None else Some (max (page_of hint) bounds.low)

-- whether a hint asks for memory above the usual window, where there is some
unfoldable pub is_high : Bounds → ℕ → Bool
is_high bounds hint = nat_lt WINDOW_END bounds.limit && option_map_or (λ page. nat_le WINDOW_END page) (hint_page bounds hint) false

-- the page at which the pages of a call with this hint end: that of the window, or the limit for one that is high
abbrev pub window_end : Bounds → ℕ → ℕ
window_end bounds hint = if is_high bounds hint then bounds.limit else WINDOW_END

-- so many pages from this start on are free and end at or below this page
abbrev pub has_room_at : List Record → ℕ → ℕ → ℕ → Bool
has_room_at areas pages end start = nat_le (start + pages) end && is_free areas pages start

-- the hint's page, where so many pages from it on are free up to the end of the window
unfoldable pub hinted_place : Bounds → List Record → ℕ → ℕ → Option ℕ
hinted_place bounds areas pages hint =
    option_and_then (λ start. if has_room_at areas pages (window_end bounds hint) start then Some start else None) (hint_page bounds hint)

-- the greatest free start from the lowest page on whose pages end at or below this page
abbrev pub highest_below : Bounds → ℕ → List Record → ℕ → Option ℕ
highest_below bounds end areas pages = greatest_below (λ start. nat_le bounds.low start && (nat_le (start + pages) end && is_free areas pages start)) (end + 1)

-- the first search: the greatest free start whose pages end at or below the top
unfoldable pub high_place : Bounds → List Record → ℕ → Option ℕ
high_place bounds areas pages = highest_below bounds bounds.top areas pages

-- the second search: the least free start from the floor on whose pages end at or below the end of the window
unfoldable pub low_place : Bounds → List Record → ℕ → Option ℕ
low_place bounds areas pages = least_below (λ start. nat_le (max FLOOR bounds.low) start && (nat_le (start + pages) WINDOW_END && is_free areas pages start)) (WINDOW_END + 1)

-- the search of a high call: the greatest free start whose pages end at or below the limit
unfoldable pub place_high : Bounds → List Record → ℕ → Option ℕ
place_high bounds areas pages = highest_below bounds bounds.limit areas pages

-- where so many pages go without a hint: as high as there is room below the top, else as low as there is room from the floor on
unfoldable pub place_low : Bounds → List Record → ℕ → Option ℕ
place_low bounds areas pages = option_or (high_place bounds areas pages) (low_place bounds areas pages)

-- where so many pages go: at the hint; else, for a high call, as high as there is room below the limit; else where they go
-- without a hint
unfoldable pub place : Bounds → List Record → ℕ → ℕ → Option ℕ
place bounds areas pages hint = option_or (hinted_place bounds areas pages hint)
    (if is_high bounds hint then place_high bounds areas pages else place_low bounds areas pages)
