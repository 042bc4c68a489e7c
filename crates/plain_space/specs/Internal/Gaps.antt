-- Gaps between the areas of a chunk.
use Rattle.std.specs.Prelude.{ℕ, zero, suc, ◌≡◌, ◌≤◌, ◌<◌, ◌+◌, ◌-◌, max, Bool, true, false, List, [], ◌∷◌, drop, All, Contains}
use Rattle.mm_types.specs.declared.area.Record.{Record}
use Rattle.area_rules.specs.Placement.{is_free}
use Rattle.plain_space.specs.declared.chunk.TheConstants.{MOST_IN_CHUNK}
use Rattle.split_merge.specs.Sorted.{BeginsAscend, EndsAscend}

-- the gap between an area and the first of the others; 0 where there is none
abbrev pub gap_behind : Record → List Record → ℕ
gap_behind area [] = 0
gap_behind area (next ∷ others) = next.span.lo - area.span.hi

-- the gap behind the first area; 0 where there is none
abbrev pub first_gap : List Record → ℕ
first_gap [] = 0
first_gap (area ∷ areas) = gap_behind area areas

-- the widest gap between an area and the next; 0 where there is none
abbrev pub widest_gap : List Record → ℕ
widest_gap [] = 0
widest_gap (area ∷ areas) = max (gap_behind area areas) (widest_gap areas)

-- the gap between the area before a place and the one at it; 0 where there is none
abbrev pub gap_before : List Record → ℕ → ℕ
gap_before areas zero = 0
gap_before areas (suc place) = first_gap (drop place areas)

-- the wider one of the gaps on both sides of the area at a place
abbrev pub gap_around : List Record → ℕ → ℕ
gap_around areas place = max (gap_before areas place) (gap_before areas (suc place))

-- the widest gap before and after gaps whose widest was the one gave way to gaps whose widest is the other
pub record HasChanged (before after gone come : ℕ) : Type 0 where
  pub rest : ℕ
  pub was : before ≡ max rest gone
  pub is : after ≡ max rest come

-- a chunk has room for exactly as many areas as one may have, and notes its widest gap
pub record IsWellFilled (areas : List Record) (room widest : ℕ) : Type 0 where
  pub fits : room ≡ MOST_IN_CHUNK
  pub gap : widest ≡ widest_gap areas

-- the areas lie by strictly ascending lowest page and end
pub record IsAscending (areas : List Record) : Type 0 where
  pub begins : BeginsAscend areas
  pub ends : EndsAscend areas

-- so many pages below a page are free, and an area ends at or below them
pub record HasRoomBelow (areas : List Record) (page pages : ℕ) : Type 0 where
  pub free : is_free areas pages (page - pages) ≡ true
  pub lower : Record
  pub member : Contains areas lower
  pub ends : lower.span.hi + pages ≤ page

-- a look from an end down came to a page: no start that was passed is free, and there is room there or no area begins below it
pub record HasScannedDown (areas : List Record) (end pages page : ℕ) (has_room : Bool) : Type 0 where
  pub within : page ≤ end
  pub none : (start : ℕ) → page < start + pages → start + pages ≤ end → is_free areas pages start ≡ false
  pub passed : has_room ≡ false → All (λ area. page ≤ area.span.lo) areas
  pub found : has_room ≡ true → HasRoomBelow areas page pages

-- so many pages from a page on are free, and an area begins at or above them
pub record HasRoomAbove (areas : List Record) (page pages : ℕ) : Type 0 where
  pub free : is_free areas pages page ≡ true
  pub upper : Record
  pub member : Contains areas upper
  pub begins : page + pages ≤ upper.span.lo

-- a look from a start up came to a page: no start that was passed is free, and there is room there or no area ends above it
pub record HasScannedUp (areas : List Record) (start pages page : ℕ) (has_room : Bool) : Type 0 where
  pub within : start ≤ page
  pub none : (other : ℕ) → start ≤ other → other < page → is_free areas pages other ≡ false
  pub passed : has_room ≡ false → All (λ area. area.span.hi ≤ page) areas
  pub found : has_room ≡ true → HasRoomAbove areas page pages
