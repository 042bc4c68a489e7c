-- How far the areas of a list lie below a page.
use Rattle.std.specs.Prelude.{ℕ, ◌<◌, nat_le, nat_lt, List, AllPairs}
use Rattle.std.specs.List.{prefix_len}
use Rattle.std.specs.List.Sorted.{IsNonDecreasingBy}
use Rattle.mm_types.specs.declared.area.Record.{Record}

-- how many of the first areas begin below the page
abbrev pub begins_below : ℕ → List Record → ℕ
begins_below page areas = prefix_len (λ area. nat_lt area.span.lo page) areas

-- how many of the first areas end at or below the page
abbrev pub ends_by : ℕ → List Record → ℕ
ends_by page areas = prefix_len (λ area. nat_le area.span.hi page) areas

-- the areas lie by ascending lowest page
abbrev pub BeginsRise : List Record → Type 0
BeginsRise areas = IsNonDecreasingBy (λ area. area.span.lo) areas

-- the areas lie by ascending end
abbrev pub EndsRise : List Record → Type 0
EndsRise areas = IsNonDecreasingBy (λ area. area.span.hi) areas

-- the areas lie by strictly ascending lowest page
abbrev pub BeginsAscend : List Record → Type 0
BeginsAscend areas = AllPairs (λ a b. a.span.lo < b.span.lo) areas

-- the areas lie by strictly ascending end
abbrev pub EndsAscend : List Record → Type 0
EndsAscend areas = AllPairs (λ a b. a.span.hi < b.span.hi) areas
