-- What is in the way of a place, for the code of the searches.
use Rattle.std.specs.Prelude.{ℕ, ◌+◌, ◌&&◌, nat_lt, List, find, Option}
use Rattle.mm_types.specs.declared.area.Record.{Record}

-- the first area that has one of so many pages from this start on
unfoldable pub blocker : List Record → ℕ → ℕ → Option Record
blocker areas pages start = find (λ area. nat_lt area.span.lo (start + pages) && nat_lt start area.span.hi) areas
