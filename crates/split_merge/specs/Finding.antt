-- Areas by their place in a list.
use Rattle.std.specs.Prelude.{ℕ, nat_lt, List, filter, find, Option, None}
use Rattle.std.specs.List.{last_or}
use Rattle.mm_types.specs.declared.area.Record.{Record}

-- the first area that ends above the page
abbrev pub first_from : List Record → ℕ → Option Record
first_from areas page = find (λ area. nat_lt page area.span.hi) areas

-- the last area that begins below the page
abbrev pub last_before : List Record → ℕ → Option Record
last_before areas page = last_or None (filter (λ area. nat_lt area.span.lo page) areas)
