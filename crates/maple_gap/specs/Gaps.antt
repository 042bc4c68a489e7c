-- Starts of free pages, and the pairs beside a page.
use Rattle.std.specs.Prelude.{ℕ, ◌+◌, Bool, ◌&&◌, nat_lt, nat_le, List, Option, None, find, filter, map}
use Rattle.std.specs.List.{last_or}
use Rattle.std.specs.Option.{option_map}
use Rattle.mm_types.specs.declared.area.Span.{Span}
use Rattle.mm_types.specs.declared.slot.Slot.{Slot}
use Rattle.mm_types.specs.Searches.{is_clear_of}
use Rattle.maple_node.specs.Trees.{Pair}

-- the pages of a pair
abbrev pub span_of : Pair → Span
span_of pair = record { lo = pair.lo; hi = pair.hi }

-- whether so many pages from this start on lie from `lo` up to `hi`, and no pair has one of them
unfoldable pub fits : List Pair → ℕ → ℕ → ℕ → ℕ → Bool
fits pairs pages lo hi start = nat_le lo start && (nat_le (start + pages) hi && is_clear_of (map span_of pairs) pages start)

-- the first pair that ends above a page
abbrev pub first_pair_from : List Pair → ℕ → Option Pair
first_pair_from pairs page = find (λ pair. nat_lt page pair.hi) pairs

-- the last pair that begins below a page
abbrev pub last_pair_before : List Pair → ℕ → Option Pair
last_pair_before pairs page = last_or None (filter (λ pair. nat_lt pair.lo page) pairs)

-- the slot of a pair, if there is one
abbrev pub slot_in : Option Pair → Option Slot
slot_in pair = option_map (λ pair. record { 0 = pair.slot }) pair
