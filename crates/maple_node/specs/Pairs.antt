-- Pairs with some pages overwritten.
use Rattle.std.specs.Prelude.{ℕ, min, max, Bool, ◌&&◌, List, [], ◌∷◌, ◌++◌, Option, if◌then◌else◌, nat_lt, nat_le}
use Rattle.std.specs.List.{flat_map, find}
use Rattle.std.specs.Option.{option_map}
use Rattle.maple_node.specs.Trees.{Pair, pair_of}

-- the part of a pair below a page
abbrev pub pair_below : ℕ → Pair → List Pair
pair_below page pair = if nat_lt pair.lo page then (record { lo = pair.lo; hi = min pair.hi page; slot = pair.slot } ∷ []) else []

-- the part of a pair from a page on
abbrev pub pair_from : ℕ → Pair → List Pair
pair_from page pair = if nat_lt page pair.hi then (record { lo = max pair.lo page; hi = pair.hi; slot = pair.slot } ∷ []) else []

-- pairs with the pages from `lo` up to `hi` overwritten by the slot that a word tells, or by none
abbrev pub overwritten : ℕ → ℕ → ℕ → List Pair → List Pair
overwritten lo hi word pairs = flat_map (pair_below lo) pairs
    ++ (pair_of lo (record { end = hi; word = word; gap = 0 }) ++ flat_map (pair_from hi) pairs)

-- whether a pair has a page
abbrev pub pair_has_page : ℕ → Pair → Bool
pair_has_page page pair = nat_le pair.lo page && nat_lt page pair.hi

-- the slot that pairs give a page, or none
abbrev pub paired_slot : ℕ → List Pair → Option ℕ
paired_slot page pairs = option_map (λ pair. pair.slot) (find (pair_has_page page) pairs)
