-- Trees of pairs of one page each.
use Rattle.std.specs.Prelude.{ℕ, zero, suc, ◌≡◌, ◌+◌, ◌*◌, true, List, [], ◌∷◌, ◌++◌}
use Rattle.maple_node.specs.Trees.{Pair}
use Rattle.area_tree.specs.SpanTrees.{SpanView}

-- a tree of at most 17 pairs whose pages end at page 0x7ffffffff
pub record IsWide (tree : SpanView) : Type 0 where
  pub areas : tree.areas ≡ 17
  pub limit : tree.limit ≡ 0x7ffffffff
  pub number : tree.number ≡ 0

-- so many pairs of one page each, at pages 16, 18 and on, with slots from 0 on
abbrev pub row_pairs : ℕ → List Pair
row_pairs zero = []
row_pairs (suc count) = row_pairs count ++ record { lo = 16 + 2 * count; hi = 16 + 2 * count + 1; slot = count } ∷ []

-- such a tree with these pairs, to which more can be stored
pub record IsRow (tree : SpanView) (count : ℕ) : Type 0 where
  pub wide : IsWide tree
  pub roomy : tree.roomy ≡ true
  pub pairs_are : tree.pairs ≡ row_pairs count
