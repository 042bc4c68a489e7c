-- The layout of a tree over rows.
use Rattle.std.specs.Prelude.{ℕ, ◌≡◌, ◌≤◌, ◌-◌, false, List, [], ◌∷◌, ◌++◌, length, All, replicate, if◌then◌else◌, nat_eq}
use Rattle.maple_node.specs.declared.item.NodeItem.{NodeItem}
use Rattle.maple_node.specs.declared.root.Root.{Root}
use Rattle.maple_node.specs.Nodes.{items_end, gap_of}
use Rattle.maple_node.specs.Levels.{is_leaf, items_at, IsTower, level_of, rows_below, times_among}

-- a tree as seen from above: the item of its root, which ends at the limit, and its height
pub record Tree : Type 0 where
  pub top : NodeItem
  pub height : ℕ

-- the item of a node from page 0 on, as its row tells
abbrev pub top_of : (ℕ → List ℕ) → ℕ → ℕ → NodeItem
top_of at height row = let leaf = is_leaf (height - 1) in let items = items_at at leaf row in
    record { end = items_end 0 items; word = row; gap = gap_of leaf 0 items }

-- the tree that a root names
abbrev pub tree_of : (ℕ → List ℕ) → Root → Tree
tree_of at root = record { top = top_of at root.height root.row.0; height = root.height }

-- the entries of the leaves, in order
abbrev pub entries_of : (ℕ → List ℕ) → Tree → List NodeItem
entries_of at tree = level_of at 0 tree.height (tree.top ∷ [])

-- the rows of a tree: those that are reached from its root, the root first, and each row as often as it is a child
abbrev pub tree_rows : (ℕ → List ℕ) → Tree → List ℕ
tree_rows at tree = rows_below at 0 tree.height (tree.top ∷ [])

-- a pair: the pages from lo up to hi have a slot
pub record Pair : Type 0 where
  pub lo : ℕ
  pub hi : ℕ
  pub slot : ℕ

-- the pair of an entry that begins at a page, and nothing for a gap
abbrev pub pair_of : ℕ → NodeItem → List Pair
pair_of start item = if nat_eq item.word 0 then [] else (record { lo = start; hi = item.end; slot = item.word - 1 } ∷ [])

-- the pairs of entries that begin at a page
abbrev pub pairs_from : ℕ → List NodeItem → List Pair
pairs_from start [] = []
pairs_from start (item ∷ items) = pair_of start item ++ pairs_from item.end items

-- the pairs that the leaves of a tree list
abbrev pub pairs_of : (ℕ → List ℕ) → Tree → List Pair
pairs_of at tree = pairs_from 0 (entries_of at tree)

-- two gaps never follow each other, where an entry with this word stands before the first
abbrev pub ApartFrom : ℕ → List NodeItem → Type 0
ApartFrom before [] = Unit {0}
ApartFrom before (item ∷ items) = (before ≡ 0 → item.word ≡ 0 → ⊥) × ApartFrom item.word items

-- a table shows a tree that meets the layout, whose slots are below so many
pub record IsLayout (at : ℕ → List ℕ) (slots : ℕ) (tree : Tree) : Type 0 where
  -- a single leaf has height 1
  pub tall : 1 ≤ tree.height
  -- from the root down to the leaves, each row that is pointed to is a node
  pub tower : IsTower at tree.top.end 0 tree.height (tree.top ∷ [])
  -- a root that is no leaf has at least 2 children
  pub wide : 2 ≤ tree.height → 2 ≤ length (items_at at false tree.top.word)
  -- two gaps never follow each other in the whole tree
  pub apart : ApartFrom 1 (entries_of at tree)
  -- an entry's word is 0 for a gap, or the number of one of so many slots plus 1
  pub numbered : All (λ entry. entry.word ≤ slots) (entries_of at tree)
  -- each of its rows is reached once: the root is no child, and each other row is a child once
  pub once : (row : ℕ) → times_among row (tree_rows at tree) ≤ 1

-- tree 0: a leaf without entries, in row 0, whose words are all 0
pub record IsFirst (at : ℕ → List ℕ) (root : Root) : Type 0 where
  pub named : root ≡ record { tree = 0; height = 1; row = record { 0 = 0 } }
  pub words : at 0 ≡ replicate 32 0

-- what a table shows from a root on: tree 0 has no entries, and each later tree meets the layout
pub record IsTree (at : ℕ → List ℕ) (slots : ℕ) (root : Root) : Type 0 where
  pub first : root.tree ≡ 0 → IsFirst at root
  pub later : 1 ≤ root.tree → IsLayout at slots (tree_of at root)
