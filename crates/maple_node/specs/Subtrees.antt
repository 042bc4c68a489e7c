-- A tree from the root down: a node, and the subtrees below it.
use Rattle.std.specs.Prelude.{ℕ, zero, suc, List, [], ◌∷◌}
use Rattle.std.specs.List.{flat_map}
use Rattle.maple_node.specs.declared.item.NodeItem.{NodeItem}
use Rattle.maple_node.specs.Levels.{is_leaf, items_at, AllFrom, IsNode}

-- the subtree of an item that begins at a page: an entry has height 0, and below a node of a height each item has a subtree one lower
unfoldable pub IsSubtree : (ℕ → List ℕ) → ℕ → ℕ → ℕ → NodeItem → Type 0
IsSubtree at limit zero start item = Unit {0}
IsSubtree at limit (suc height) start item = IsNode at (is_leaf height) limit start item
    × AllFrom (IsSubtree at limit height) start (items_at at (is_leaf height) item.word)

-- its entries, in order
unfoldable pub subtree_entries : (ℕ → List ℕ) → ℕ → NodeItem → List NodeItem
subtree_entries at zero item = item ∷ []
subtree_entries at (suc height) item = flat_map (subtree_entries at height) (items_at at (is_leaf height) item.word)

-- its rows, each node before those below it
unfoldable pub subtree_rows : (ℕ → List ℕ) → ℕ → NodeItem → List ℕ
subtree_rows at zero item = []
subtree_rows at (suc height) item = item.word ∷ flat_map (subtree_rows at height) (items_at at (is_leaf height) item.word)
