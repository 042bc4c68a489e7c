-- Trees that the writer builds, as its own view tells them.
use Rattle.std.specs.Prelude.{ℕ, ◌≡◌, ◌<◌, ◌≤◌, ◌⊎◌, nat_eq, List, replicate}
use Rattle.grace_core.specs.Core.{row_at}
use Rattle.maple_node.specs.Levels.{at_of, times_among}
use Rattle.maple_node.specs.Trees as maple
use Rattle.maple_node.specs.Trees.{Pair, top_of, tree_rows, pairs_of, IsLayout}
use Rattle.node_slots.specs.declared.tree.Tree.{Tree}
use Rattle.node_slots.specs.declared.seats.NodeWriter.{NodeWriter}
use Rattle.node_slots.specs.Seats.{node_sight, writer_state, row_count, is_kept, one_where}

-- the words of each row of the writer's table
abbrev pub words_at : NodeWriter → ℕ → List ℕ
words_at writer = at_of (writer_state writer).words

-- the tree that the writer's view names, with what the row of its root tells of it
abbrev pub built : NodeWriter → Tree → maple.Tree
built writer tree = record { top = top_of (words_at writer) tree.height tree.root.0; height = tree.height }

-- the rows that it reaches
abbrev pub built_rows : NodeWriter → Tree → List ℕ
built_rows writer tree = tree_rows (words_at writer) (built writer tree)

-- The rows show the tree of the writer's view: it meets the layout, ends at the view's limit, and reaches each row that is
-- neither free nor left once, and no other.
pub record IsBuilt (writer : NodeWriter) (tree : Tree) : Type 0 where
  pub layout : IsLayout (words_at writer) (node_sight writer).size.slots (built writer tree)
  pub limit : (built writer tree).top.end ≡ tree.limit.0
  pub reached : (row : ℕ) → times_among row (built_rows writer tree) ≡ one_where (is_kept writer row)

-- Nothing was built yet: tree 0 is present, a leaf without entries in row 0, and each other row is free.
pub record IsBlank (writer : NodeWriter) (tree : Tree) : Type 0 where
  pub first : (writer_state writer).tree.number ≡ 0
  pub root : tree.root.0 ≡ 0
  pub height : tree.height ≡ 1
  pub some : 0 < tree.limit.0
  pub words : row_at (writer_state writer).words 0 ≡ replicate 32 0
  pub rows : 1 ≤ row_count writer
  pub kept : (row : ℕ) → is_kept writer row ≡ nat_eq row 0

-- a view of the writer's, before or after its first store
abbrev pub IsWriters : NodeWriter → Tree → Type 0
IsWriters writer tree = IsBuilt writer tree ⊎ IsBlank writer tree

-- the pairs that the tree of the writer's view lists
abbrev pub pairs_now : NodeWriter → Tree → List Pair
pairs_now writer tree = pairs_of (words_at writer) (built writer tree)
