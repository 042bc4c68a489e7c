-- Trees of the table.
use Rattle.std.specs.Prelude.{ℕ, ◌≤◌, List, replicate}
use Rattle.grace_core.specs.Core as grace
use Rattle.maple_node.specs.declared.root.Root.{Root}
use Rattle.maple_node.specs.Levels.{at_of}
use Rattle.maple_node.specs.Trees.{tree_of, tree_rows, IsTree}
use Rattle.node_slots.specs.declared.view.ShownTree.{ShownTree}

-- the rows of a tree that is shown
unfoldable pub shown_rows : ShownTree → List ℕ
shown_rows shown = tree_rows (at_of shown.words) (tree_of (at_of shown.words) shown.root)

-- the tree as the grace protocol has it
abbrev pub grace_tree : ShownTree → grace.GraceTreeView
grace_tree shown = record { number = shown.root.tree; rows = shown_rows shown; words = shown.words }

-- a tree that readers can load
pub record IsShown (slots : ℕ) (shown : ShownTree) : Type 0 where
  -- it meets the layout of nodes, and pairs only slots below this number
  pub tree : IsTree (at_of shown.words) slots shown.root
  -- it has at most nine levels
  pub low : shown.root.height ≤ 9

-- the root of tree 0
abbrev pub first_root : Root
first_root = record { tree = 0; height = 1; row = record { 0 = 0 } }

-- the words of a row that was never filled
abbrev pub empty_row : List ℕ
empty_row = replicate 32 0

-- tree 0, in a table of so many rows, none of which was filled
abbrev pub first_tree : ℕ → ShownTree
first_tree rows = record { root = first_root; words = replicate rows empty_row }
