-- Walks: the slot of a page, and what a walk needs of its reader.
use Rattle.std.specs.Prelude.{ℕ, ◌≡◌, true, length, Option, Some}
use Rattle.maple_node.specs.declared.root.Root.{Root}
use Rattle.maple_node.specs.Levels.{at_of}
use Rattle.maple_node.specs.Trees.{pairs_of, tree_of}
use Rattle.maple_node.specs.Pairs as paired
use Rattle.node_slots.specs.declared.view.ShownTree.{ShownTree}
use Rattle.node_slots.specs.declared.view.NodeView.{NodeView}
use Rattle.grace_core.specs.Core.{has_row}
use Rattle.node_slots.specs.Trees.{grace_tree, IsShown}
use Rattle.node_slots.specs.Plays.{RowsExist}

-- the slot that a tree pairs with a page, where one of its pairs has it
abbrev pub shown_slot : ℕ → ShownTree → Option ℕ
shown_slot page shown = paired.paired_slot page (pairs_of (at_of shown.words) (tree_of (at_of shown.words) shown.root))

-- the reader's snapshot is the tree of this root, which meets the layout, and whose rows exist
pub record HasLoaded (view : NodeView) (root : Root) : Type 0 where
  pub shown : ShownTree
  pub snapshot : view.snapshot ≡ Some shown
  pub root_is : shown.root ≡ root
  pub layout : IsShown view.size.slots shown
  pub exist : RowsExist view.size.rows shown

-- a row of the reader's snapshot has the words of a node
pub record HasNode (view : NodeView) (row : ℕ) : Type 0 where
  pub shown : ShownTree
  pub snapshot : view.snapshot ≡ Some shown
  pub has : has_row (grace_tree shown) row ≡ true
  pub long : length (at_of shown.words row) ≡ 32
