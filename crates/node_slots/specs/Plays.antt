-- What each step tells the seat that makes it.
use Rattle.std.specs.Prelude.{ℕ, ◌≡◌, ◌<◌, true, slice_index, Some}
use Rattle.grace_core.specs.Core.{has_row, row_at}
use Rattle.maple_node.specs.declared.root.Root.{Root}
use Rattle.maple_node.specs.Roots.{packed_root, unpacked_root, FitsRoot}
use Rattle.atomic_table.specs.Table.{Me, Step}
use Rattle.node_slots.specs.declared.view.ShownTree.{ShownTree}
use Rattle.node_slots.specs.declared.view.NodeView.{NodeView}
use Rattle.node_slots.specs.Trees.{grace_tree, IsShown}
use Rattle.node_slots.specs.Places.{pin_place, word_place}
use Rattle.node_slots.specs.Views.{open_at, root_at, word_at, close_at, node_store_at, publish_at, scan_at}

-- a step with its place, its operands and the value found, and the seat before and after it
abbrev pub NodeTells : Type 1
NodeTells = Step (Unit {0}) → Me (Unit {0}) NodeView → ℕ → Me (Unit {0}) NodeView → Type 0

-- the rows of a tree exist, in a table of so many rows
abbrev pub RowsExist : ℕ → ShownTree → Type 0
RowsExist rows shown = (row : ℕ) → has_row (grace_tree shown) row ≡ true → row < rows

-- open
abbrev pub opened : NodeTells
opened step me found new = new ≡ (open_at me.0, me.1)

-- root: the present tree, which the word found names, meets the layout, and its rows exist
abbrev pub loaded : NodeTells
loaded step me found new = (shown : ShownTree) × (shown.root ≡ unpacked_root found) × IsShown me.0.size.slots shown
    × RowsExist me.0.size.rows shown × (new ≡ (root_at me.0 shown, me.1))

-- word: of a row of the snapshot the word that it had when the tree was published
abbrev pub word_read : NodeTells
word_read step me found new = (new ≡ (word_at me.0, me.1))
    × ((shown : ShownTree) (row place : ℕ) → me.0.snapshot ≡ Some shown → has_row (grace_tree shown) row ≡ true → place < 32
    → step.word ≡ word_place me.0.size.readers row place → found ≡ slice_index (row_at shown.words row) place)

-- close
abbrev pub closed : NodeTells
closed step me found new = new ≡ (close_at me.0, me.1)

-- a word of a row is stored
abbrev pub fill_tells : NodeTells
fill_tells step me found new = (row place : ℕ) → place < 32 → step.word ≡ word_place me.0.size.readers row place
    → new ≡ (node_store_at me.0 row place step.first, me.1)

-- publish
abbrev pub shown_now : NodeTells
shown_now step me found new = (root : Root) → FitsRoot root → step.first ≡ packed_root root → new ≡ (publish_at me.0 root, me.1)

-- a pin is loaded
abbrev pub pin_found : NodeTells
pin_found step me found new = (reader : ℕ) → step.word ≡ pin_place reader → new ≡ (scan_at me.0 reader found, me.1)
