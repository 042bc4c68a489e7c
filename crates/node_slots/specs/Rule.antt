-- The rule of a table: its words and what its seats know show one state of the grace protocol, whose rows have 32 words.
use Rattle.std.specs.Prelude.{ℕ, ◌≡◌, ◌<◌, ◌≤◌, List, length, slice_index, Some}
use Rattle.grace_core.specs.Core.{Exists, row_at}
use Rattle.grace_core.specs.Facts.{WriterFacts, Keeps}
use Rattle.maple_node.specs.Roots.{unpacked_root}
use Rattle.atomic_table.specs.Table.{State}
use Rattle.node_slots.specs.declared.view.Size.{Size}
use Rattle.node_slots.specs.declared.view.NodeSeatKind.TheVariants.{Reads, Writes}
use Rattle.node_slots.specs.declared.view.ShownTree.{ShownTree}
use Rattle.node_slots.specs.declared.view.Known.{Known}
use Rattle.node_slots.specs.declared.view.NodeView.{NodeView}
use Rattle.node_slots.specs.Trees.{grace_tree, IsShown}
use Rattle.node_slots.specs.Places.{root_place, pin_place, word_place, word_count}
use Rattle.node_slots.specs.Views.{node_view_at}

-- what is so of a reader: its pin stands in its place, and what the grace protocol keeps of its snapshot
pub record FitsReader (size : Size) (words : List ℕ) (known : Known) (view : NodeView) : Type 0 where
  pub size_is : view.size ≡ size
  pub made : view.reader < known.made
  pub pin : slice_index words (pin_place view.reader) ≡ view.pin
  pub keeps : (shown : ShownTree) → view.snapshot ≡ Some shown → Keeps known.writer_state view.reader view.pin (grace_tree shown)

-- The writer is the first seat, and knows the table.
pub record FitsWriter (size : Size) (known : Known) (seat : ℕ) (view : NodeView) : Type 0 where
  pub size_is : view.size ≡ size
  pub first : seat ≡ 0
  pub knows : view.known ≡ known

-- what is so of each seat
pub record NodeSeatFits (size : Size) (words : List ℕ) (known : Known) (seat : ℕ) (view : NodeView) : Type 0 where
  pub reader : view.kind ≡ Reads → FitsReader size words known view
  pub writer : view.kind ≡ Writes → FitsWriter size known seat view

-- each reader has at most one seat
abbrev pub AreApart : List NodeView → Type 0
AreApart views = (seat other : ℕ) → (node_view_at views seat).kind ≡ Reads → (node_view_at views other).kind ≡ Reads
    → (node_view_at views seat).reader ≡ (node_view_at views other).reader → seat ≡ other

-- what the writer knows is a writer's state of the grace protocol whose present tree the root names, and this tree meets the layout
pub record Stands (size : Size) (known : Known) : Type 0 where
  pub writer_facts : WriterFacts known.writer_state
  pub tree : known.writer_state.tree ≡ grace_tree (record { root = known.root; words = known.writer_state.tree.words })
  pub shown : IsShown size.slots (record { root = known.root; words = known.writer_state.tree.words })
  pub width : known.writer_state.width ≡ 32
  pub rows : length known.writer_state.words ≡ size.rows
  pub exist : (reader : ℕ) → reader < size.readers → Exists known.writer_state.clearings reader
  pub made : known.made ≤ size.readers

-- the words of the table are the root word, the pins and the words of the rows, each in its place
pub record HasWords (size : Size) (words : List ℕ) (known : Known) : Type 0 where
  pub sized : length words ≡ word_count size
  pub root : unpacked_root (slice_index words root_place) ≡ known.root
  pub new_pins : (reader : ℕ) → known.made ≤ reader → reader < size.readers → slice_index words (pin_place reader) ≡ 0
  pub rows : (row place : ℕ) → row < size.rows → place < 32
      → slice_index words (word_place size.readers row place) ≡ slice_index (row_at known.writer_state.words row) place

-- The words and what the seats know show one state of the grace protocol, for all 32 places of the rows at once.
pub record ShowsKnown (size : Size) (state : State (Unit {0}) NodeView) (known : Known) : Type 0 where
  pub stands : Stands size known
  pub words : HasWords size state.words known
  pub seats : (seat : ℕ) → NodeSeatFits size state.words known seat (node_view_at state.views seat)
  pub apart : AreApart state.views

-- the rule
pub record ShowsGrace (size : Size) (state : State (Unit {0}) NodeView) : Type 0 where
  pub known : Known
  pub shows : ShowsKnown size state known
