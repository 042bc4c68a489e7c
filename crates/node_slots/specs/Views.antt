-- What a seat knows, and what each step makes of it.
use Rattle.std.specs.Prelude.{ℕ, ◌+◌, List, [], ◌∷◌, replicate, slice_index_or, slice_set, Some, None}
use Rattle.grace_core.specs.Core as grace
use Rattle.grace_core.specs.Steps.{turned, filled, published, scanned, new_clearing}
use Rattle.maple_node.specs.declared.root.Root.{Root}
use Rattle.node_slots.specs.declared.view.Size.{Size}
use Rattle.node_slots.specs.declared.view.NodeSeatKind.TheVariants.{Reads, Writes, Spent}
use Rattle.node_slots.specs.declared.view.ShownTree.{ShownTree}
use Rattle.node_slots.specs.declared.view.Known.{Known}
use Rattle.node_slots.specs.declared.view.NodeView.{NodeView}
use Rattle.node_slots.specs.Trees.{shown_rows, grace_tree, first_root, empty_row, first_tree}

-- What the writer of a new table knows: tree 0 is present, every word of a row is 0, no row was left out by a tree, and no reader
-- was scanned.
abbrev pub first_writer_state : Size → grace.WriterState
first_writer_state size = record {
  width = 32;
  tree = grace_tree (first_tree size.rows);
  words = replicate size.rows empty_row;
  since = replicate size.rows 0;
  clearings = replicate size.readers new_clearing;
  passed = 0;
}

-- the same, after so many readers were made
abbrev pub first_known : Size → ℕ → Known
first_known size made = record { root = first_root; writer_state = first_writer_state size; made = made }

-- a size of no table
abbrev pub no_size : Size
no_size = record { rows = 0; slots = 0; readers = 0 }

-- what a seat knows of the table that is not the writer's
abbrev pub no_known : Known
no_known = first_known no_size 0

-- the writer of a new table, after so many readers were made
abbrev pub opened_node_view : Size → ℕ → NodeView
opened_node_view size made = record {
  size = size;
  kind = Writes;
  reader = 0;
  pin = 0;
  snapshot = None;
  last = None;
  walks = 0;
  words = 0;
  joins = 0;
  known = first_known size made;
  scans = 0;
}

-- a reader that made no step
abbrev pub reader_view : Size → ℕ → NodeView
reader_view size reader = record {
  size = size;
  kind = Reads;
  reader = reader;
  pin = 0;
  snapshot = None;
  last = None;
  walks = 0;
  words = 0;
  joins = 0;
  known = no_known;
  scans = 0;
}

-- a seat that was joined into another
abbrev pub spent_node_view : NodeView
spent_node_view = record (reader_view no_size 0) { kind = Spent }

-- a seat by its number
abbrev pub node_view_at : List NodeView → ℕ → NodeView
node_view_at views seat = slice_index_or views seat spent_node_view

-- a new reader
abbrev pub new_node_reader : NodeView → NodeView
new_node_reader view = reader_view view.size view.known.made

-- the writer after it made a reader
abbrev pub after_node_reader : NodeView → NodeView
after_node_reader view = record view { known = record view.known { made = view.known.made + 1 } }

-- open: the pin becomes odd
abbrev pub open_at : NodeView → NodeView
open_at view = record view { pin = turned view.pin }

-- root: this tree is the snapshot
abbrev pub root_at : NodeView → ShownTree → NodeView
root_at view shown = record view { snapshot = Some shown; last = Some shown; walks = view.walks + 1 }

-- a word of a row was read
abbrev pub word_at : NodeView → NodeView
word_at view = record view { words = view.words + 1 }

-- close: the pin becomes even, and the snapshot ends
abbrev pub close_at : NodeView → NodeView
close_at view = record view { pin = turned view.pin; snapshot = None }

-- a seat was joined into it
abbrev pub node_joined_at : NodeView → NodeView
node_joined_at view = record view { joins = view.joins + 1 }

-- a word of a row becomes this one
abbrev pub node_store_at : NodeView → ℕ → ℕ → ℕ → NodeView
node_store_at view row place word = record view { known = record view.known { writer_state = filled view.known.writer_state row place word } }

-- fill: the row has these words
abbrev pub fill_at : NodeView → ℕ → List ℕ → NodeView
fill_at view row words = record view {
  known = record view.known { writer_state = record view.known.writer_state { words = slice_set view.known.writer_state.words row words } };
}

-- the tree that a root names among the words that the writer knows
abbrev pub named_tree : Known → Root → ShownTree
named_tree known root = record { root = root; words = known.writer_state.words }

-- publish: the tree of this root is present
abbrev pub publish_at : NodeView → Root → NodeView
publish_at view root = record view {
  known = record view.known {
    root = root;
    writer_state = published view.known.writer_state root.tree (shown_rows (named_tree view.known root));
  };
}

-- a scan of a reader found this pin
abbrev pub scan_at : NodeView → ℕ → ℕ → NodeView
scan_at view reader found = record view {
  known = record view.known { writer_state = scanned view.known.writer_state reader found };
  scans = view.scans + 1;
}

-- scan: the pins of all readers from one on were found
abbrev pub scan_from : ℕ → List ℕ → NodeView → NodeView
scan_from reader [] view = view
scan_from reader (found ∷ pins) view = scan_from (reader + 1) pins (scan_at view reader found)
