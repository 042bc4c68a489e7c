-- What the fields of a tree of spans and slots keep.
use Rattle.std.specs.Prelude.{ℕ, ◌≡◌, ◌<◌, ◌≤◌, true, false, [], length}
use Rattle.mm_types.specs.declared.config.TheConstants.{MOST_AREAS}
use Rattle.mm_types.specs.Config.{rows_for, slots_for}
use Rattle.node_slots.specs.Seats.{node_table_id, WritesNodeTable, node_sight, writer_state, row_count, is_present, is_kept, pins_of, free_of}
use Rattle.node_slots.specs.Built.{IsBuilt, IsWriters, pairs_now}
use Rattle.area_tree.specs.declared.spans.SpanTree.TheInside.{Inside}
use Rattle.area_tree.specs.SpanTrees.{SpanView, enough}
use Rattle.area_tree.specs.Rows.{spare_rows, elapsed_of, shown_pairs}

-- the tree that the fields are
abbrev pub span_view : Inside → SpanView
span_view fields = record {
  table = node_table_id fields.nodes;
  areas = fields.areas;
  limit = fields.tree.limit.0;
  number = fields.number;
  published = fields.published;
  elapsed = elapsed_of fields.writer;
  pairs = pairs_now fields.writer fields.tree;
  shown = shown_pairs fields.writer;
  changed = fields.changed;
  roomy = fields.roomy;
  scans = (node_sight fields.writer).scans;
  found = fields.tally;
  pins = pins_of fields.writer;
  free = length (free_of fields.writer);
}

-- The writer is of the table, which has this size, and shows the tree of its own view, or nothing was built yet. This tree has
-- at most so many pairs. Where nothing was stored since the last publish, its rows and pairs are those of the present tree.
-- Where the tree was prepared, it is built, and enough rows are spare.
pub record IsSpanTree (fields : Inside) : Type 0 where
  pub table : WritesNodeTable fields.writer fields.nodes
  pub tree : IsWriters fields.writer fields.tree
  pub some_areas : 1 ≤ fields.areas
  pub few_areas : fields.areas ≤ MOST_AREAS
  pub some_pages : 0 < fields.tree.limit.0
  pub rows : row_count fields.writer ≡ rows_for fields.areas
  pub slots : (node_sight fields.writer).size.slots ≡ slots_for fields.areas
  pub number : (writer_state fields.writer).tree.number ≡ fields.number
  pub few_pairs : length (pairs_now fields.writer fields.tree) ≤ fields.areas
  pub first : fields.number ≡ 0 → shown_pairs fields.writer ≡ []
  pub shown : fields.changed ≡ false → shown_pairs fields.writer ≡ pairs_now fields.writer fields.tree
  pub rest : fields.changed ≡ false → (row : ℕ) → is_present fields.writer row ≡ is_kept fields.writer row
  pub built : fields.roomy ≡ true → IsBuilt fields.writer fields.tree
  pub room : fields.roomy ≡ true → enough fields.areas ≤ spare_rows fields.writer
