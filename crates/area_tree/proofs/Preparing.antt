-- For `SpanTree::prepare`: a tree is built, and enough rows are spare.
use Rattle.std.proofs.Common.{ℕ, ◌≡◌, ◌≤◌, ◌∙◌, true, false, List, [], length, arith, inl, inr, sym, ap}
use Rattle.maple_node.specs.Trees.{Pair}
use Rattle.maple_node.specs.Pairs.{overwritten}
use Rattle.node_slots.specs.declared.seats.NodeWriter.{NodeWriter}
use Rattle.node_slots.specs.declared.tree.Tree.{Tree}
use Rattle.node_slots.specs.Seats.{WritesNodeTable, writer_state, free_of}
use Rattle.node_slots.specs.Built.{IsBuilt, IsWriters, pairs_now}
use Rattle.maple_write.specs.Tables.{FillsRows}
use Rattle.area_tree.specs.declared.spans.SpanTree.TheInside.{Inside}
use Rattle.area_tree.specs.SpanTrees.{enough}
use Rattle.area_tree.specs.SpanKept.{IsSpanTree}
use Rattle.area_tree.proofs.Counts.{free_spare}
use Rattle.area_tree.proofs.SpanStoring.{stored_kept}

-- a later tree is built
later_built : (writer : NodeWriter) (tree : Tree) → ((writer_state writer).tree.number ≡ 0 → ⊥) → IsWriters writer tree → IsBuilt writer tree
later_built writer tree later (inl is) = is
later_built writer tree later (inr is) = absurd (later is.first)

-- where a later tree is present, the rows suffice
pub later_kept : (fields : Inside) → IsSpanTree fields → (fields.number ≡ 0 → ⊥) → enough fields.areas ≤ length (free_of fields.writer)
    → IsSpanTree (record fields { roomy = true })
later_kept fields kept later free = record {
  table = kept.table;
  tree = kept.tree;
  some_areas = kept.some_areas;
  few_areas = kept.few_areas;
  some_pages = kept.some_pages;
  rows = kept.rows;
  slots = kept.slots;
  number = kept.number;
  few_pairs = kept.few_pairs;
  first = kept.first;
  shown = kept.shown;
  rest = kept.rest;
  built = λ _. later_built fields.writer fields.tree (λ e. later (sym kept.number ∙ e)) kept.tree;
  room = λ _. omega (arith, free, free_spare fields.writer);
}

-- where tree 0 is present, nothing was stored yet, and a gap over pages stores no pair
pub first_pairs : (fields : Inside) → IsSpanTree fields → fields.number ≡ 0 → fields.changed ≡ false → pairs_now fields.writer fields.tree ≡ []
first_pairs fields kept none still = sym (kept.shown still) ∙ kept.first none

pub gap_pairs : (fields : Inside) (lo hi : ℕ) → IsSpanTree fields → fields.number ≡ 0 → fields.changed ≡ false
    → overwritten lo hi 0 (pairs_now fields.writer fields.tree) ≡ []
gap_pairs fields lo hi kept none still = ap (overwritten lo hi 0) (first_pairs fields kept none still)

-- and then a tree is built
pub first_kept : (fields : Inside) (new : NodeWriter) (tree : Tree) (lo hi : ℕ) → IsSpanTree fields → fields.number ≡ 0 → fields.changed ≡ false
    → enough fields.areas ≤ length (free_of fields.writer) → WritesNodeTable new fields.nodes → FillsRows fields.writer new → IsBuilt new tree
    → tree.limit ≡ fields.tree.limit → pairs_now new tree ≡ overwritten lo hi 0 (pairs_now fields.writer fields.tree)
    → IsSpanTree (record fields { writer = new; tree = tree; changed = true; roomy = true })
first_kept fields new tree lo hi kept none still free writes stores built limit pairs =
    let no_pairs = pairs ∙ gap_pairs fields lo hi kept none still in
    stored_kept fields new tree true writes stores built limit (omega (arith, ap (λ (ps : List Pair). length ps) no_pairs))
    (omega (arith, free, free_spare fields.writer)) kept
