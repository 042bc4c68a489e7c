-- For `SpanTree::store` and `SpanTree::prepare`: what a store leaves as it is.
use Rattle.std.proofs.Common.{ℕ, ◌≡◌, ◌≤◌, ◌∙◌, Bool, true, length, map, List, arith, sym, ap, inl}
use Rattle.mm_types.specs.declared.area.Page.{Page}
use Rattle.grace_core.specs.declared.clearing.Clearing.{Clearing}
use Rattle.grace_core.specs.Core.{since_at}
use Rattle.maple_node.specs.Trees.{Pair}
use Rattle.node_slots.specs.declared.view.NodeView.{NodeView}
use Rattle.node_slots.specs.declared.seats.NodeWriter.{NodeWriter}
use Rattle.node_slots.specs.declared.tree.Tree.{Tree}
use Rattle.node_slots.specs.Seats.{WritesNodeTable, writer_state, is_waiting, row_count, free_of}
use Rattle.node_slots.specs.Built.{IsBuilt, pairs_now}
use Rattle.maple_write.specs.Tables.{FillsRows}
use Rattle.area_tree.specs.declared.spans.SpanTree.TheInside.{Inside}
use Rattle.area_tree.specs.SpanTrees.{enough}
use Rattle.area_tree.specs.SpanKept.{IsSpanTree, span_view}
use Rattle.area_tree.specs.Rows.{elapsed_of, spare_rows, shown_pairs}
use Rattle.area_tree.proofs.Counts.{waiting_within}
use Rattle.area_tree.proofs.Writing.{shown_same, spare_more, elapsed_more, elapsed_below}

-- the present tree is the same
stored_tree : (old new : NodeWriter) → FillsRows old new → (writer_state new).tree ≡ (writer_state old).tree
stored_tree old new stores = ap (λ v. v.known.writer_state.tree) stores.seen

stored_size : (old new : NodeWriter) → FillsRows old new → row_count new ≡ row_count old
stored_size old new stores = ap (λ v. v.size.rows) stores.seen

pub stored_shown : (old new : NodeWriter) → FillsRows old new → shown_pairs new ≡ shown_pairs old
stored_shown old new stores = shown_same old new (stored_tree old new stores) (ap (λ v. v.known.root) stores.seen)

-- no more has elapsed, and no less
stored_elapsed_more : (old new : NodeWriter) → (writer_state new).tree ≡ (writer_state old).tree → row_count new ≡ row_count old
    → (writer_state new).since ≡ (writer_state old).since → ((row : ℕ) → is_waiting new row ≡ true → is_waiting old row ≡ true)
    → elapsed_of old ≤ elapsed_of new
stored_elapsed_more old new tree sized since less =
    elapsed_more old new (omega (arith, ap (λ t. t.number) tree)) sized
    (λ row waits.
    let was = less row waits in
    let below = elapsed_below old row (waiting_within old row was) was in
    omega (arith, below, ap (λ s. since_at s row) since))

pub stored_elapsed : (old new : NodeWriter) → FillsRows old new → elapsed_of new ≡ elapsed_of old
stored_elapsed old new stores =
    let tree = stored_tree old new stores in
    let sized = stored_size old new stores in
    let since = ap (λ (v : NodeView). v.known.writer_state.since) stores.seen in
    let up = stored_elapsed_more old new tree sized since (λ row waits. sym (stores.waits row) ∙ waits) in
    let down = stored_elapsed_more new old (sym tree) (sym sized) (sym since) (λ row waits. stores.waits row ∙ waits) in
    omega (arith, up, down)

-- a store keeps what the fields keep
pub stored_kept : (fields : Inside) (new : NodeWriter) (tree : Tree) (roomy : Bool) → WritesNodeTable new fields.nodes → FillsRows fields.writer new
    → IsBuilt new tree → tree.limit ≡ fields.tree.limit → length (pairs_now new tree) ≤ fields.areas
    → enough fields.areas ≤ spare_rows fields.writer → IsSpanTree fields
    → IsSpanTree (record fields { writer = new; tree = tree; changed = true; roomy = roomy })
stored_kept fields new tree roomy writes stores built limit few room kept =
    let old : NodeWriter = fields.writer in
    let present = stored_tree old new stores in
    let sized = stored_size old new stores in
    let shown = stored_shown old new stores in
    record {
      table = writes;
      tree = inl built;
      some_areas = kept.some_areas;
      few_areas = kept.few_areas;
      some_pages = omega (arith, ap (λ p. p.0) limit, kept.some_pages);
      rows = sized ∙ kept.rows;
      slots = ap (λ v. v.size.slots) stores.seen ∙ kept.slots;
      number = ap (λ t. t.number) present ∙ kept.number;
      few_pairs = few;
      first = λ none. shown ∙ kept.first none;
      shown = λ still. absurd (cc);
      rest = λ still. absurd (cc);
      built = λ _. built;
      room = λ _. let more = spare_more old new present sized (λ row waits. sym (stores.waits row) ∙ waits) in omega (arith, more, room);
    }

-- what contracts see of it
pub stored_view : (fields : Inside) (new : NodeWriter) (tree : Tree) (pairs : List Pair) → FillsRows fields.writer new → tree.limit ≡ fields.tree.limit
    → pairs_now new tree ≡ pairs
    → span_view (record fields { writer = new; tree = tree; changed = true }) ≡ record (span_view fields) { pairs = pairs; changed = true; free = length (free_of new) }
stored_view fields new tree pairs stores limit is =
    let elapsed = stored_elapsed fields.writer new stores in
    let shown = stored_shown fields.writer new stores in
    let number = ap (λ (p : Page). p.0) limit in
    let looks = ap (λ (v : NodeView). v.scans) stores.seen in
    let pins = ap (λ (v : NodeView). map (λ (found : Clearing). found.pin) v.known.writer_state.clearings) stores.seen in
    cc
