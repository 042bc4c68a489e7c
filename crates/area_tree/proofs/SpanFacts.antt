-- For `SpanTree::scan`, `SpanTree::prepare` and others: what the fields keep.
use Rattle.std.proofs.Common.{ℕ, ◌≡◌, ◌<◌, ◌≤◌, ◌+◌, ◌*◌, ◌∙◌, true, false, List, [], replicate, arith, inl, inr, sym, ap, subst}
use Rattle.grace_core.specs.Core.{since_at, row_at}
use Rattle.maple_node.specs.declared.root.Root.{Root}
use Rattle.maple_node.specs.Trees.{Pair, IsFirst}
use Rattle.maple_node.proofs.Trees.{first-pairs}
use Rattle.node_slots.specs.declared.seats.NodeWriter.{NodeWriter}
use Rattle.node_slots.specs.declared.tree.Tree.{Tree}
use Rattle.node_slots.specs.Seats.{WritesNodeTable, node_sight, writer_state, is_waiting, row_count}
use Rattle.node_slots.specs.Built.{IsBuilt, IsWriters, words_at, built, pairs_now}
use Rattle.area_tree.specs.declared.spans.SpanTree.TheInside.{Inside}
use Rattle.area_tree.specs.SpanTrees.{ArePairs, enough}
use Rattle.area_tree.specs.SpanKept.{IsSpanTree}
use Rattle.area_tree.specs.Rows.{Scans, Suffices, elapsed_of}
use Rattle.area_tree.proofs.Waits.{wait-most, wait-greatest}
use Rattle.area_tree.proofs.Pairs.{layout-pairs}
use Rattle.area_tree.proofs.Counts.{waiting_within, rest_free}
use Rattle.area_tree.proofs.Writing.{shown_same, present_same, spare_more, elapsed_more, elapsed_below, pairs_same, scanned_built, scanned_writers}

-- scans keep what the fields keep
pub scanned_kept : (fields : Inside) (new : NodeWriter) (tally : List ℕ) → WritesNodeTable new fields.nodes → Scans fields.writer new → IsSpanTree fields
    → IsSpanTree (record fields { writer = new; tally = tally })
scanned_kept fields new tally writes scans kept =
    let old : NodeWriter = fields.writer in
    let sized : row_count new ≡ row_count old = ap (λ s. s.rows) scans.same.size in
    let shown = shown_same old new scans.same.tree scans.same.root in
    let pairs = pairs_same old new fields.tree scans.same.words in
    record {
      table = writes;
      tree = scanned_writers old new fields.tree scans kept.tree;
      some_areas = kept.some_areas;
      few_areas = kept.few_areas;
      some_pages = kept.some_pages;
      rows = sized ∙ kept.rows;
      slots = ap (λ s. s.slots) scans.same.size ∙ kept.slots;
      number = ap (λ t. t.number) scans.same.tree ∙ kept.number;
      few_pairs = rw pairs kept.few_pairs;
      first = λ none. shown ∙ kept.first none;
      shown = λ still. shown ∙ kept.shown still ∙ sym pairs;
      rest = λ still row. present_same old new scans.same.tree row ∙ kept.rest still row ∙ sym (scans.kept row);
      built = λ roomy. scanned_built old new fields.tree scans (kept.built roomy);
      room = λ roomy. let more = spare_more old new scans.same.tree sized scans.waits in omega (arith, more, kept.room roomy);
    }

-- and once no row waits, enough rows are free, if the tree that is built is the present one
pub scanned_free : (fields : Inside) → IsSpanTree fields → fields.changed ≡ false → Suffices fields.writer (enough fields.areas)
scanned_free fields kept still later scans none =
    let old : NodeWriter = fields.writer in
    rest_free later fields.tree fields.areas (scanned_writers old later fields.tree scans kept.tree)
    (ap (λ s. s.rows) scans.same.size ∙ kept.rows)
    (rw (pairs_same old later fields.tree scans.same.words) kept.few_pairs) kept.few_areas
    (λ row. present_same old later scans.same.tree row ∙ kept.rest still row ∙ sym (scans.kept row)) none

-- and settle more
pub scanned_elapsed : (old new : NodeWriter) → Scans old new → elapsed_of old ≤ elapsed_of new
scanned_elapsed old new scans =
    elapsed_more old new (omega (arith, ap (λ t. t.number) scans.same.tree)) (ap (λ s. s.rows) scans.same.size)
    (λ row waits.
    let was = scans.waits row waits in
    let below = elapsed_below old row (waiting_within old row was) was in
    omega (arith, below, ap (λ s. since_at s row) scans.same.since))

-- the tree whose grace period has elapsed is the greatest one
pub elapsed_is : (writer : NodeWriter) (found : ℕ) → found ≤ (writer_state writer).tree.number
    → ((row : ℕ) → is_waiting writer row ≡ true → found < since_at (writer_state writer).since row)
    → ((tree : ℕ) → tree ≤ (writer_state writer).tree.number → ((row : ℕ) → is_waiting writer row ≡ true → tree < since_at (writer_state writer).since row)
    → tree ≤ found)
    → found ≡ elapsed_of writer
elapsed_is writer found most none greatest =
    let up = wait-greatest (is_waiting writer) (since_at (writer_state writer).since) (writer_state writer).tree.number (row_count writer) found most
    (λ row _ waits. let later = none row waits in omega (arith, later)) in
    let down = greatest (elapsed_of writer)
    (wait-most (is_waiting writer) (since_at (writer_state writer).since) (writer_state writer).tree.number (row_count writer))
    (λ row waits. let below = elapsed_below writer row (waiting_within writer row waits) waits in
    let later = none row waits in omega (arith, below, later)) in
    omega (arith, up, down)

-- the pairs of a tree that was built
pub built_pairs : (fields : Inside) → IsSpanTree fields → IsBuilt fields.writer fields.tree
    → ArePairs (2 * fields.areas + 2) fields.tree.limit.0 0 (pairs_now fields.writer fields.tree)
built_pairs fields kept is =
    let pairs = layout-pairs (words_at fields.writer) (node_sight fields.writer).size.slots (built fields.writer fields.tree) is.layout in
    let at : ℕ → ℕ → Type 0 = λ slots limit. ArePairs slots limit 0 (pairs_now fields.writer fields.tree) in
    subst (at (2 * fields.areas + 2)) is.limit (subst (λ n. at n (built fields.writer fields.tree).top.end) kept.slots pairs)

-- a root in row 0 whose words are zeros has no pairs
pub first_pairs : (writer : NodeWriter) (tree : Tree) → row_at (writer_state writer).words 0 ≡ replicate 32 0 → tree.root.0 ≡ 0 → tree.height ≡ 1
    → pairs_now writer tree ≡ []
first_pairs writer tree words root height =
    let named : ℕ → ℕ → Root = λ levels row. record { tree = 0; height = levels; row = record { 0 = row } } in
    let is : IsFirst (words_at writer) (named tree.height tree.root.0) = record {
      named = ap (λ levels. named levels tree.root.0) height ∙ ap (named 1) root;
      words = words;
    } in
    first-pairs (words_at writer) (named tree.height tree.root.0) is

-- the pairs of a tree that was built, or of none
pub writers_pairs : (fields : Inside) → IsSpanTree fields → IsWriters fields.writer fields.tree
    → ArePairs (2 * fields.areas + 2) fields.tree.limit.0 0 (pairs_now fields.writer fields.tree)
writers_pairs fields kept (inl is) = built_pairs fields kept is
writers_pairs fields kept (inr blank) =
    subst (λ (pairs : List Pair). ArePairs (2 * fields.areas + 2) fields.tree.limit.0 0 pairs)
    (sym (first_pairs fields.writer fields.tree blank.words blank.root blank.height)) (omega (arith, kept.some_pages))
