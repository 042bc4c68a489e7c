-- For `SpanTree::new`: the writer of a new table.
use Rattle.std.proofs.Common.{ℕ, ◌≡◌, ◌<◌, ◌≤◌, ◌+◌, ◌∙◌, false, nat_eq, List, [], length, replicate, arith, inl, inr, sym, refl, ap}
use Rattle.std.proofs.lemmas.Bool.{cases_lt}
use Rattle.std.proofs.lemmas.Bool.Decides.{eqb_tells}
use Rattle.std.proofs.lemmas.List.{get_or-replicate}
use Rattle.mm_types.specs.declared.area.Page.{Page}
use Rattle.grace_core.specs.Core.{has_row, row_at}
use Rattle.maple_node.specs.Levels.{at_of}
use Rattle.maple_node.specs.Trees.{Pair, IsFirst}
use Rattle.maple_node.proofs.Trees.{first-pairs}
use Rattle.node_slots.specs.declared.view.NodeView.{NodeView}
use Rattle.node_slots.specs.declared.seats.NodeTable.{NodeTable}
use Rattle.node_slots.specs.declared.seats.NodeWriter.{NodeWriter}
use Rattle.node_slots.specs.declared.tree.Tree.{Tree}
use Rattle.node_slots.specs.Trees.{first_root, empty_row, first_tree, grace_tree}
use Rattle.node_slots.specs.Seats.{WritesNodeTable, writer_state, row_count, is_present, pins_of, free_of}
use Rattle.node_slots.specs.Built.{IsBlank, pairs_now}
use Rattle.node_slots.proofs.Starting.{first_has, first_else}
use Rattle.maple_write.proofs.Blanks.{blank_new}
use Rattle.area_tree.specs.SpanTrees.{IsFreshWriter, size_for}
use Rattle.area_tree.specs.SpanKept.{IsSpanTree, span_view}
use Rattle.area_tree.specs.Rows.{elapsed_of, shown_pairs}
use Rattle.area_tree.proofs.Writing.{pairs_in, elapsed_most}
use Rattle.area_tree.proofs.SpanFacts.{first_pairs}

-- the table has this size
fresh_rows : (areas : ℕ) (writer : NodeWriter) → IsFreshWriter areas writer → row_count writer ≡ areas + 128
fresh_rows areas writer fresh = ap (λ (v : NodeView). v.size.rows) fresh.view

-- no tree was published
fresh_number : (areas : ℕ) (writer : NodeWriter) → IsFreshWriter areas writer → (writer_state writer).tree.number ≡ 0
fresh_number areas writer fresh = ap (λ (v : NodeView). v.known.writer_state.tree.number) fresh.view

-- the words of row 0 are zeros
fresh_words : (areas : ℕ) (writer : NodeWriter) → IsFreshWriter areas writer → row_at (writer_state writer).words 0 ≡ empty_row
fresh_words areas writer fresh =
    ap (λ (v : NodeView). row_at v.known.writer_state.words 0) fresh.view ∙ get_or-replicate (areas + 128) 0 empty_row [] (omega arith)

-- row 0 is of tree 0, and no other row
fresh_present : (areas : ℕ) (writer : NodeWriter) → IsFreshWriter areas writer → (row : ℕ) → is_present writer row ≡ nat_eq row 0
fresh_present areas writer fresh row =
    let same = ap (λ (v : NodeView). has_row v.known.writer_state.tree row) fresh.view in
    elim (eqb_tells row 0) [
      | inl zeroth ↦ same ∙ ap (has_row (grace_tree (first_tree (areas + 128)))) zeroth.1 ∙ first_has (areas + 128) (omega arith) ∙ sym zeroth.0
      | inr differ ↦ same
          ∙ first_else (areas + 128) row (omega arith) (elim (cases_lt 0 row) [ inl more ↦ more | inr zeroth ↦ absurd (differ.1 (omega (arith, zeroth))) ])
          ∙ sym differ.0
    ]

-- nothing was built yet
fresh_blank : (areas : ℕ) (writer : NodeWriter) (tree : Tree) → IsFreshWriter areas writer → tree.root.0 ≡ 0 → tree.height ≡ 1
    → 0 < tree.limit.0 → IsBlank writer tree
fresh_blank areas writer tree fresh root height some =
    blank_new writer tree (size_for areas fresh.readers) fresh.readers fresh.view fresh.free fresh.left root height some

-- there are no pairs
fresh_pairs : (areas : ℕ) (writer : NodeWriter) (tree : Tree) → IsFreshWriter areas writer → tree.root.0 ≡ 0 → tree.height ≡ 1
    → pairs_now writer tree ≡ []
fresh_pairs areas writer tree fresh root height = first_pairs writer tree (fresh_words areas writer fresh) root height

fresh_shown : (areas : ℕ) (writer : NodeWriter) → IsFreshWriter areas writer → shown_pairs writer ≡ []
unfolding pairs_in
fresh_shown areas writer fresh =
    let is : IsFirst (at_of (replicate (areas + 128) empty_row)) first_root = record {
      named = refl;
      words = get_or-replicate (areas + 128) 0 empty_row [] (omega arith);
    } in
    ap (λ (v : NodeView). pairs_in v.known.writer_state.tree v.known.root) fresh.view
    ∙ first-pairs (at_of (replicate (areas + 128) empty_row)) first_root is

-- no tree's grace period has elapsed but tree 0
fresh_elapsed : (areas : ℕ) (writer : NodeWriter) → IsFreshWriter areas writer → elapsed_of writer ≡ 0
fresh_elapsed areas writer fresh = omega (arith, elapsed_most writer, fresh_number areas writer fresh)

-- what the fields of a new tree keep
pub fresh_spans : (areas : ℕ) (writer : NodeWriter) (nodes : NodeTable) (tree : Tree) (tally : List ℕ) → 1 ≤ areas → areas ≤ 65530 → IsFreshWriter areas writer
    → WritesNodeTable writer nodes → tree.root.0 ≡ 0 → tree.height ≡ 1 → 0 < tree.limit.0
    → IsSpanTree (record { nodes = nodes; writer = writer; tree = tree; areas = areas; number = 0; changed = false; roomy = false; tally = tally; published = 0 })
fresh_spans areas writer nodes tree tally some_areas few_areas fresh writes root height some =
    let pairs = fresh_pairs areas writer tree fresh root height in
    let shown = fresh_shown areas writer fresh in
    let blank = fresh_blank areas writer tree fresh root height some in
    record {
      table = writes;
      tree = inr blank;
      some_areas = some_areas;
      few_areas = few_areas;
      some_pages = some;
      rows = fresh_rows areas writer fresh;
      slots = ap (λ (v : NodeView). v.size.slots) fresh.view;
      number = fresh_number areas writer fresh;
      few_pairs = omega (arith, ap (λ (ps : List Pair). length ps) pairs);
      first = λ _. shown;
      shown = λ _. shown ∙ sym pairs;
      rest = λ _ row. fresh_present areas writer fresh row ∙ sym (blank.kept row);
      built = λ roomy. absurd (cc);
      room = λ roomy. absurd (cc);
    }

-- and what contracts see of it
pub fresh_view : (areas : ℕ) (writer : NodeWriter) (nodes : NodeTable) (tree : Tree) (tally : List ℕ) (limit : Page) → tally ≡ [] → IsFreshWriter areas writer
    → WritesNodeTable writer nodes → tree.root.0 ≡ 0 → tree.height ≡ 1 → tree.limit ≡ limit
    → span_view (record { nodes = nodes; writer = writer; tree = tree; areas = areas; number = 0; changed = false; roomy = false; tally = tally; published = 0 })
    ≡ record {
      table = writer.writer_state.seat.table_id;
      areas = areas;
      limit = limit.0;
      number = 0;
      published = 0;
      elapsed = 0;
      pairs = [];
      shown = [];
      changed = false;
      roomy = false;
      scans = 0;
      found = [];
      pins = pins_of writer;
      free = length (free_of writer);
    }
fresh_view areas writer nodes tree tally limit none fresh writes root height same =
    let pairs = fresh_pairs areas writer tree fresh root height in
    let shown = fresh_shown areas writer fresh in
    let elapsed = fresh_elapsed areas writer fresh in
    let table = sym writes.same in
    let end = ap (λ (p : Page). p.0) same in
    let looks = ap (λ (v : NodeView). v.scans) fresh.view in
    cc
