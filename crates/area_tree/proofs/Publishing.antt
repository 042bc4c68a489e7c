-- For `SpanTree::publish`: the tree that was built is the present one.
use Rattle.std.proofs.Common.{ℕ, ◌≡◌, ◌≤◌, ◌+◌, ◌-◌, ◌∙◌, Bool, true, false, not, nat_lt, arith, inl, inr, sym, ap}
use Rattle.std.proofs.lemmas.Bool.{cases_Bool, and_parts, and_from, lt-ltb, le-ltb, ltb-true, not-true, not_from_false}
use Rattle.grace_core.specs.Core.{times, has_row, since_at}
use Rattle.grace_core.specs.Steps.{next_tree, since_from}
use Rattle.grace_core.proofs.Leaving.{since_left, since_same}
use Rattle.node_slots.specs.declared.view.NodeView.{NodeView}
use Rattle.node_slots.specs.declared.seats.NodeWriter.{NodeWriter}
use Rattle.node_slots.specs.declared.tree.Tree.{Tree}
use Rattle.node_slots.specs.Trees.{shown_rows}
use Rattle.node_slots.specs.Views.{publish_at}
use Rattle.node_slots.specs.Seats.{WritesNodeTable, node_sight, writer_state, free_of, retired_rows, row_count, is_present, is_waiting, is_kept, one_where, next_root, next_shown}
use Rattle.node_slots.specs.Built.{IsBuilt, built_rows, pairs_now}
use Rattle.node_slots.proofs.Writers.{times_same}
use Rattle.area_tree.specs.declared.spans.SpanTree.TheInside.{Inside}
use Rattle.area_tree.specs.SpanKept.{IsSpanTree}
use Rattle.area_tree.specs.Rows.{elapsed_of, shown_pairs}
use Rattle.area_tree.proofs.Counts.{waiting_within, gone_within}
use Rattle.area_tree.proofs.Writing.{pairs_in, pairs_same, built_rows_same, elapsed_most, elapsed_more, elapsed_below}

-- a publish of the tree that the writer built
pub record Publishes (old new : NodeWriter) (tree : Tree) : Type 0 where
  pub view : node_sight new ≡ publish_at (node_sight old) (next_root old tree.root.0 tree.height)
  pub free : free_of new ≡ free_of old
  pub left : retired_rows new ≡ retired_rows old
  pub built : IsBuilt new tree

published_size : (old new : NodeWriter) (tree : Tree) → Publishes old new tree → row_count new ≡ row_count old
published_size old new tree is = ap (λ v. v.size.rows) is.view

-- the present tree has the pairs of the tree that was built
pub published_shown : (old new : NodeWriter) (tree : Tree) → Publishes old new tree → shown_pairs new ≡ pairs_now old tree
unfolding pairs_in
published_shown old new tree is = ap (λ (v : NodeView). pairs_in v.known.writer_state.tree v.known.root) is.view

-- and its rows are those that are neither free nor left
has_kept : (count : ℕ) (kept : Bool) → count ≡ one_where kept → nat_lt 0 count ≡ kept
has_kept count true is = lt-ltb 0 count (omega (arith, is))
has_kept count false is = le-ltb 0 count (omega (arith, is))

published_rest : (old new : NodeWriter) (tree : Tree) → Publishes old new tree → (row : ℕ) → is_present new row ≡ is_kept new row
unfolding shown_rows
published_rest old new tree is row =
    let words = ap (λ (v : NodeView). v.known.writer_state.words) is.view in
    let rows : (writer_state new).tree.rows ≡ built_rows old tree = ap (λ (v : NodeView). v.known.writer_state.tree.rows) is.view in
    let same : built_rows new tree ≡ built_rows old tree = built_rows_same old new tree words in
    let count : times row (writer_state new).tree.rows ≡ one_where (is_kept new row) =
    ap (times row) (rows ∙ sym same) ∙ sym (times_same row (built_rows new tree)) ∙ is.built.reached row in
    has_kept (times row (writer_state new).tree.rows) (is_kept new row) count

-- what was left of the old tree waits since the new one
published_since : (old new : NodeWriter) (tree : Tree) → Publishes old new tree → (row : ℕ) → is_waiting new row ≡ true
    → elapsed_of old ≤ since_at (writer_state new).since row - 1
published_since old new tree is row waits =
    let parts = and_parts (nat_lt 0 (times row (retired_rows new))) (not (is_present new row)) waits in
    let next = next_tree (writer_state old) ((writer_state old).tree.number + 1) (shown_rows (next_shown old tree.root.0 tree.height)) in
    let since : since_at (writer_state new).since row ≡ since_at (since_from 0 (writer_state old).tree next (writer_state old).since) row =
    ap (λ (v : NodeView). since_at v.known.writer_state.since row) is.view in
    let out : has_row next row ≡ false = sym (ap (λ (v : NodeView). has_row v.known.writer_state.tree row) is.view) ∙ not-true (is_present new row) parts.1 in
    let left : nat_lt 0 (times row (retired_rows old)) ≡ true = ap (λ rows. nat_lt 0 (times row rows)) (sym is.left) ∙ parts.0 in
    elim (cases_Bool (is_present old row)) [
      | inl here ↦
          let within = gone_within old row (let some = ltb-true 0 (times row (retired_rows old)) left in omega (arith, some)) in
          let new_one = since_left (writer_state old).tree next (writer_state old).since row (omega (arith, within, old.writer_state.kept.since, ap (λ s. s.rows) old.writer_state.kept.size_is)) here out in
          let most = elapsed_most old in
          omega (arith, since, new_one, most)
      | inr was_out ↦
          let same = since_same (writer_state old).tree next (writer_state old).since row was_out in
          let was : is_waiting old row ≡ true = and_from (nat_lt 0 (times row (retired_rows old))) (not (is_present old row)) left (not_from_false (is_present old row) was_out) in
          let below = elapsed_below old row (waiting_within old row was) was in
          omega (arith, since, same, below)
    ]

pub published_elapsed : (old new : NodeWriter) (tree : Tree) → Publishes old new tree → elapsed_of old ≤ elapsed_of new
published_elapsed old new tree is =
    elapsed_more old new (let number = ap (λ (v : NodeView). v.known.writer_state.tree.number) is.view in omega (arith, number))
    (published_size old new tree is) (published_since old new tree is)

-- a publish keeps what the fields keep
pub published_kept : (fields : Inside) (new : NodeWriter) (published : ℕ) → WritesNodeTable new fields.nodes → Publishes fields.writer new fields.tree
    → IsSpanTree fields
    → IsSpanTree (record fields { writer = new; number = fields.number + 1; changed = false; roomy = false; published = published })
published_kept fields new published writes is kept =
    let old : NodeWriter = fields.writer in
    let tree : Tree = fields.tree in
    let pairs = pairs_same old new tree (ap (λ (v : NodeView). v.known.writer_state.words) is.view) in
    record {
      table = writes;
      tree = inl is.built;
      some_areas = kept.some_areas;
      few_areas = kept.few_areas;
      some_pages = kept.some_pages;
      rows = published_size old new tree is ∙ kept.rows;
      slots = ap (λ (v : NodeView). v.size.slots) is.view ∙ kept.slots;
      number = ap (λ (v : NodeView). v.known.writer_state.tree.number) is.view ∙ ap (λ n. n + 1) kept.number;
      few_pairs = rw pairs kept.few_pairs;
      first = λ none. absurd (omega (arith, none));
      shown = λ _. published_shown old new tree is ∙ sym pairs;
      rest = λ _. published_rest old new tree is;
      built = λ roomy. absurd (cc);
      room = λ roomy. absurd (cc);
    }
