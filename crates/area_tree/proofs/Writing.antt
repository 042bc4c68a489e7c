-- For `SpanTree::store`, `SpanTree::prepare` and others: what stays of a writer's tree and rows.
use Rattle.std.proofs.Common.{ℕ, ◌≡◌, ◌<◌, ◌≤◌, ◌-◌, ◌∙◌, Bool, true, false, not, ◌&&◌, List, arith, inl, inr, sym, refl, ap, subst}
use Rattle.grace_core.specs.Core as grace
use Rattle.grace_core.specs.Core.{row_at, since_at}
use Rattle.maple_node.specs.declared.root.Root.{Root}
use Rattle.maple_node.specs.Levels.{at_of, times_among}
use Rattle.maple_node.specs.Trees as maple
use Rattle.maple_node.specs.Trees.{Pair, tree_of, top_of, tree_rows, pairs_of, IsLayout}
use Rattle.node_slots.specs.declared.seats.NodeWriter.{NodeWriter}
use Rattle.node_slots.specs.declared.tree.Tree.{Tree}
use Rattle.node_slots.specs.Seats.{node_sight, writer_state, row_count, is_present, is_waiting, is_kept, one_where}
use Rattle.node_slots.specs.Built.{IsBuilt, IsBlank, IsWriters, built_rows, pairs_now}
use Rattle.area_tree.specs.Rows.{sum_below, is_spare, spare_rows, elapsed_of, shown_pairs, Scans}
use Rattle.area_tree.proofs.Sums.{sum-le}
use Rattle.area_tree.proofs.Waits.{wait-most, wait-below, wait-greatest}

-- the pairs of a tree of these words
unfoldable pub pairs_in : grace.GraceTreeView → Root → List Pair
pairs_in tree root = let at = at_of tree.words in pairs_of at (tree_of at root)

-- the same present tree has the same pairs
pub shown_same : (old new : NodeWriter) → (writer_state new).tree ≡ (writer_state old).tree → (node_sight new).known.root ≡ (node_sight old).known.root
    → shown_pairs new ≡ shown_pairs old
unfolding pairs_in
shown_same old new tree root = ap (λ t. pairs_in t (node_sight new).known.root) tree ∙ ap (pairs_in (writer_state old).tree) root

-- a row of the present tree still is
pub present_same : (old new : NodeWriter) → (writer_state new).tree ≡ (writer_state old).tree → (row : ℕ) → is_present new row ≡ is_present old row
present_same old new tree row = ap (λ t. grace.has_row t row) tree

-- where fewer rows wait, more are spare
spare_one : (was is old new : Bool) → is ≡ was → (new ≡ true → old ≡ true) → one_where (not was && not old) ≤ one_where (not is && not new)
spare_one was true old new same less = subst (λ b. one_where (not b && not old) ≤ one_where (false && not new)) same (omega arith)
spare_one true false old new same less = absurd (cc)
spare_one false false true new same less = omega arith
spare_one false false false true same less = absurd (let k = less refl in cc)
spare_one false false false false same less = omega arith

pub spare_more : (old new : NodeWriter) → (writer_state new).tree ≡ (writer_state old).tree → row_count new ≡ row_count old
    → ((row : ℕ) → is_waiting new row ≡ true → is_waiting old row ≡ true) → spare_rows old ≤ spare_rows new
spare_more old new tree sized less =
    let more = sum-le (λ row. one_where (is_spare old row)) (λ row. one_where (is_spare new row)) (row_count old) (λ row _.
    spare_one (is_present old row) (is_present new row) (is_waiting old row) (is_waiting new row) (present_same old new tree row) (less row)) in
    let same = ap (λ n. sum_below (λ row. one_where (is_spare new row)) n) sized in
    omega (arith, more, same)

-- where fewer rows wait, and as long as before, no tree's grace period has elapsed that was not, and more may be
pub elapsed_more : (old new : NodeWriter) → (writer_state old).tree.number ≤ (writer_state new).tree.number → row_count new ≡ row_count old
    → ((row : ℕ) → is_waiting new row ≡ true → elapsed_of old ≤ since_at (writer_state new).since row - 1)
    → elapsed_of old ≤ elapsed_of new
elapsed_more old new number sized each =
    wait-greatest (is_waiting new) (since_at (writer_state new).since) (writer_state new).tree.number (row_count new) (elapsed_of old)
    (omega (arith, number, wait-most (is_waiting old) (since_at (writer_state old).since) (writer_state old).tree.number (row_count old)))
    (λ row _ waits. each row waits)

-- what has elapsed is at most the present tree, and below what each row waits for
pub elapsed_most : (writer : NodeWriter) → elapsed_of writer ≤ (writer_state writer).tree.number
elapsed_most writer = wait-most (is_waiting writer) (since_at (writer_state writer).since) (writer_state writer).tree.number (row_count writer)

pub elapsed_below : (writer : NodeWriter) (row : ℕ) → row < row_count writer → is_waiting writer row ≡ true
    → elapsed_of writer ≤ since_at (writer_state writer).since row - 1
elapsed_below writer row within waits =
    wait-below (is_waiting writer) (since_at (writer_state writer).since) (writer_state writer).tree.number (row_count writer) row within waits

-- the tree of a root among rows of words
tree_in : List (List ℕ) → Tree → maple.Tree
tree_in words tree = record { top = top_of (at_of words) tree.height tree.root.0; height = tree.height }

layout_in : List (List ℕ) → ℕ → Tree → Type 0
layout_in words slots tree = IsLayout (at_of words) slots (tree_in words tree)

-- the same words show the same pairs
pub pairs_same : (old new : NodeWriter) (tree : Tree) → (writer_state new).words ≡ (writer_state old).words → pairs_now new tree ≡ pairs_now old tree
unfolding tree_in
pairs_same old new tree words = ap (λ w. pairs_of (at_of w) (tree_in w tree)) words

-- and reach the same rows
pub built_rows_same : (old new : NodeWriter) (tree : Tree) → (writer_state new).words ≡ (writer_state old).words → built_rows new tree ≡ built_rows old tree
unfolding tree_in
built_rows_same old new tree words = ap (λ w. tree_rows (at_of w) (tree_in w tree)) words

-- and the same tree
pub built_same : (old new : NodeWriter) (tree : Tree) → (writer_state new).words ≡ (writer_state old).words → (node_sight new).size ≡ (node_sight old).size
    → ((row : ℕ) → is_kept new row ≡ is_kept old row) → IsBuilt old tree → IsBuilt new tree
unfolding tree_in layout_in
built_same old new tree words size kept is =
    let before = sym words in
    record {
      layout = subst (λ n. layout_in (writer_state new).words n tree) (ap (λ s. s.slots) (sym size))
          (subst (λ w. layout_in w (node_sight old).size.slots tree) before is.layout);
      limit = subst (λ w. (tree_in w tree).top.end ≡ tree.limit.0) before is.limit;
      reached = λ row. subst (λ w. times_among row (tree_rows (at_of w) (tree_in w tree)) ≡ one_where (is_kept old row)) before (is.reached row)
          ∙ sym (ap one_where (kept row));
    }

-- or none yet
blank_same : (old new : NodeWriter) (tree : Tree) → (writer_state new).words ≡ (writer_state old).words → (writer_state new).tree ≡ (writer_state old).tree
    → (node_sight new).size ≡ (node_sight old).size
    → ((row : ℕ) → is_kept new row ≡ is_kept old row) → IsBlank old tree → IsBlank new tree
blank_same old new tree words present size kept is = record {
  first = ap (λ t. t.number) present ∙ is.first;
  root = is.root;
  height = is.height;
  some = is.some;
  words = ap (λ w. row_at w 0) words ∙ is.words;
  rows = omega (arith, ap (λ s. s.rows) size, is.rows);
  kept = λ row. kept row ∙ is.kept row;
}

-- scans leave the writer's tree as it is
pub scanned_built : (old new : NodeWriter) (tree : Tree) → Scans old new → IsBuilt old tree → IsBuilt new tree
scanned_built old new tree scans is = built_same old new tree scans.same.words scans.same.size scans.kept is

pub scanned_writers : (old new : NodeWriter) (tree : Tree) → Scans old new → IsWriters old tree → IsWriters new tree
scanned_writers old new tree scans (inl is) = inl (scanned_built old new tree scans is)
scanned_writers old new tree scans (inr is) =
    inr (blank_same old new tree scans.same.words scans.same.tree scans.same.size scans.kept is)
