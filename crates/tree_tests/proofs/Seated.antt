-- Readers beside a writer.
use Rattle.std.proofs.Common.{ℕ, zero, suc, ◌≡◌, ◌%◌, ◌∙◌, true, List, [], ◌∷◌, ◌++◌, length, Option, Some, None, refl, sym, ap, subst, arith, inl, inr}
use Rattle.std.proofs.lemmas.Bool.{cases_lt, lt-ltb}
use Rattle.std.specs.List.{slice_get}
use Rattle.grace_core.specs.Core.{times, has_row}
use Rattle.maple_node.specs.declared.root.Root.{Root}
use Rattle.maple_node.specs.Levels as levels
use Rattle.maple_node.specs.Levels.{at_of}
use Rattle.maple_node.specs.Trees.{tree_of}
use Rattle.maple_node.proofs.Trees.{root-once, first-rows}
use Rattle.node_slots.specs.declared.view.Size.{Size}
use Rattle.node_slots.specs.declared.view.ShownTree.{ShownTree}
use Rattle.node_slots.specs.declared.view.NodeView.{NodeView}
use Rattle.node_slots.specs.declared.seats.NodeTable.{NodeTable}
use Rattle.node_slots.specs.declared.seats.NodeSeat.{NodeSeat}
use Rattle.node_slots.specs.declared.seats.NodeWriter.{NodeWriter}
use Rattle.node_slots.specs.Trees.{shown_rows, grace_tree, IsShown}
use Rattle.node_slots.specs.Views.{reader_view, word_at}
use Rattle.node_slots.specs.Seats.{IsOfNodeTable, WritesNodeTable, node_view}
use Rattle.tree_tests.specs.Leaves.{has_shown, IsInside, IsBeside, AreBeside}
use Rattle.node_slots.proofs.Counting.{times_first, one_if}
use Rattle.node_slots.proofs.Writers.{times_same}

-- the root of a tree is one of its rows
pub root_there : (slots : ℕ) (shown : ShownTree) → IsShown slots shown → has_row (grace_tree shown) shown.root.row.0 ≡ true
unfolding shown_rows
root_there slots shown is =
    let rows = shown_rows shown in
    lt-ltb 0 (times shown.root.row.0 rows) (elim (cases_lt 0 shown.root.tree) [
      | inl some ↦
          let once : levels.times_among shown.root.row.0 rows ≡ 1 = root-once (at_of shown.words) slots (tree_of (at_of shown.words) shown.root) (is.tree.later some) in
          omega (arith, once, times_same shown.root.row.0 rows)
      | inr none ↦
          let first = is.tree.first (omega arith) in
          let named = ap (λ (root : Root). times root.row.0 rows) first.named in
          let zeroth = ap (times 0) (first-rows (at_of shown.words) shown.root first) in
          omega (arith, named, zeroth, times_first 0 0 [], one_if 0 0 refl)
    ])

-- a row of a snapshot, and the snapshot
pub shown_row : (snapshot : Option ShownTree) (row : ℕ) → has_shown snapshot row ≡ true
    → (shown : ShownTree) × (snapshot ≡ Some shown) × (has_row (grace_tree shown) row ≡ true)
shown_row (Some shown) row has = (shown, refl, has)
shown_row None row has = absurd (cc)

-- a word is read through a snapshot
pub inside_word : (old new : NodeSeat) (table : NodeTable) (row : ℕ) → IsInside old table row → IsOfNodeTable new table → node_view new ≡ word_at (node_view old)
    → IsInside new table row
inside_word old new table row inside of is = record {
  table_is = of;
  open_is = ap (λ (v : NodeView). v.pin % 2) is ∙ inside.open_is;
  shows = subst (λ (v : NodeView). has_shown v.snapshot row ≡ true) (sym is) inside.shows;
}

-- an element of a list, in the list with one more
there_still : {A : Type 0} (xs : List A) (last : A) (at : ℕ) (x : A) → slice_get xs at ≡ Some x → slice_get (xs ++ last ∷ []) at ≡ Some x
there_still [] last at x is = absurd (cc)
there_still (y ∷ xs) last zero x is = is
there_still (y ∷ xs) last (suc at) x is = there_still xs last at x is

there_last : {A : Type 0} (xs : List A) (last : A) → slice_get (xs ++ last ∷ []) (length xs) ≡ Some last
there_last [] last = refl
there_last (y ∷ xs) last = there_last xs last

-- the last of some readers is taken
pub beside_fewer : (all fewer : List NodeSeat) (seat : NodeSeat) (writer : NodeWriter) → all ≡ fewer ++ seat ∷ [] → AreBeside all writer
    → AreBeside fewer writer × IsBeside seat writer
beside_fewer all fewer seat writer same beside =
    let each : AreBeside (fewer ++ seat ∷ []) writer = subst (λ (seats : List NodeSeat). AreBeside seats writer) same beside in
    (λ at other is. each at other (there_still fewer seat at other is), each (length fewer) seat (there_last fewer seat))

-- the readers of a new table
pub beside_first : (seats : List NodeSeat) (writer : NodeWriter) (table : NodeTable) (size : Size) → WritesNodeTable writer table
    → ((reader : ℕ) (seat : NodeSeat) → slice_get seats reader ≡ Some seat → IsOfNodeTable seat table × (node_view seat ≡ reader_view size reader))
    → AreBeside seats writer
beside_first seats writer table size writes fresh at seat is =
    let one = fresh at seat is in
    record {
      same = one.0.same ∙ sym writes.same;
      size_is = one.0.size_is ∙ sym writes.size_is;
      closed = ap (λ (v : NodeView). v.pin % 2) one.1;
    }
