-- For the law `new_trees_are_blank`: tree 0 of a new table, as the writer's view shows it.
use Rattle.std.proofs.Common.{ℕ, zero, suc, ◌≡◌, ◌<◌, ◌≤◌, true, false, nat_eq, [], replicate, refl, sym, ap, ◌∙◌, arith, inl, inr}
use Rattle.std.proofs.lemmas.Bool.{cases_Bool, cases_lt}
use Rattle.std.proofs.lemmas.Bool.Decides.{nat_tests}
use Rattle.grace_core.specs.Core.{times, row_at}
use Rattle.node_slots.specs.declared.tree.Tree.{Tree}
use Rattle.node_slots.specs.declared.view.Size.{Size}
use Rattle.node_slots.specs.declared.view.NodeView.{NodeView}
use Rattle.node_slots.specs.declared.seats.NodeWriter.{NodeWriter}
use Rattle.node_slots.specs.Trees.{empty_row}
use Rattle.node_slots.specs.Views.{opened_node_view}
use Rattle.node_slots.specs.Kept.{times_gone}
use Rattle.node_slots.specs.Opening.{IsFreeFrom}
use Rattle.node_slots.specs.Seats.{node_sight, row_count, free_of, retired_rows, is_kept}
use Rattle.node_slots.specs.Built.{IsBlank}
use Rattle.node_slots.proofs.Listing.{kept_from}
use Rattle.node_slots.proofs.Writers.{writer_kept}

-- the first of some empty rows
first_row : (n : ℕ) → 1 ≤ n → row_at (replicate n empty_row) 0 ≡ empty_row
first_row zero some = absurd (omega arith)
first_row (suc n) some = refl

-- only row 0 is neither free nor left
only_first : (writer : NodeWriter) (size : Size) (readers row : ℕ) → node_sight writer ≡ opened_node_view size readers → IsFreeFrom 1 size.rows (free_of writer)
    → retired_rows writer ≡ [] → is_kept writer row ≡ nat_eq row 0
only_first writer size readers row seen free left =
    let rows : row_count writer ≡ size.rows = ap (λ (v : NodeView). v.size.rows) seen in
    let table = ap (λ (s : Size). s.rows) writer.writer_state.kept.size_is in
    let some = writer.writer_state.table.sized.fits.some_rows in
    let none_left : times row (retired_rows writer) ≡ 0 = ap (times row) left in
    let Goal : Type 0 = is_kept writer row ≡ nat_eq row 0 in
    elim (cases_lt 0 row) as (λ _. Goal) [
      | inl above ↦
          let test : nat_eq row 0 ≡ false = grind (arith, nat_tests) in
          elim (cases_Bool (is_kept writer row)) as (λ _. Goal) [
            | inl kept ↦
                let parts = writer_kept writer row kept in
                let within = parts.0 in
                let gone = parts.1 in
                let there = free.all row (omega arith) (omega arith) in
                absurd (omega arith)
            | inr out ↦ out ∙ sym test
          ]
      | inr first ↦
          let test : nat_eq row 0 ≡ true = grind (arith, nat_tests) in
          let none : times row (free_of writer) ≡ 0 = elim (cases_lt 0 (times row (free_of writer))) as (λ _. times row (free_of writer) ≡ 0) [
            | inl there ↦ let low = free.inside row there in absurd (omega arith)
            | inr none ↦ omega arith
          ] in
          kept_from (row_count writer) row (times_gone writer.free.items writer.left.items row) (omega arith) (omega arith) ∙ sym test
    ]

pub blank_new : (writer : NodeWriter) (tree : Tree) (size : Size) (readers : ℕ) → node_sight writer ≡ opened_node_view size readers
    → IsFreeFrom 1 size.rows (free_of writer) → retired_rows writer ≡ [] → tree.root.0 ≡ 0 → tree.height ≡ 1 → 0 < tree.limit.0 → IsBlank writer tree
blank_new writer tree size readers seen free left root height some =
    let rows : row_count writer ≡ size.rows = ap (λ (v : NodeView). v.size.rows) seen in
    let table = ap (λ (s : Size). s.rows) writer.writer_state.kept.size_is in
    let some_rows = writer.writer_state.table.sized.fits.some_rows in
    record {
      first = ap (λ (v : NodeView). v.known.writer_state.tree.number) seen;
      root = root;
      height = height;
      some = some;
      words = ap (λ (v : NodeView). row_at v.known.writer_state.words 0) seen ∙ first_row size.rows (omega arith);
      rows = omega arith;
      kept = λ row. only_first writer size readers row seen free left;
    }
