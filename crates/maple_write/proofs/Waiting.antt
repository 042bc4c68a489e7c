-- For `put`, `leave_block` and others: the same rows wait.
use Rattle.std.proofs.Common.{ℕ, ◌≡◌, ◌∙◌, false, not, ◌&&◌, cond, nat_lt, List, [], ◌∷◌, ◌++◌, length, set, arith, inl, inr, sym, ap}
use Rattle.std.proofs.lemmas.Bool.{cases_Bool, cond-true, cond-false, and_right, not_from_true}
use Rattle.std.proofs.lemmas.Bool.Decides.{eqb_tells}
use Rattle.std.proofs.lemmas.List.{length-set}
use Rattle.grace_core.specs.Core.{times, has_row}
use Rattle.node_slots.specs.declared.view.NodeView.{NodeView}
use Rattle.node_slots.specs.declared.seats.NodeWriter.{NodeWriter}
use Rattle.node_slots.specs.Views.{fill_at}
use Rattle.node_slots.specs.Seats.{node_sight, writer_state, retired_rows, is_present, is_waiting, StaysAt}
use Rattle.node_slots.proofs.Counting.{times_last, none_if}
use Rattle.maple_write.specs.Tables.{FillsRows}
use Rattle.maple_write.proofs.Writers.{with_words}

-- where no row was left and the same tree is present
pub waits_same : (old new : NodeWriter) (row : ℕ) → (writer_state new).tree ≡ (writer_state old).tree → retired_rows new ≡ retired_rows old
    → is_waiting new row ≡ is_waiting old row
waits_same old new row tree left =
    ap (λ t. nat_lt 0 (times row (retired_rows new)) && not (has_row t row)) tree
    ∙ ap (λ rows. nat_lt 0 (times row rows) && not (is_present old row)) left

-- a row of the present tree that is left does not wait yet
pub leave_waits : (old new : NodeWriter) (row other : ℕ) → node_sight new ≡ node_sight old
    → retired_rows new ≡ cond (is_present old row) (retired_rows old ++ row ∷ []) (retired_rows old) → is_waiting new other ≡ is_waiting old other
leave_waits old new row other view left =
    let change : is_waiting new other ≡ (nat_lt 0 (times other (retired_rows new)) && not (is_present old other)) =
    ap (λ (v : NodeView). nat_lt 0 (times other (retired_rows new)) && not (has_row v.known.writer_state.tree other)) view in
    elim (cases_Bool (is_present old row)) [
      | inl here ↦
          let more : retired_rows new ≡ retired_rows old ++ row ∷ [] = left ∙ cond-true (is_present old row) (retired_rows old ++ row ∷ []) (retired_rows old) here in
          elim (eqb_tells row other) [
            | inl same ↦
                let is : not (is_present old other) ≡ false = not_from_true (is_present old other) (ap (is_present old) (sym same.1) ∙ here) in
                change ∙ and_right (nat_lt 0 (times other (retired_rows new))) (not (is_present old other)) is
                ∙ sym (and_right (nat_lt 0 (times other (retired_rows old))) (not (is_present old other)) is)
            | inr differ ↦
                let none = none_if row other differ.1 in
                let count : times other (retired_rows new) ≡ times other (retired_rows old) =
                omega (arith, ap (times other) more, times_last other row (retired_rows old), none) in
                change ∙ ap (λ n. nat_lt 0 n && not (is_present old other)) count
          ]
      | inr out ↦
          change ∙ ap (λ rows. nat_lt 0 (times other rows) && not (is_present old other))
          (left ∙ cond-false (is_present old row) (retired_rows old ++ row ∷ []) (retired_rows old) out)
    ]

-- a row that was taken is filled
pub fills_one : (old taken new : NodeWriter) (row : ℕ) (words : List ℕ) → node_sight taken ≡ node_sight old → node_sight new ≡ fill_at (node_sight taken) row words
    → retired_rows taken ≡ retired_rows old → retired_rows new ≡ retired_rows taken → StaysAt old taken → StaysAt taken new → FillsRows old new
fills_one old taken new row words first view before after takes fills =
    let all : node_sight new ≡ with_words (node_sight old) (set (writer_state old).words row words) = view ∙ ap (λ (v : NodeView). fill_at v row words) first in
    let same : (writer_state new).words ≡ set (writer_state old).words row words = ap (λ (v : NodeView). v.known.writer_state.words) all in
    record {
      seen = all ∙ ap (with_words (node_sight old)) (sym same);
      long = ap (λ (ws : List (List ℕ)). length ws) same ∙ length-set (writer_state old).words row words;
      waits = λ other. waits_same old new other (ap (λ (v : NodeView). v.known.writer_state.tree) all) (after ∙ before);
      table = λ nodes here. fills nodes (takes nodes here);
    }
