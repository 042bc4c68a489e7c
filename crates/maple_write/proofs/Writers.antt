-- For `node`, `put`, `leave_block` and others: what a writer's table tells, and what stays of a writer.
use Rattle.std.proofs.Common.{ℕ, ◌≡◌, ◌<◌, ◌≤◌, ◌+◌, ◌^◌, Bool, true, false, nat_eq, nat_lt, cond, List, [], ◌∷◌, ◌++◌, length, set, Option, Some, sym, ap, subst, ◌∙◌, arith, inl, inr, length-append, if◌then◌else◌}
use Rattle.std.specs.Prelude.{IfSome, MatchOption}
use Rattle.std.proofs.lemmas.Bool.{cases_Bool, cases_lt, cond-true, cond-false, lt-ltb}
use Rattle.std.proofs.lemmas.Bool.Decides.{nat_tests}
use Rattle.std.specs.List.Sorted.{IsPermutation}
use Rattle.std.proofs.lemmas.List.Sorted.{sum_by-IsPermutation, length_permutation}
use Rattle.mm_types.specs.declared.slot.Row.{Row}
use Rattle.maple_node.specs.declared.item.NodeItem.{NodeItem}
use Rattle.maple_node.specs.Nodes.{words_of_items}
use Rattle.maple_node.specs.Levels.{times_among}
use Rattle.maple_node.proofs.Frames.{times-append}
use Rattle.node_slots.specs.declared.view.NodeView.{NodeView}
use Rattle.node_slots.specs.declared.seats.NodeWriter.{NodeWriter}
use Rattle.node_slots.specs.Views.{fill_at}
use Rattle.node_slots.specs.Kept.{times_gone}
use Rattle.node_slots.specs.Seats.{node_sight, writer_state, row_count, free_of, retired_rows, is_present, is_waiting, is_kept, is_taken_row, StaysAt}
use Rattle.node_slots.proofs.Listing.{kept_from}
use Rattle.node_slots.proofs.Writers.{writer_kept, writer_taken, times_same}
use Rattle.maple_write.specs.Internal.Tables.{table_at, gone}
use Rattle.maple_write.specs.Tables.{FillsRows}

-- a view with other words of rows
abbrev pub with_words : NodeView → List (List ℕ) → NodeView
with_words view words = record view { known = record view.known { writer_state = record view.known.writer_state { words = words } } }

-- a writer that nothing was changed of, or that was changed twice
pub fills_none : (old new : NodeWriter) → node_sight new ≡ node_sight old → ((row : ℕ) → is_waiting new row ≡ is_waiting old row) → StaysAt old new
    → FillsRows old new
fills_none old new same waits table = record {
  seen = ap (λ (v : NodeView). with_words v (writer_state new).words) same;
  long = ap (λ (v : NodeView). length v.known.writer_state.words) same;
  waits = waits;
  table = table;
}

pub fills_both : (one two three : NodeWriter) → FillsRows one two → FillsRows two three → FillsRows one three
fills_both one two three first second = record {
  seen = second.seen ∙ ap (λ (v : NodeView). with_words v (writer_state three).words) first.seen;
  long = second.long ∙ first.long;
  waits = λ row. second.waits row ∙ first.waits row;
  table = λ nodes here. second.table nodes (first.table nodes here);
}

-- the table has a row for each number below the count
pub rows_counted : (writer : NodeWriter) → length (writer_state writer).words ≡ row_count writer
rows_counted writer =
    let kept = writer.writer_state.kept in
    ap (λ (ws : List (List ℕ)). length ws) kept.words_are ∙ kept.rows ∙ sym (ap (λ s. s.rows) kept.size_is)

pub few_rows : (writer : NodeWriter) → row_count writer ≤ 2 ^ 20
few_rows writer =
    let same = ap (λ s. s.rows) writer.writer_state.kept.size_is in
    let few = writer.writer_state.table.sized.fits.few_rows in
    omega arith

-- a row that was taken is one of the table
pub taken_there : (writer : NodeWriter) (row : ℕ) → is_taken_row writer row ≡ true → row < length (writer_state writer).words
taken_there writer row is =
    let parts = writer_taken writer row is in
    let within = parts.0 in
    let kept = writer.writer_state.kept in
    let long = ap (λ (ws : List (List ℕ)). length ws) kept.words_are in
    let rows = kept.rows in
    omega arith

-- each row is free or left at most once, and then it is one of the table
gone_same : (writer : NodeWriter) (row : ℕ) → gone (table_at writer) row ≡ times_gone writer.free.items writer.left.items row
gone_same writer row =
    let free = times_same row (free_of writer) in
    let left = times_same row (retired_rows writer) in
    omega arith

pub once_free : (writer : NodeWriter) (row : ℕ) → times_among row (free_of writer) ≤ 1
once_free writer row =
    let same = gone_same writer row in
    let once = writer.rows.once row in
    omega arith

pub gone_few : (writer : NodeWriter) (row : ℕ) → gone (table_at writer) row ≤ cond (nat_lt row (length (writer_state writer).words)) 1 0
gone_few writer row =
    let same = gone_same writer row in
    let once = writer.rows.once row in
    let kept = writer.writer_state.kept in
    let long = ap (λ (ws : List (List ℕ)). length ws) kept.words_are in
    let rows = kept.rows in
    let Goal : Type 0 = gone (table_at writer) row ≤ cond (nat_lt row (length (writer_state writer).words)) 1 0 in
    elim (cases_lt 0 (times_gone writer.free.items writer.left.items row)) as (λ _. Goal) [
      | inl some ↦
          let inside = writer.rows.inside row some in
          let one = cond-true {A = ℕ} (nat_lt row (length (writer_state writer).words)) 1 0 (lt-ltb row (length (writer_state writer).words) (omega arith)) in
          omega arith
      | inr none ↦ omega arith
    ]

-- a row that is neither free nor left is kept, and the other way round
pub is_kept_from : (writer : NodeWriter) (row : ℕ) → row < row_count writer → gone (table_at writer) row ≡ 0 → is_kept writer row ≡ true
is_kept_from writer row within none =
    kept_from (row_count writer) row (times_gone writer.free.items writer.left.items row) within (sym (gone_same writer row) ∙ none)

pub kept_counts : (writer : NodeWriter) (row : ℕ)
    → gone (table_at writer) row + (if is_kept writer row then 1 else 0) ≡ cond (nat_lt row (length (writer_state writer).words)) 1 0
kept_counts writer row =
    let long = rows_counted writer in
    let Goal : Type 0 = gone (table_at writer) row + (if is_kept writer row then 1 else 0) ≡ cond (nat_lt row (length (writer_state writer).words)) 1 0 in
    let few = gone_few writer row in
    elim (cases_lt row (length (writer_state writer).words)) as (λ _. Goal) [
      | inl within ↦
          let one = cond-true {A = ℕ} (nat_lt row (length (writer_state writer).words)) 1 0 (lt-ltb row (length (writer_state writer).words) within) in
          elim (cases_lt 0 (gone (table_at writer) row)) as (λ _. Goal) [
            | inl some ↦
                elim (cases_Bool (is_kept writer row)) as (λ _. Goal) [
                  | inl kept ↦ let parts = writer_kept writer row kept in let none = parts.1 in let same = gone_same writer row in absurd (omega arith)
                  | inr out ↦ let zero_it = cond-false {A = ℕ} (is_kept writer row) 1 0 out in omega arith
                ]
            | inr none ↦
                let kept = is_kept_from writer row (omega arith) (omega arith) in
                let one_it = cond-true {A = ℕ} (is_kept writer row) 1 0 kept in omega arith
          ]
      | inr past ↦
          let test : nat_lt row (length (writer_state writer).words) ≡ false = grind (arith, nat_tests) in
          let none = cond-false {A = ℕ} (nat_lt row (length (writer_state writer).words)) 1 0 test in
          elim (cases_Bool (is_kept writer row)) as (λ _. Goal) [
            | inl kept ↦
                let parts = writer_kept writer row kept in
                let within = parts.0 in
                let size = ap (λ s. s.rows) writer.writer_state.kept.size_is in absurd (omega arith)
            | inr out ↦ let zero_it = cond-false {A = ℕ} (is_kept writer row) 1 0 out in omega arith
          ]
    ]

-- a row more was left: it is free at once, or with those that were left
pub left_more : (old new : NodeWriter) (row other : ℕ)
    → free_of new ≡ (if is_present old row then free_of old else free_of old ++ row ∷ [])
    → retired_rows new ≡ (if is_present old row then retired_rows old ++ row ∷ [] else retired_rows old)
    → gone (table_at new) other ≡ gone (table_at old) other + times_among other (row ∷ [])
left_more old new row other free left = go (is_present old row) free left where
  go : (present : Bool) → free_of new ≡ (if present then free_of old else free_of old ++ row ∷ [])
      → retired_rows new ≡ (if present then retired_rows old ++ row ∷ [] else retired_rows old)
      → gone (table_at new) other ≡ gone (table_at old) other + times_among other (row ∷ [])
  go true free left =
      let a = ap (times_among other) free in let b = ap (times_among other) left in
      let d = times-append other (retired_rows old) (row ∷ []) in omega arith
  go false free left =
      let a = ap (times_among other) free in let b = ap (times_among other) left in
      let d = times-append other (free_of old) (row ∷ []) in omega arith

pub free_more : (old new : NodeWriter) (row : ℕ) → free_of new ≡ (if is_present old row then free_of old else free_of old ++ row ∷ [])
    → length (free_of old) ≤ length (free_of new)
free_more old new row free = go (is_present old row) free where
  go : (present : Bool) → free_of new ≡ (if present then free_of old else free_of old ++ row ∷ []) → length (free_of old) ≤ length (free_of new)
  go true free = let a = ap (λ (xs : List ℕ). length xs) free in omega arith
  go false free = let a = ap (λ (xs : List ℕ). length xs) free in let d = length-append (free_of old) (row ∷ []) in omega arith

-- what a row that was taken and filled has
pub filled_words : (old taken filled : NodeWriter) (row told : ℕ) (words : List ℕ) (leaf : Bool) (items : List NodeItem) → node_sight taken ≡ node_sight old
    → node_sight filled ≡ fill_at (node_sight taken) row words → words ≡ words_of_items leaf items → told ≡ row
    → (writer_state filled).words ≡ set (writer_state old).words told (words_of_items leaf items)
filled_words old taken filled row told words leaf items seen fills are is =
    ap (λ (v : NodeView). v.known.writer_state.words) fills
    ∙ ap (λ (v : NodeView). set v.known.writer_state.words row words) seen
    ∙ ap (λ (ws : List ℕ). set (writer_state old).words row ws) are
    ∙ ap (λ (r : ℕ). set (writer_state old).words r (words_of_items leaf items)) (sym is)

pub taken_row : (old taken : NodeWriter) (found : Option Row) (row : Row) → found ≡ Some row → IfSome found (λ r. is_taken_row taken r.0 ≡ true)
    → node_sight taken ≡ node_sight old → row.0 < length (writer_state old).words
taken_row old taken found row is some seen =
    let here : is_taken_row taken row.0 ≡ true = subst (λ (o : Option Row). IfSome o (λ r. is_taken_row taken r.0 ≡ true)) is some in
    let within = taken_there taken row.0 here in
    let same = ap (λ (v : NodeView). length v.known.writer_state.words) seen in
    omega arith

-- and it is free no more: as often as before it and the free rows have each row, and there is one free row less
pub record TakenFrom (rows : List ℕ) (row : ℕ) (rest : List ℕ) : Type 0 where
  pub fewer : length rows ≡ length rest + 1
  pub times_are : (other : ℕ) → times_among other rows ≡ times_among other (row ∷ rest)

pub taken_moved : (rows rest rest' : List ℕ) (found : Option Row) (row : Row) (none : Type 0) → found ≡ Some row
    → MatchOption found none (λ r. IsPermutation rows (r.0 ∷ rest)) → rest' ≡ rest → TakenFrom rows row.0 rest'
taken_moved rows rest rest' found row none is free kept =
    let here : IsPermutation rows (row.0 ∷ rest') =
    subst (λ (l : List ℕ). IsPermutation rows (row.0 ∷ l)) (sym kept)
    (subst (λ (o : Option Row). MatchOption o none (λ r. IsPermutation rows (r.0 ∷ rest))) is free) in
    record {
      fewer = omega (arith, length_permutation rows (row.0 ∷ rest') here);
      times_are = λ other. times_same other rows ∙ sym (sum_by-IsPermutation (λ n. cond (nat_eq n other) 1 0) rows (row.0 ∷ rest') here)
          ∙ sym (times_same other (row.0 ∷ rest'));
    }
