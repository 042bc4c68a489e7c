-- For `SpanTree::store`, `SpanTree::scan` and others: the rows of a writer's table, counted.
use Rattle.std.proofs.Common.{ℕ, ◌≡◌, ◌<◌, ◌≤◌, ◌+◌, ◌*◌, ◌∙◌, Bool, true, false, not, ◌&&◌, nat_eq, nat_lt, [], ◌∷◌, length, arith, inl, inr, sym, refl, ap, subst}
use Rattle.std.proofs.lemmas.Bool.{cases_Bool, cond-true, cond-false, ltb-true, and_parts}
use Rattle.std.proofs.lemmas.Bool.Decides.{eqb_tells}
use Rattle.grace_core.specs.Core.{times}
use Rattle.node_slots.specs.declared.seats.NodeWriter.{NodeWriter}
use Rattle.node_slots.specs.declared.tree.Tree.{Tree}
use Rattle.node_slots.specs.Seats.{node_sight, free_of, retired_rows, row_count, is_present, is_waiting, is_kept, is_taken_row, one_where}
use Rattle.node_slots.specs.Built.{built_rows, pairs_now, IsBuilt, IsBlank, IsWriters, words_at, built}
use Rattle.node_slots.proofs.Counting.{times_first, one_if, none_if}
use Rattle.node_slots.proofs.Listing.{counted_once}
use Rattle.node_slots.proofs.Writers.{times_same}
use Rattle.area_tree.specs.SpanTrees.{enough}
use Rattle.area_tree.specs.Rows.{sum_below, is_spare, spare_rows}
use Rattle.area_tree.proofs.Sums.{sum-same, sum-le, sum-add, sum-ones, sum-times}
use Rattle.area_tree.proofs.Sizes.{few_rows, few_levels}

-- a row that is free or left is one of the table
pub gone_within : (writer : NodeWriter) (row : ℕ) → 1 ≤ times row (free_of writer) + times row (retired_rows writer) → row < row_count writer
gone_within writer row some = subst (λ s. row < s.rows) (sym writer.writer_state.kept.size_is) (writer.rows.inside row some)

-- a row that waits too
pub waiting_within : (writer : NodeWriter) (row : ℕ) → is_waiting writer row ≡ true → row < row_count writer
waiting_within writer row waits =
    let here = ltb-true 0 (times row (retired_rows writer)) (and_parts (nat_lt 0 (times row (retired_rows writer))) (not (is_present writer row)) waits).0 in
    gone_within writer row (omega (arith, here))

-- each row is free, was taken, is of the present tree, or waits
counted : (writer : NodeWriter) (row : ℕ) → row < row_count writer
    → times row (free_of writer) + one_where (is_taken_row writer row) + one_where (is_present writer row) + one_where (is_waiting writer row) ≡ 1
counted writer row within =
    let P : ℕ → Type 0 = λ rows. row < rows → times row (free_of writer)
    + one_where ((nat_lt row rows && nat_eq (times row (free_of writer) + times row (retired_rows writer)) 0) && not (is_present writer row))
    + one_where (is_present writer row) + one_where (is_waiting writer row) ≡ 1 in
    subst P (sym (ap (λ s. s.rows) writer.writer_state.kept.size_is)) (λ below. counted_once _ row _ _ _ _ writer.rows below) within

-- the free rows
free_count : (writer : NodeWriter) → sum_below (λ row. times row (free_of writer)) (row_count writer) ≡ length (free_of writer)
free_count writer = sum-times (free_of writer) (row_count writer) (λ row some. gone_within writer row (omega (arith, some)))

-- how many rows were taken
taken_rows : NodeWriter → ℕ
taken_rows writer = sum_below (λ row. one_where (is_taken_row writer row)) (row_count writer)

-- how many are neither free nor left
kept_rows : NodeWriter → ℕ
kept_rows writer = sum_below (λ row. one_where (is_kept writer row)) (row_count writer)

-- a row that is neither of the present tree nor waits, where both count at most once
spare_one : (free taken : ℕ) (present waits : Bool) → free + taken + one_where present + one_where waits ≡ 1
    → one_where (not present && not waits) ≡ free + taken
spare_one free taken true true one = absurd (omega arith)
spare_one free taken true false one = omega arith
spare_one free taken false true one = omega arith
spare_one free taken false false one = omega arith

-- the spare rows are those that are free and those that were taken
spare_count : (writer : NodeWriter) → spare_rows writer ≡ length (free_of writer) + taken_rows writer
unfolding taken_rows
spare_count writer =
    let each = sum-same (λ row. one_where (is_spare writer row)) (λ row. times row (free_of writer) + one_where (is_taken_row writer row)) (row_count writer)
    (λ row within. spare_one (times row (free_of writer)) (one_where (is_taken_row writer row)) (is_present writer row) (is_waiting writer row)
    (counted writer row within)) in
    let both = sum-add (λ row. times row (free_of writer)) (λ row. one_where (is_taken_row writer row)) (row_count writer) in
    omega (arith, each, both, free_count writer)

pub free_spare : (writer : NodeWriter) → length (free_of writer) ≤ spare_rows writer
free_spare writer = omega (arith, spare_count writer)

-- what was taken is neither free nor left
taken_one : (kept present : Bool) → one_where (kept && not present) ≤ one_where kept
taken_one true true = omega arith
taken_one true false = omega arith
taken_one false present = omega arith

taken_kept : (writer : NodeWriter) → taken_rows writer ≤ kept_rows writer
unfolding taken_rows kept_rows
taken_kept writer = sum-le (λ row. one_where (is_taken_row writer row)) (λ row. one_where (is_kept writer row)) (row_count writer)
    (λ row _. taken_one (is_kept writer row) (is_present writer row))

-- a tree has a row for each that is neither free nor left
built_count : (writer : NodeWriter) (tree : Tree) → IsBuilt writer tree → kept_rows writer ≡ length (built_rows writer tree)
unfolding kept_rows
built_count writer tree is =
    let same : (row : ℕ) → times row (built_rows writer tree) ≡ one_where (is_kept writer row) = λ row.
    sym (times_same row (built_rows writer tree)) ∙ is.reached row in
    let each = sum-same (λ row. one_where (is_kept writer row)) (λ row. times row (built_rows writer tree)) (row_count writer) (λ row _. sym (same row)) in
    let all = sum-times (built_rows writer tree) (row_count writer) (λ row some. elim (cases_Bool (is_kept writer row)) [
      | inl kept ↦ ltb-true row (row_count writer) (and_parts (nat_lt row (row_count writer)) (nat_eq (times row (free_of writer) + times row (retired_rows writer)) 0) kept).0
      | inr out ↦ absurd (omega (arith, some, same row, cond-false {A = ℕ} (is_kept writer row) 1 0 out))
    ]) in
    each ∙ all

-- before the first store one row is neither
blank_count : (writer : NodeWriter) (tree : Tree) → IsBlank writer tree → kept_rows writer ≤ 1
unfolding kept_rows
blank_count writer tree is =
    let one : (row : ℕ) → one_where (is_kept writer row) ≡ times row (0 ∷ []) = λ row. ap one_where (is.kept row) ∙ (elim (eqb_tells row 0) [
      | inl same ↦ let first : ◌≡◌ {A = ℕ} (one_where (nat_eq row 0)) 1 = cond-true {A = ℕ} (nat_eq row 0) 1 0 same.0 in
          let found = one_if 0 row (sym same.1) in omega (arith, first, found, times_first row 0 [])
      | inr differ ↦ let none : ◌≡◌ {A = ℕ} (one_where (nat_eq row 0)) 0 = cond-false {A = ℕ} (nat_eq row 0) 1 0 differ.0 in
          let other = none_if 0 row (λ e. differ.1 (sym e)) in omega (arith, none, other, times_first row 0 [])
    ]) in
    let each = sum-same (λ row. one_where (is_kept writer row)) (λ row. times row (0 ∷ [])) (row_count writer) (λ row _. one row) in
    let all = sum-times (0 ∷ []) (row_count writer) (λ row some. elim (eqb_tells row 0) [
      | inl same ↦ omega (arith, same.1, is.rows)
      | inr differ ↦ absurd (let other = none_if 0 row (λ e. differ.1 (sym e)) in omega (arith, some, other, times_first row 0 []))
    ]) in
    omega (arith, each, all)

-- a writer's tree of few pairs is low
pub writers_low : (writer : NodeWriter) (tree : Tree) (areas : ℕ) → IsWriters writer tree → length (pairs_now writer tree) ≤ areas → areas ≤ 65530
    → tree.height ≤ 9
writers_low writer tree areas (inl is) few most =
    few_levels (words_at writer) (node_sight writer).size.slots areas (built writer tree) is.layout few most
writers_low writer tree areas (inr is) few most = omega (arith, is.height)

-- and has few rows
writers_few : (writer : NodeWriter) (tree : Tree) (areas : ℕ) → IsWriters writer tree → length (pairs_now writer tree) ≤ areas → areas ≤ 65530
    → 9 * kept_rows writer ≤ 4 * areas + 81
writers_few writer tree areas (inl is) few most =
    let low = writers_low writer tree areas (inl is) few most in
    let rows = few_rows (words_at writer) (node_sight writer).size.slots areas (built writer tree) is.layout few in
    omega (arith, rows, low, built_count writer tree is)
writers_few writer tree areas (inr is) few most = omega (arith, blank_count writer tree is)

-- where enough rows are spare, a store finds enough that are free
pub room_left : (writer : NodeWriter) (tree : Tree) (areas : ℕ) → IsWriters writer tree → length (pairs_now writer tree) ≤ areas → areas ≤ 65530
    → enough areas ≤ spare_rows writer → 4 * tree.height + 4 ≤ length (free_of writer)
room_left writer tree areas is few most room =
    let low = writers_low writer tree areas is few most in
    let rows = writers_few writer tree areas is few most in
    omega (arith, low, rows, room, spare_count writer, taken_kept writer)

-- where no row waits and the tree is the present one, enough rows are free
pub rest_free : (writer : NodeWriter) (tree : Tree) (areas : ℕ) → IsWriters writer tree → row_count writer ≡ areas + 128
    → length (pairs_now writer tree) ≤ areas → areas ≤ 65530 → ((row : ℕ) → is_present writer row ≡ is_kept writer row)
    → ((row : ℕ) → is_waiting writer row ≡ false) → enough areas ≤ length (free_of writer)
unfolding kept_rows
rest_free writer tree areas is sized few most rest none =
    let each : (row : ℕ) → row < row_count writer → times row (free_of writer) + one_where (is_kept writer row) ≡ 1 = λ row within.
    let all = counted writer row within in
    let still : ◌≡◌ {A = ℕ} (one_where (is_waiting writer row)) 0 = cond-false {A = ℕ} (is_waiting writer row) 1 0 (none row) in
    let present : one_where (is_present writer row) ≡ one_where (is_kept writer row) = ap one_where (rest row) in
    let taken : one_where (is_taken_row writer row) ≡ 0 = rest_one (is_kept writer row) (is_present writer row) (rest row) in
    omega (arith, all, still, present, taken) in
    let ones = sum-ones (λ row. times row (free_of writer) + one_where (is_kept writer row)) (row_count writer) each in
    let both = sum-add (λ row. times row (free_of writer)) (λ row. one_where (is_kept writer row)) (row_count writer) in
    omega (arith, ones, both, free_count writer, writers_few writer tree areas is few most, sized) where
      rest_one : (kept present : Bool) → present ≡ kept → one_where (kept && not present) ≡ 0
      rest_one true true same = refl
      rest_one true false same = absurd (cc)
      rest_one false present same = refl
