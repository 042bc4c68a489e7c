-- For `NodeTable::take_row`, `NodeTable::leave`, `NodeTable::publish` and `NodeTable::scan`: what the writer's lists keep.
use Rattle.std.proofs.Common.{ℕ, zero, suc, ◌≡◌, ◌≢◌, ◌<◌, ◌≤◌, ◌+◌, ◌∙◌, Bool, true, false, not, ◌&&◌, cond, nat_eq, nat_lt, List, [], ◌∷◌, ◌++◌, length, set, refl, sym, ap, subst, arith, inl, inr}
use Rattle.std.proofs.lemmas.Bool.{cases_Bool, cases_lt, cond-true, cond-false, both_ways, ltb-true, lt-ltb, le-ltb, and_parts, and_from, not-true, not_from_false, eqb-true, eq-eqb, ne_eqb}
use Rattle.std.proofs.lemmas.Bool.Decides.{eqb_tells}
use Rattle.std.proofs.lemmas.List.{length-set, length-map, length-append, map-append, get_or-set_same, get_or-set_other, get_or_append_left, get_or_push}
use Rattle.std.proofs.lemmas.List.Sums.{sum_by-append}
use Rattle.std.proofs.lemmas.List.Sorted.{sum_by-IsPermutation, IsPermutation-map, IsPermutation-trans, IsPermutation-to_front, length_permutation}
use Rattle.std.specs.List.Sorted.{IsPermutation}
use Rattle.mm_types.specs.declared.slot.Row.{Row}
use Rattle.grace_core.specs.Core.{WriterState, times, has_row, since_at, is_free_row}
use Rattle.grace_core.specs.Steps.{next_tree, published, scanned}
use Rattle.grace_core.proofs.Moves.{free_parts, free_from, publish_free, scan_free}
use Rattle.grace_core.proofs.Leaving.{since_left, since_same}
use Rattle.node_slots.specs.declared.left.Left.{Left}
use Rattle.node_slots.specs.declared.view.NodeView.{NodeView}
use Rattle.node_slots.specs.Views.{fill_at, scan_at, scan_from}
use Rattle.node_slots.specs.Kept.{free_numbers, left_numbers, times_gone, left_at, no_left, first_at, IsRowRetired, RowsKept}
use Rattle.node_slots.proofs.Counting.{times_first, times_last, one_if, none_if}

-- how often a row is free with one more at the end
free_last : (free : List Row) (one : Row) (row : ℕ)
    → times row (free_numbers (free ++ one ∷ [])) ≡ times row (free_numbers free) + cond (nat_eq one.0 row) 1 0
free_last free one row =
    ap (times row) (map-append (λ (r : Row). r.0) free (one ∷ [])) ∙ times_last row one.0 (free_numbers free)

left_last : (left : List Left) (one : Left) (row : ℕ)
    → times row (left_numbers (left ++ one ∷ [])) ≡ times row (left_numbers left) + cond (nat_eq one.row.0 row) 1 0
left_last left one row =
    ap (times row) (map-append (λ (l : Left). l.row.0) left (one ∷ [])) ∙ times_last row one.row.0 (left_numbers left)

-- the last free row is taken
pub take_lists : (rows : ℕ) (row : Row) (free : List Row) (left : List Left) (firsts : List ℕ) (writer_state : WriterState)
    → RowsKept rows (free ++ row ∷ []) left firsts writer_state
    → RowsKept rows free left (set firsts row.0 (writer_state.tree.number + 1)) writer_state
take_lists rows row free left firsts writer_state kept =
    let next : ℕ = writer_state.tree.number + 1 in
    let count = free_last free row in
    let one = one_if row.0 row.0 refl in
    let there : row.0 < length firsts = omega (arith, kept.sized, kept.inside row.0 (omega (arith, count row.0, one))) in
    let firsts_are : (other : ℕ) → other ≢ row.0 → first_at (set firsts row.0 next) other ≡ first_at firsts other =
    λ other differ. get_or-set_other firsts row.0 other next 0 differ in
    let here : first_at (set firsts row.0 next) row.0 ≡ next = get_or-set_same firsts row.0 next 0 there in
    record {
      sized = length-set firsts row.0 next ∙ kept.sized;
      first = λ other. elim (eqb_tells other row.0) [
        | inl same ↦ omega (arith, ap (first_at (set firsts row.0 next)) same.1, here)
        | inr differ ↦ omega (arith, firsts_are other differ.1, kept.first other)
      ];
      once = λ other. omega (arith, count other, kept.once other);
      inside = λ other some. kept.inside other (omega (arith, count other, some));
      free_is = λ other some. kept.free_is other (omega (arith, count other, some));
      present = λ other within gone early. elim (eqb_tells other row.0) [
        | inl same ↦ absurd (omega (arith, early, ap (first_at (set firsts row.0 next)) same.1, here))
        | inr differ ↦
            let none = none_if row.0 other (λ e. differ.1 (sym e)) in
            kept.present other within (omega (arith, count other, none, gone)) (omega (arith, early, firsts_are other differ.1))
      ];
      taken = λ other within gone late. elim (eqb_tells other row.0) [
        | inl same ↦ kept.free_is other (let found = one_if row.0 other (sym same.1) in omega (arith, count other, found))
        | inr differ ↦
            let none = none_if row.0 other (λ e. differ.1 (sym e)) in
            kept.taken other within (omega (arith, count other, none, gone)) (omega (arith, late, firsts_are other differ.1))
      ];
      queue = kept.queue;
      order = kept.order;
    }

-- the free list in another order
pub moved_lists : (rows : ℕ) (free moved : List Row) (left : List Left) (firsts : List ℕ) (writer_state : WriterState) → IsPermutation free moved
    → RowsKept rows free left firsts writer_state → RowsKept rows moved left firsts writer_state
moved_lists rows free moved left firsts writer_state permuted kept =
    let same : (row : ℕ) → times row (free_numbers moved) ≡ times row (free_numbers free) = λ row.
    sum_by-IsPermutation (λ n. cond (nat_eq n row) 1 0) (free_numbers free) (free_numbers moved) (IsPermutation-map (λ (r : Row). r.0) free moved permuted) in
    record {
      sized = kept.sized;
      first = kept.first;
      once = λ row. omega (arith, same row, kept.once row);
      inside = λ row some. kept.inside row (omega (arith, same row, some));
      free_is = λ row some. kept.free_is row (omega (arith, same row, some));
      present = λ row within gone early. kept.present row within (omega (arith, same row, gone)) early;
      taken = λ row within gone late. kept.taken row within (omega (arith, same row, gone)) late;
      queue = kept.queue;
      order = kept.order;
    }

-- and the last of it, before the others
pub empty_moved : (xs ys : List ℕ) → IsPermutation xs ys → ys ≡ [] → xs ≡ []
empty_moved [] ys permuted none = refl
empty_moved (x ∷ xs) ys permuted none = absurd (omega (arith, length_permutation (x ∷ xs) ys permuted, ap (λ (l : List ℕ). length l) none))

pub last_moved : (xs ys rest : List ℕ) (row : ℕ) → IsPermutation xs ys → ys ≡ rest ++ row ∷ [] → IsPermutation xs (row ∷ rest)
last_moved xs ys rest row permuted last =
    IsPermutation-trans xs ys (row ∷ rest) permuted (subst (λ (l : List ℕ). IsPermutation l (row ∷ rest)) (sym last) (IsPermutation-to_front rest row))

-- a row that was taken is free again
pub free_lists : (rows : ℕ) (row : Row) (free : List Row) (left : List Left) (firsts : List ℕ) (writer_state : WriterState) → RowsKept rows free left firsts writer_state
    → row.0 < rows → times_gone free left row.0 ≡ 0 → writer_state.tree.number < first_at firsts row.0 → RowsKept rows (free ++ row ∷ []) left firsts writer_state
free_lists rows row free left firsts writer_state kept within gone late =
    let count = free_last free row in
    record {
      sized = kept.sized;
      first = kept.first;
      once = λ other. elim (eqb_tells row.0 other) [
        | inl same ↦ let one = one_if row.0 other same.1 in
            let none : times_gone free left other ≡ 0 = ap (times_gone free left) (sym same.1) ∙ gone in omega (arith, count other, one, none)
        | inr differ ↦ let none = none_if row.0 other differ.1 in omega (arith, count other, none, kept.once other)
      ];
      inside = λ other some. elim (eqb_tells row.0 other) [
        | inl same ↦ omega (arith, same.1, within)
        | inr differ ↦ kept.inside other (let none = none_if row.0 other differ.1 in omega (arith, count other, none, some))
      ];
      free_is = λ other some. elim (eqb_tells row.0 other) [
        | inl same ↦ subst (λ r. is_free_row writer_state r ≡ true) same.1 (kept.taken row.0 within gone late)
        | inr differ ↦ kept.free_is other (let none = none_if row.0 other differ.1 in omega (arith, count other, none, some))
      ];
      present = λ other inside none early. kept.present other inside (omega (arith, count other, none)) early;
      taken = λ other inside none later. kept.taken other inside (omega (arith, count other, none)) later;
      queue = kept.queue;
      order = kept.order;
    }

-- a row of the present tree was left
pub left_lists : (rows : ℕ) (one : Left) (free : List Row) (left : List Left) (firsts : List ℕ) (writer_state : WriterState) → RowsKept rows free left firsts writer_state
    → one.row.0 < rows → times_gone free left one.row.0 ≡ 0 → first_at firsts one.row.0 ≤ writer_state.tree.number → one.since ≡ writer_state.tree.number + 1
    → RowsKept rows free (left ++ one ∷ []) firsts writer_state
left_lists rows one free left firsts writer_state kept within gone early since =
    let count = left_last left one in
    let long : length (left ++ one ∷ []) ≡ length left + 1 = length-append left (one ∷ []) in
    let before : (place : ℕ) → place < length left → left_at (left ++ one ∷ []) place ≡ left_at left place =
    λ place there. get_or_append_left left (one ∷ []) no_left place there in
    let last : (place : ℕ) → length left ≡ place → left_at (left ++ one ∷ []) place ≡ one = λ place there. get_or_push left one no_left place there in
    let is : IsRowRetired writer_state one = record {
      some = omega (arith, since);
      most = omega (arith, since);
      leaves = λ _. since;
      waits = λ out. absurd (both_ways (has_row writer_state.tree one.row.0) out (kept.present one.row.0 within gone early));
      past = λ out. absurd (both_ways (has_row writer_state.tree one.row.0) out (kept.present one.row.0 within gone early));
    } in
    record {
      sized = kept.sized;
      first = kept.first;
      once = λ other. elim (eqb_tells one.row.0 other) [
        | inl same ↦ let found = one_if one.row.0 other same.1 in
            let none : times_gone free left other ≡ 0 = ap (times_gone free left) (sym same.1) ∙ gone in omega (arith, count other, found, none)
        | inr differ ↦ let none = none_if one.row.0 other differ.1 in omega (arith, count other, none, kept.once other)
      ];
      inside = λ other some. elim (eqb_tells one.row.0 other) [
        | inl same ↦ omega (arith, same.1, within)
        | inr differ ↦ kept.inside other (let none = none_if one.row.0 other differ.1 in omega (arith, count other, none, some))
      ];
      free_is = kept.free_is;
      present = λ other inside none low. kept.present other inside (omega (arith, count other, none)) low;
      taken = λ other inside none later. kept.taken other inside (omega (arith, count other, none)) later;
      queue = λ place there. elim (cases_lt place (length left)) [
        | inl old ↦ subst (IsRowRetired writer_state) (sym (before place old)) (kept.queue place old)
        | inr new ↦ subst (IsRowRetired writer_state) (sym (last place (omega (arith, new, there, long)))) is
      ];
      order = λ place other le there. elim (cases_lt other (length left)) [
        | inl old ↦ omega (
          arith,
          ap (λ (l : Left). l.since) (before place (omega (arith, le, old))),
          ap (λ (l : Left). l.since) (before other old),
          kept.order place other le old,
        )
        | inr new ↦
            let at_end = ap (λ (l : Left). l.since) (last other (omega (arith, new, there, long))) in
            elim (cases_lt place (length left)) [
              | inl old ↦ omega (arith, ap (λ (l : Left). l.since) (before place old), (kept.queue place old).most, at_end, since)
              | inr also ↦ omega (arith, at_end, ap (λ (l : Left). l.since) (last place (omega (arith, also, le, there, long))))
            ]
      ];
    }

-- the row that was left first is free
pub passed_lists : (rows : ℕ) (one : Left) (free : List Row) (left : List Left) (firsts : List ℕ) (writer_state : WriterState)
    → RowsKept rows free (one ∷ left) firsts writer_state
    → one.since ≤ writer_state.tree.number → one.since ≤ writer_state.passed → RowsKept rows (free ++ one.row ∷ []) left firsts writer_state
passed_lists rows one free left firsts writer_state kept present past =
    let more = free_last free one.row in
    let less : (other : ℕ) → times other (left_numbers (one ∷ left)) ≡ cond (nat_eq one.row.0 other) 1 0 + times other (left_numbers left) =
    λ other. times_first other one.row.0 (left_numbers left) in
    let is : IsRowRetired writer_state one = kept.queue 0 (omega arith) in
    let out : has_row writer_state.tree one.row.0 ≡ false = elim (cases_Bool (has_row writer_state.tree one.row.0)) [
      | inl here ↦ absurd (omega (arith, is.leaves here, present))
      | inr out ↦ out
    ] in
    let is_it : is_free_row writer_state one.row.0 ≡ true = free_from writer_state one.row.0 out (omega (arith, is.waits out, past)) in
    record {
      sized = kept.sized;
      first = kept.first;
      once = λ other. omega (arith, more other, less other, kept.once other);
      inside = λ other some. kept.inside other (omega (arith, more other, less other, some));
      free_is = λ other some. elim (eqb_tells one.row.0 other) [
        | inl same ↦ subst (λ r. is_free_row writer_state r ≡ true) same.1 is_it
        | inr differ ↦ kept.free_is other (let none = none_if one.row.0 other differ.1 in omega (arith, more other, none, some))
      ];
      present = λ other inside none low. kept.present other inside (omega (arith, more other, less other, none)) low;
      taken = λ other inside none later. kept.taken other inside (omega (arith, more other, less other, none)) later;
      queue = λ place there. kept.queue (suc place) (omega (arith, there));
      order = λ place other le there. kept.order (suc place) (suc other) (omega (arith, le)) (omega (arith, there));
    }

-- a scan of a pin
scan_lists : (rows reader found : ℕ) (free : List Row) (left : List Left) (firsts : List ℕ) (writer_state : WriterState) → RowsKept rows free left firsts writer_state
    → RowsKept rows free left firsts (scanned writer_state reader found)
scan_lists rows reader found free left firsts writer_state kept = record {
  sized = kept.sized;
  first = kept.first;
  once = kept.once;
  inside = kept.inside;
  free_is = λ row some. scan_free writer_state reader found row (kept.free_is row some);
  present = kept.present;
  taken = λ row within gone late. scan_free writer_state reader found row (kept.taken row within gone late);
  queue = λ place there. let is = kept.queue place there in record { some = is.some; most = is.most; leaves = is.leaves; waits = is.waits; past = is.past };
  order = kept.order;
}

-- scans of pins
pub scans_lists : (rows reader : ℕ) (pins : List ℕ) (free : List Row) (left : List Left) (firsts : List ℕ) (view : NodeView)
    → RowsKept rows free left firsts view.known.writer_state → RowsKept rows free left firsts (scan_from reader pins view).known.writer_state
scans_lists rows reader [] free left firsts view kept = kept
scans_lists rows reader (found ∷ pins) free left firsts view kept =
    scans_lists rows (reader + 1) pins free left firsts (scan_at view reader found)
    (scan_lists rows reader found free left firsts view.known.writer_state kept)

-- a row in the queue was left
left_counts : (left : List Left) (place : ℕ) → place < length left → 1 ≤ times (left_at left place).row.0 (left_numbers left)
left_counts [] place within = absurd (omega arith)
left_counts (one ∷ left) zero within = let found = one_if one.row.0 one.row.0 refl in
    omega (arith, times_first one.row.0 one.row.0 (left_numbers left), found)
left_counts (one ∷ left) (suc place) within =
    omega (arith, times_first (left_at left place).row.0 one.row.0 (left_numbers left), left_counts left place (omega arith))

-- a publish of the rows that are neither free nor left
pub publish_lists : (rows number : ℕ) (new : List ℕ) (free : List Row) (left : List Left) (firsts : List ℕ) (writer_state : WriterState)
    → RowsKept rows free left firsts writer_state
    → number ≡ writer_state.tree.number + 1 → length writer_state.since ≡ rows
    → ((row : ℕ) → 1 ≤ times_gone free left row → times row new ≡ 0)
    → ((row : ℕ) → row < rows → times_gone free left row ≡ 0 → 1 ≤ times row new)
    → RowsKept rows free left firsts (published writer_state number new)
publish_lists rows number new free left firsts writer_state kept next sized gone all =
    let there : (row : ℕ) → row < rows → times_gone free left row ≡ 0 → has_row (next_tree writer_state number new) row ≡ true =
    λ row within none. lt-ltb 0 (times row new) (all row within none) in
    record {
      sized = kept.sized;
      first = λ row. omega (arith, kept.first row, next);
      once = kept.once;
      inside = kept.inside;
      free_is = λ row some. publish_free writer_state number new row (gone row (omega (arith, some))) (kept.free_is row some);
      present = λ row within none _. there row within none;
      taken = λ row within none late. absurd (omega (arith, late, kept.first row, next));
      queue = λ place within.
          let one : Left = left_at left place in
          let is : IsRowRetired writer_state one = kept.queue place within in
          let row : ℕ = one.row.0 in
          let counted : 1 ≤ times row (left_numbers left) = left_counts left place within in
          let some : 1 ≤ times_gone free left row = omega (arith, counted) in
          let out : has_row (next_tree writer_state number new) row ≡ false = le-ltb 0 (times row new) (omega (arith, gone row some)) in
          let old : row < length writer_state.since = omega (arith, kept.inside row some, sized) in
          record {
            some = is.some;
            most = omega (arith, is.most, next);
            leaves = λ here. absurd (both_ways (has_row (next_tree writer_state number new) row) out here);
            waits = λ _. elim (cases_Bool (has_row writer_state.tree row)) [
              | inl here ↦ since_left writer_state.tree (next_tree writer_state number new) writer_state.since row old here out ∙ next ∙ sym (is.leaves here)
              | inr was_out ↦ since_same writer_state.tree (next_tree writer_state number new) writer_state.since row was_out ∙ is.waits was_out
            ];
            past = λ _. omega (arith, is.most, next);
          };
      order = kept.order;
    }

-- a row that was left stands in the queue
pub left_place : (left : List Left) (row : ℕ) → 1 ≤ times row (left_numbers left) → (place : ℕ) × (place < length left)
    × ((left_at left place).row.0 ≡ row)
left_place [] row some = absurd (omega arith)
left_place (one ∷ left) row some = elim (eqb_tells one.row.0 row) [
  | inl same ↦ (0, omega arith, same.1)
  | inr differ ↦
      let none = none_if one.row.0 row differ.1 in
      let rest = left_place left row (omega (arith, some, times_first row one.row.0 (left_numbers left), none)) in
      (suc rest.0, omega (arith, rest.1), rest.2)
]

-- a list without a row
without : ℕ → List ℕ → List ℕ
without row [] = []
without row (other ∷ rows) = cond (nat_eq other row) (without row rows) (other ∷ without row rows)

without_length : (row : ℕ) (rows : List ℕ) → length rows ≡ length (without row rows) + times row rows
unfolding without
without_length row [] = omega arith
without_length row (other ∷ rows) =
    let rest = without_length row rows in
    let count = times_first row other rows in
    elim (eqb_tells other row) [
      | inl same ↦
          let one = one_if other row same.1 in
          let e = ap (λ (l : List ℕ). length l) (cond-true (nat_eq other row) (without row rows) (other ∷ without row rows) same.0) in
          omega (arith, rest, count, one, e)
      | inr differ ↦
          let none = none_if other row differ.1 in
          let e = ap (λ (l : List ℕ). length l) (cond-false (nat_eq other row) (without row rows) (other ∷ without row rows) differ.0) in
          omega (arith, rest, count, none, e)
    ]

without_times : (row other : ℕ) (rows : List ℕ) → times other (without row rows) ≤ times other rows
unfolding without
without_times row other [] = omega arith
without_times row other (one ∷ rows) =
    let rest = without_times row other rows in
    let count = times_first other one rows in
    elim (eqb_tells one row) [
      | inl same ↦
          let e = ap (times other) (cond-true (nat_eq one row) (without row rows) (one ∷ without row rows) same.0) in omega (arith, rest, count, e)
      | inr differ ↦
          let e = ap (times other) (cond-false (nat_eq one row) (without row rows) (one ∷ without row rows) differ.0) in
          omega (arith, rest, count, e, times_first other one (without row rows))
    ]

without_none : (row : ℕ) (rows : List ℕ) → times row (without row rows) ≡ 0
unfolding without
without_none row [] = refl
without_none row (one ∷ rows) =
    let rest = without_none row rows in
    elim (eqb_tells one row) [
      | inl same ↦
          ap (times row) (cond-true (nat_eq one row) (without row rows) (one ∷ without row rows) same.0) ∙ rest
      | inr differ ↦
          let e = ap (times row) (cond-false (nat_eq one row) (without row rows) (one ∷ without row rows) differ.0) in
          let none = none_if one row differ.1 in omega (arith, rest, e, none, times_first row one (without row rows))
    ]

-- rows below a number, each listed at most once, are no more than the number
pub few : (count : ℕ) (rows : List ℕ) → ((row : ℕ) → times row rows ≤ 1) → ((row : ℕ) → 1 ≤ times row rows → row < count) → length rows ≤ count
few zero [] once below = omega arith
few zero (one ∷ rows) once below = absurd
    (let low = below one (let found = one_if one one refl in omega (arith, times_first one one rows, found)) in omega arith)
few (suc count) rows once below =
    let rest = few count (without count rows) (λ row. omega (arith, once row, without_times count row rows))
    (λ row some. let low = below row (omega (arith, some, without_times count row rows)) in
    elim (eqb_tells row count) [
      | inl same ↦ absurd (omega (arith, some, ap (λ r. times r (without count rows)) same.1, without_none count rows))
      | inr differ ↦ elim (cases_lt row count) [ inl less ↦ less | inr not_less ↦ absurd (differ.1 (omega (arith, low, not_less))) ]
    ]) in
    omega (arith, rest, without_length count rows, once count)

-- the rows that are free or left are no more than all
all_gone : (free : List Row) (left : List Left) (row : ℕ) → times row (free_numbers free ++ left_numbers left) ≡ times_gone free left row
all_gone free left row = sum_by-append (λ n. cond (nat_eq n row) 1 0) (free_numbers free) (left_numbers left)

gone_long : (free : List Row) (left : List Left) → length (free_numbers free ++ left_numbers left) ≡ length free + length left
gone_long free left = omega (
  arith,
  length-append (free_numbers free) (left_numbers left),
  length-map free (λ (r : Row). r.0),
  length-map left
      (λ (l : Left). l.row.0),
)

pub gone_few : (rows : ℕ) (free : List Row) (left : List Left) (firsts : List ℕ) (writer_state : WriterState) → RowsKept rows free left firsts writer_state
    → length free + length left ≤ rows
gone_few rows free left firsts writer_state kept =
    let all = few rows (free_numbers free ++ left_numbers left) (λ row. omega (arith, all_gone free left row, kept.once row))
    (λ row some. kept.inside row (omega (arith, all_gone free left row, some))) in
    omega (arith, all, gone_long free left)

-- and fewer where one is neither
pub gone_fewer : (rows row : ℕ) (free : List Row) (left : List Left) (firsts : List ℕ) (writer_state : WriterState) → RowsKept rows free left firsts writer_state
    → row < rows → times_gone free left row ≡ 0 → length free + length left < rows
gone_fewer rows row free left firsts writer_state kept within none =
    let list : List ℕ = free_numbers free ++ left_numbers left in
    let count : (other : ℕ) → times other (row ∷ list) ≡ cond (nat_eq row other) 1 0 + times other list = λ other. times_first other row list in
    let all = few rows (row ∷ list)
    (λ other. elim (eqb_tells row other) [
      | inl same ↦ let one = one_if row other same.1 in
          let gone : times_gone free left other ≡ 0 = ap (times_gone free left) (sym same.1)
          ∙ none in omega (arith, count other, one, all_gone free left other, gone)
      | inr differ ↦ let not_it = none_if row other differ.1 in omega (arith, count other, not_it, all_gone free left other, kept.once other)
    ])
    (λ other some. elim (eqb_tells row other) [
      | inl same ↦ omega (arith, same.1, within)
      | inr differ ↦ kept.inside other (let not_it = none_if row other differ.1 in omega (arith, count other, not_it, all_gone free left other, some))
    ]) in
    omega (arith, all, gone_long free left)

-- whether a row is neither free nor left
pub kept_parts : (rows row gone : ℕ) → (nat_lt row rows && nat_eq gone 0) ≡ true → (row < rows) × (gone ≡ 0)
kept_parts rows row gone is =
    let parts = and_parts (nat_lt row rows) (nat_eq gone 0) is in
    (ltb-true row rows parts.0, eqb-true gone 0 parts.1)

pub kept_from : (rows row gone : ℕ) → row < rows → gone ≡ 0 → (nat_lt row rows && nat_eq gone 0) ≡ true
kept_from rows row gone within none = and_from (nat_lt row rows) (nat_eq gone 0) (lt-ltb row rows within) (eq-eqb gone 0 none)

-- whether it was taken
pub taken_parts : (rows row gone : ℕ) (present : Bool) → ((nat_lt row rows && nat_eq gone 0) && not present) ≡ true → (row < rows) × (gone ≡ 0)
    × (present ≡ false)
taken_parts rows row gone present is =
    let parts = and_parts (nat_lt row rows && nat_eq gone 0) (not present) is in
    let kept = kept_parts rows row gone parts.0 in
    (kept.0, kept.1, not-true present parts.1)

-- a row that is neither free nor left is of the present tree, or was taken
pub early_present : (rows row : ℕ) (free : List Row) (left : List Left) (firsts : List ℕ) (writer_state : WriterState) → RowsKept rows free left firsts writer_state
    → row < rows → times_gone free left row ≡ 0 → has_row writer_state.tree row ≡ false → writer_state.tree.number < first_at firsts row
early_present rows row free left firsts writer_state kept within gone out = elim (cases_lt writer_state.tree.number (first_at firsts row)) [
  | inl late ↦ late
  | inr early ↦ absurd (both_ways (has_row writer_state.tree row) out (kept.present row within gone early))
]

-- a row that was taken is free by the grace protocol
pub taken_free : (rows row : ℕ) (free : List Row) (left : List Left) (firsts : List ℕ) (writer_state : WriterState) → RowsKept rows free left firsts writer_state
    → row < rows → times_gone free left row ≡ 0 → has_row writer_state.tree row ≡ false → is_free_row writer_state row ≡ true
taken_free rows row free left firsts writer_state kept within gone out = kept.taken row within gone
    (early_present rows row free left firsts writer_state kept within gone out)

-- the row that was taken just now
pub take_within : (rows : ℕ) (row : Row) (free : List Row) (left : List Left) (firsts : List ℕ) (writer_state : WriterState)
    → RowsKept rows (free ++ row ∷ []) left firsts writer_state
    → row.0 < rows
take_within rows row free left firsts writer_state kept =
    kept.inside row.0 (let one = one_if row.0 row.0 refl in omega (arith, free_last free row row.0, one))

pub take_is_taken : (rows : ℕ) (row : Row) (free : List Row) (left : List Left) (firsts : List ℕ) (writer_state : WriterState)
    → RowsKept rows (free ++ row ∷ []) left firsts writer_state
    → ((nat_lt row.0 rows && nat_eq (times_gone free left row.0) 0) && not (has_row writer_state.tree row.0)) ≡ true
take_is_taken rows row free left firsts writer_state kept =
    let one = one_if row.0 row.0 refl in
    let count = free_last free row row.0 in
    let none : times_gone free left row.0 ≡ 0 = omega (arith, kept.once row.0, count, one) in
    let free_now = free_parts writer_state row.0 (kept.free_is row.0 (omega (arith, count, one))) in
    and_from (nat_lt row.0 rows && nat_eq (times_gone free left row.0) 0) (not (has_row writer_state.tree row.0))
    (kept_from rows row.0 (times_gone free left row.0) (take_within rows row free left firsts writer_state kept) none)
    (not_from_false (has_row writer_state.tree row.0) free_now.0)

-- a fill leaves what the lists keep
pub fill_lists : (rows row : ℕ) (words : List ℕ) (free : List Row) (left : List Left) (firsts : List ℕ) (view : NodeView)
    → RowsKept rows free left firsts view.known.writer_state
    → RowsKept rows free left firsts (fill_at view row words).known.writer_state
fill_lists rows row words free left firsts view kept = record {
  sized = kept.sized;
  first = kept.first;
  once = kept.once;
  inside = kept.inside;
  free_is = kept.free_is;
  present = kept.present;
  taken = kept.taken;
  queue = λ place there. let is = kept.queue place there in record { some = is.some; most = is.most; leaves = is.leaves; waits = is.waits; past = is.past };
  order = kept.order;
}

-- a row that waits was left out after the first of the queue or with it
pub waiting_after : (rows passed : ℕ) (free : List Row) (left : List Left) (firsts : List ℕ) (writer_state : WriterState) → RowsKept rows free left firsts writer_state
    → (0 < length left → passed < (left_at left 0).since)
    → (row : ℕ) → (nat_lt 0 (times row (left_numbers left)) && not (has_row writer_state.tree row)) ≡ true → passed < since_at writer_state.since row
waiting_after rows passed free left firsts writer_state kept after row waits =
    let parts = and_parts (nat_lt 0 (times row (left_numbers left))) (not (has_row writer_state.tree row)) waits in
    let place = left_place left row (ltb-true 0 (times row (left_numbers left)) parts.0) in
    let is : IsRowRetired writer_state (left_at left place.0) = kept.queue place.0 place.1 in
    let out : has_row writer_state.tree (left_at left place.0).row.0 ≡ false = ap (has_row writer_state.tree) place.2 ∙ not-true (has_row writer_state.tree row) parts.1 in
    omega (arith, after (omega (arith, place.1)), kept.order 0 place.0 (omega arith) place.1, is.waits out, ap (since_at writer_state.since) place.2)

-- a row that waits was left out by the present tree or one before it
pub waiting_past : (rows : ℕ) (free : List Row) (left : List Left) (firsts : List ℕ) (writer_state : WriterState) → RowsKept rows free left firsts writer_state
    → (row : ℕ) → (nat_lt 0 (times row (left_numbers left)) && not (has_row writer_state.tree row)) ≡ true → since_at writer_state.since row ≤ writer_state.tree.number
waiting_past rows free left firsts writer_state kept row waits =
    let parts = and_parts (nat_lt 0 (times row (left_numbers left))) (not (has_row writer_state.tree row)) waits in
    let place = left_place left row (ltb-true 0 (times row (left_numbers left)) parts.0) in
    let is : IsRowRetired writer_state (left_at left place.0) = kept.queue place.0 place.1 in
    let out : has_row writer_state.tree (left_at left place.0).row.0 ≡ false = ap (has_row writer_state.tree) place.2 ∙ not-true (has_row writer_state.tree row) parts.1 in
    omega (arith, is.past out, is.waits out, ap (since_at writer_state.since) place.2)

-- a tree before which every row that waits was left out is before the tree that leaves the first of the queue out
pub elapsed_greatest : (rows tree : ℕ) (free : List Row) (left : List Left) (firsts : List ℕ) (writer_state : WriterState) → RowsKept rows free left firsts writer_state
    → 0 < length left → tree ≤ writer_state.tree.number
    → ((row : ℕ) → (nat_lt 0 (times row (left_numbers left)) && not (has_row writer_state.tree row)) ≡ true → tree < since_at writer_state.since row)
    → tree < (left_at left 0).since
elapsed_greatest rows tree free left firsts writer_state kept some below each =
    let one : Left = left_at left 0 in
    let is : IsRowRetired writer_state one = kept.queue 0 some in
    elim (cases_Bool (has_row writer_state.tree one.row.0)) [
      | inl here ↦ omega (arith, is.leaves here, below)
      | inr out ↦
          let counted : 0 < times one.row.0 (left_numbers left) = left_counts left 0 some in
          let later = each one.row.0 (and_from (nat_lt 0 (times one.row.0 (left_numbers left))) (not (has_row writer_state.tree one.row.0))
          (lt-ltb 0 (times one.row.0 (left_numbers left)) counted) (not_from_false (has_row writer_state.tree one.row.0) out)) in
          omega (arith, later, is.waits out)
    ]

no_count : (b : Bool) → ◌≡◌ {A = ℕ} (cond (b && false) 1 0) 0
no_count true = refl
no_count false = refl

same_count : (b : Bool) → ◌≡◌ {A = ℕ} (cond (b && true) 1 0) (cond b 1 0)
same_count true = refl
same_count false = refl

and_right_false : (a b : Bool) → b ≡ false → (a && b) ≡ false
and_right_false true b is = is
and_right_false false b is = refl

-- each row is free, was taken, is of the present tree, or waits
pub counted_once : (rows row : ℕ) (free : List Row) (left : List Left) (firsts : List ℕ) (writer_state : WriterState) → RowsKept rows free left firsts writer_state
    → row < rows
    → times row (free_numbers free) + cond ((nat_lt row rows && nat_eq (times_gone free left row) 0) && not (has_row writer_state.tree row)) 1 0
    + cond (has_row writer_state.tree row) 1 0 + cond (nat_lt 0 (times row (left_numbers left)) && not (has_row writer_state.tree row)) 1 0 ≡ 1
counted_once rows row free left firsts writer_state kept within = go (has_row writer_state.tree row)
    refl where
      go : (present : Bool) → has_row writer_state.tree row ≡ present
          → times row (free_numbers free) + cond ((nat_lt row rows && nat_eq (times_gone free left row) 0) && not present) 1 0
          + cond present 1 0 + cond (nat_lt 0 (times row (left_numbers left)) && not present) 1 0 ≡ 1
      go true here =
          let none : times row (free_numbers free) ≡ 0 = elim (cases_lt 0 (times row (free_numbers free))) [
            | inl some ↦ absurd (both_ways (has_row writer_state.tree row) (free_parts writer_state row (kept.free_is row some)).0 here)
            | inr none ↦ omega (arith, none)
          ] in
          let first = no_count (nat_lt row rows && nat_eq (times_gone free left row) 0) in
          let second = no_count (nat_lt 0 (times row (left_numbers left))) in
          omega (arith, none, first, second)
      go false out =
          let once = kept.once row in
          let first = same_count (nat_lt row rows && nat_eq (times_gone free left row) 0) in
          let second = same_count (nat_lt 0 (times row (left_numbers left))) in
          elim (cases_lt 0 (times_gone free left row)) [
            | inl some ↦
                let gone = cond-false {A = ℕ} (nat_lt row rows && nat_eq (times_gone free left row) 0) 1 0
                (and_right_false (nat_lt row rows) (nat_eq (times_gone free left row) 0) (ne_eqb (times_gone free left row) 0 (λ e. omega arith))) in
                elim (cases_lt 0 (times row (left_numbers left))) [
                  | inl here ↦
                      let one = cond-true {A = ℕ} (nat_lt 0 (times row (left_numbers left))) 1 0 (lt-ltb 0 (times row (left_numbers left)) here) in
                      omega (arith, once, some, first, second, gone, one)
                  | inr none ↦
                      let one = cond-false {A = ℕ} (nat_lt 0 (times row (left_numbers left))) 1 0 (le-ltb 0 (times row (left_numbers left)) none) in
                      omega (arith, once, some, first, second, gone, one)
                ]
            | inr none ↦
                let kept_one = cond-true {A = ℕ} (nat_lt row rows && nat_eq (times_gone free left row) 0) 1 0
                (kept_from rows row (times_gone free left row) within (omega (arith, none))) in
                let left_none : times row (left_numbers left) ≤ 0 = omega (arith, none) in
                let one = cond-false {A = ℕ} (nat_lt 0 (times row (left_numbers left))) 1 0 (le-ltb 0 (times row (left_numbers left)) left_none) in
                omega (arith, none, first, second, kept_one, one)
          ]
