-- For the laws of the definitions.
use Rattle.std.proofs.Common.{ℕ, ◌≡◌, ◌≤◌, ◌+◌, ◌%◌, ◌^◌, ◌∙◌, not, nat_eq, nat_lt, nat_le, sym, subst, arith, inl, inr}
use Rattle.std.proofs.lemmas.Bool.{cases_Bool, cases_lt, cases_eq, and_from, and_left, and_right, not_from_true, not_from_false, false_from_ne_true, both_ways, le-leb, lt-ltb, le-ltb, eq-eqb, ne_eqb}
use Rattle.grace_core.specs.declared.clearing.Clearing.{Clearing}
use Rattle.grace_core.specs.declared.events.GraceEvent.TheVariants.{Open, Root, Word, Close, Fill, Publish, Scan, Split, Join}
use Rattle.grace_core.specs.Core.{WriterState, numbers_of, times, has_row, since_at, clearing_at, no_clearing, pin_at, is_free_row, is_open}
use Rattle.grace_core.specs.Steps.{turned, cleared_by_scan}
use Rattle.grace_core.specs.Laws.{PinsTurn, RowsStand, StandsOnce, SnapshotsStay, RowsBecomeFree, FreeRowsStay, ClearingsRise}
use Rattle.grace_core.proofs.Elements.{one_set}
use Rattle.grace_core.proofs.Moves.{free_parts, free_once_cleared, away, publish_free, scan_free, join_free, cleared_rises}

pub pins_turn : PinsTurn
pins_turn pin = (parity, λ same. absurd (omega (arith, same)))
  where
    parity : is_open (turned pin) ≡ not (is_open pin)
    parity = elim (cases_eq (pin % 2) 1) [
      | inl odd ↦ ne_eqb ((pin + 1) % 2 ^ 64 % 2) 1 (λ e. omega (arith, odd, e)) ∙ sym (not_from_true (nat_eq (pin % 2) 1) (eq-eqb (pin % 2) 1 odd))
      | inr even ↦ eq-eqb ((pin + 1) % 2 ^ 64 % 2) 1 (omega (arith, even)) ∙ sym (not_from_false (nat_eq (pin % 2) 1) (ne_eqb (pin % 2) 1 even))
    ]

pub rows_stand : RowsStand
rows_stand writer_state row = elim (cases_Bool (has_row writer_state.tree row)) [
  | inl here ↦ inl here
  | inr out ↦
      let not_here = not_from_false (has_row writer_state.tree row) out in
      elim (cases_lt writer_state.passed (since_at writer_state.since row)) [
        | inl before ↦ inr (inr (and_from (not (has_row writer_state.tree row)) (nat_lt writer_state.passed (since_at writer_state.since row)) not_here
            (lt-ltb writer_state.passed (since_at writer_state.since row) before)))
        | inr past ↦ inr (inl (and_from (not (has_row writer_state.tree row)) (nat_le (since_at writer_state.since row) writer_state.passed) not_here
            (le-leb (since_at writer_state.since row) writer_state.passed past)))
      ]
]

pub stands_once : (writer_state : WriterState) (row : ℕ) → StandsOnce writer_state row
stands_once writer_state row = record {
  of_the_tree = λ here.
      let out = not_from_true (has_row writer_state.tree row) here in (
        and_left (not (has_row writer_state.tree row)) (nat_le (since_at writer_state.since row) writer_state.passed) out,
        and_left (not (has_row writer_state.tree row)) (nat_lt writer_state.passed (since_at writer_state.since row)) out,
      );
  free = λ free.
      let parts = free_parts writer_state row free in
      and_right (not (has_row writer_state.tree row)) (nat_lt writer_state.passed (since_at writer_state.since row)) (le-ltb writer_state.passed (since_at writer_state.since row) parts.1);
}

pub snapshots_stay : SnapshotsStay
snapshots_stay core reader tree row facts some here = false_from_ne_true (is_free_row core.writer_state row)
    (λ free. both_ways (has_row tree row) (away core.writer_state reader (pin_at core.pins reader) tree row (facts.waiting reader tree some) free) here)

pub rows_become_free : RowsBecomeFree
rows_become_free = free_once_cleared

pub free_rows_stay : FreeRowsStay
free_rows_stay core (Open reader) row free unlisted = free
free_rows_stay core (Root reader) row free unlisted = free
free_rows_stay core (Word reader other) row free unlisted = free
free_rows_stay core (Close reader) row free unlisted = free
free_rows_stay core (Fill other word) row free unlisted = free
free_rows_stay core (Publish number rows) row free unlisted = publish_free core.writer_state number (numbers_of rows) row never free
  where
    never : times row (numbers_of rows) ≡ 0
    never = elim (cases_lt 0 (times row (numbers_of rows))) [ inl some ↦ absurd (unlisted some) | inr none ↦ omega arith ]
free_rows_stay core (Scan reader) row free unlisted = scan_free core.writer_state reader (pin_at core.pins reader) row free
free_rows_stay core (Split reader) row free unlisted = free
free_rows_stay core (Join first second) row free unlisted = join_free core.writer_state second row free

pub clearings_rise : ClearingsRise
clearings_rise writer_state reader found other writer_facts = one_set (λ (c : Clearing). (clearing_at writer_state.clearings other).cleared ≤ c.cleared) writer_state.clearings reader other
    (cleared_by_scan writer_state.tree.number found (clearing_at writer_state.clearings reader)) no_clearing (omega arith)
    (λ same. subst (λ n. (clearing_at writer_state.clearings n).cleared ≤ (cleared_by_scan writer_state.tree.number found (clearing_at writer_state.clearings reader)).cleared) (sym same)
    (cleared_rises writer_state.tree.number found (clearing_at writer_state.clearings reader) (writer_facts.before reader) (writer_facts.free.scanned reader)))
