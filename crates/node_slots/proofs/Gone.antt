-- For `NodeTable::scan`: once it finds every reader closed, no row waits.
use Rattle.std.proofs.Common.{ℕ, ◌≡◌, ◌<◌, ◌≤◌, ◌+◌, ◌%◌, ◌∙◌, nat_eq, List, [], ◌∷◌, length, map, cond, sym, ap, subst, arith, inl, inr}
use Rattle.std.proofs.lemmas.Bool.{cond-true, both_ways, cases_lt, eq-eqb}
use Rattle.std.proofs.lemmas.Bool.Decides.{eqb_tells}
use Rattle.std.proofs.lemmas.List.{length-set, get_or-set_same, get_or-set_other, get_or-map, get_or_past}
use Rattle.grace_core.specs.declared.clearing.Clearing.{Clearing}
use Rattle.grace_core.specs.Core.{clearing_at, no_clearing}
use Rattle.grace_core.specs.Steps.{cleared_up_to, cleared_by_scan}
use Rattle.grace_core.proofs.Clearings.{least_greatest}
use Rattle.node_slots.specs.declared.view.NodeView.{NodeView}
use Rattle.node_slots.specs.Views.{scan_at, scan_from}
use Rattle.node_slots.specs.Seats.{AreOut}

-- a reader whose last pin is even is cleared up to the present tree
IsCleared : NodeView → ℕ → Type 0
IsCleared view reader = (clearing_at view.known.writer_state.clearings reader).pin % 2 ≡ 0
    → (clearing_at view.known.writer_state.clearings reader).cleared ≡ view.known.writer_state.tree.number

looked_cleared : (number found : ℕ) (clearing : Clearing) → (cleared_by_scan number found clearing).pin % 2 ≡ 0 → (cleared_by_scan number found clearing).cleared ≡ number
looked_cleared number found clearing even =
    cond-true (nat_eq (found % 2) 0) number (cond (nat_eq found clearing.pin) clearing.cleared clearing.tree) (eq-eqb (found % 2) 0 even)

-- so is each that was scanned
scan_cleared : (reader other : ℕ) (pins : List ℕ) (view : NodeView) → reader + length pins ≤ length view.known.writer_state.clearings
    → (other < reader → IsCleared view other) → other < reader + length pins → IsCleared (scan_from reader pins view) other
unfolding IsCleared
scan_cleared reader other [] view within before below = before (omega (arith, below))
scan_cleared reader other (found ∷ pins) view within before below =
    let clearings : List Clearing = view.known.writer_state.clearings in
    let number : ℕ = view.known.writer_state.tree.number in
    let one : Clearing = cleared_by_scan number found (clearing_at clearings reader) in
    scan_cleared (reader + 1) other pins (scan_at view reader found) (omega (arith, within, length-set clearings reader one))
    (λ low. elim (eqb_tells other reader) [
      | inl same ↦
          let here : clearing_at (scan_at view reader found).known.writer_state.clearings other ≡ one =
          ap (clearing_at (scan_at view reader found).known.writer_state.clearings) same.1 ∙ get_or-set_same clearings reader one no_clearing (omega (arith, within)) in
          rw here (looked_cleared number found (clearing_at clearings reader))
      | inr differ ↦
          let still : clearing_at (scan_at view reader found).known.writer_state.clearings other ≡ clearing_at clearings other =
          get_or-set_other clearings reader other one no_clearing differ.1 in
          rw still (before (omega (arith, low, differ.1)))
    ])
    (omega (arith, below))

-- where every reader is found closed, each is cleared up to the present tree
pub scanned_least : (pins : List ℕ) (old new : NodeView) → new ≡ scan_from 0 pins old → length pins ≡ length old.known.writer_state.clearings
    → length new.known.writer_state.clearings ≡ length pins → AreOut (map (λ (c : Clearing). c.pin) new.known.writer_state.clearings)
    → new.known.writer_state.tree.number ≤ cleared_up_to new.known.writer_state.tree.number new.known.writer_state.clearings
unfolding IsCleared
scanned_least pins old new is sized after out =
    let clearings : List Clearing = new.known.writer_state.clearings in
    least_greatest new.known.writer_state.tree.number new.known.writer_state.tree.number clearings (omega arith)
    (λ reader exists. elim (cases_lt reader (length clearings)) [
      | inl within ↦
          let even : (clearing_at clearings reader).pin % 2 ≡ 0 =
          ap (λ n. n % 2) (sym (get_or-map (λ (c : Clearing). c.pin) clearings reader no_clearing 0 within)) ∙ out reader in
          let all = scan_cleared 0 reader pins old (omega (arith, sized)) (λ low. absurd (omega (arith, low))) (omega (arith, within, after)) in
          let cleared = subst (λ v. IsCleared v reader) (sym is) all even in
          omega (arith, cleared)
      | inr past ↦
          let none : clearing_at clearings reader ≡ no_clearing = get_or_past clearings reader no_clearing (omega (arith, past)) in
          absurd (both_ways (clearing_at clearings reader).joined exists (ap (λ (c : Clearing). c.joined) none))
    ])
