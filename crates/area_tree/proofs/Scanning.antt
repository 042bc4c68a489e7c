-- For `scan_once`, `try_for_rows`, `wait_for_rows` and `SpanTree::scan`: what scans change, and what they leave as it is.
use Rattle.std.proofs.Common.{ℕ, zero, suc, ◌≡◌, ◌<◌, ◌≤◌, ◌+◌, ◌*◌, ◌%◌, ◌∙◌, ◌⊎◌, inl, inr, true, not, ◌&&◌, cond, nat_eq, nat_lt, List, [], ◌∷◌, ◌++◌, length, map, refl, sym, ap, subst, arith}
use Rattle.std.proofs.lemmas.Bool.{and_parts, and_from, ltb-true, lt-ltb}
use Rattle.std.proofs.lemmas.Bool.Decides.{eqb_tells}
use Rattle.std.proofs.lemmas.List.{length-map, length-append}
use Rattle.std.proofs.lemmas.List.Sums.{sum_by-append}
use Rattle.std.proofs.lemmas.Nat.{mod_below}
use Rattle.grace_core.specs.declared.clearing.Clearing.{Clearing}
use Rattle.grace_core.specs.Core.{times, has_row}
use Rattle.node_slots.specs.declared.view.NodeView.{NodeView}
use Rattle.node_slots.specs.declared.seats.NodeWriter.{NodeWriter}
use Rattle.node_slots.specs.Views.{scan_at, scan_from}
use Rattle.node_slots.specs.Seats.{node_sight, writer_state, free_of, retired_rows, row_count, is_present, pins_of, AreOut, HasOpen}
use Rattle.area_tree.specs.Rows.{IsSameTree, Scans, IsScanned}

-- scans of pins change what is known of readers alone
pub same_scanned : (reader : ℕ) (pins : List ℕ) (view : NodeView) → IsSameTree view (scan_from reader pins view)
same_scanned reader [] view = record { size = refl; root = refl; tree = refl; words = refl; since = refl }
same_scanned reader (found ∷ pins) view =
    let rest = same_scanned (reader + 1) pins (scan_at view reader found) in
    record { size = rest.size; root = rest.root; tree = rest.tree; words = rest.words; since = rest.since }

-- no scan
pub scans_none : (writer : NodeWriter) → Scans writer writer
scans_none writer = record {
  same = record { size = refl; root = refl; tree = refl; words = refl; since = refl };
  kept = λ row. refl;
  waits = λ row is. is;
}

-- scans after others
pub scans_more : (first second third : NodeWriter) → Scans first second → Scans second third → Scans first third
scans_more first second third before after = record {
  same = record {
    size = after.same.size ∙ before.same.size;
    root = after.same.root ∙ before.same.root;
    tree = after.same.tree ∙ before.same.tree;
    words = after.same.words ∙ before.same.words;
    since = after.same.since ∙ before.same.since;
  };
  kept = λ row. after.kept row ∙ before.kept row;
  waits = λ row is. before.waits row (after.waits row is);
}

-- how often a row stands in two lists
times_both : (row : ℕ) (rows others : List ℕ) → times row (rows ++ others) ≡ times row rows + times row others
times_both row rows others = sum_by-append (λ n. cond (nat_eq n row) 1 0) rows others

-- one scan, which frees the rows that were left first
pub scan_scans : (old new : NodeWriter) (pins rows : List ℕ) → node_sight new ≡ scan_from 0 pins (node_sight old)
    → free_of new ≡ free_of old ++ rows → retired_rows old ≡ rows ++ retired_rows new → Scans old new
scan_scans old new pins rows view freed left =
    let same : IsSameTree (node_sight old) (node_sight new) = subst (IsSameTree (node_sight old)) (sym view) (same_scanned 0 pins (node_sight old)) in
    let more : (row : ℕ) → times row (free_of new) ≡ times row (free_of old) + times row rows = λ row.
    ap (times row) freed ∙ times_both row (free_of old) rows in
    let less : (row : ℕ) → times row (retired_rows old) ≡ times row rows + times row (retired_rows new) = λ row.
    ap (times row) left ∙ times_both row rows (retired_rows new) in
    record {
      same = same;
      kept = λ row.
          let gone : times row (free_of new) + times row (retired_rows new) ≡ times row (free_of old) + times row (retired_rows old) =
          omega (arith, more row, less row) in
          ap (λ n. nat_lt row n && nat_eq (times row (free_of new) + times row (retired_rows new)) 0) (ap (λ s. s.rows) same.size)
          ∙ ap (λ n. nat_lt row (row_count old) && nat_eq n 0) gone;
      waits = λ row is.
          let parts = and_parts (nat_lt 0 (times row (retired_rows new))) (not (is_present new row)) is in
          let here : 0 < times row (retired_rows new) = ltb-true 0 (times row (retired_rows new)) parts.0 in
          and_from (nat_lt 0 (times row (retired_rows old))) (not (is_present old row))
          (lt-ltb 0 (times row (retired_rows old)) (omega (arith, here, less row)))
          (subst (λ t. not (has_row t row) ≡ true) same.tree parts.1);
    }

-- there is a pin for each reader
pub pins_long : (writer : NodeWriter) → length (pins_of writer) ≡ (node_sight writer).size.readers
pins_long writer =
    length-map (writer_state writer).clearings (λ (found : Clearing). found.pin) ∙ ap (λ (l : List Clearing). length l) writer.writer_state.kept.clearings_are
    ∙ writer.writer_state.kept.readers ∙ sym (ap (λ s. s.readers) writer.writer_state.kept.size_is)

pub pins_same : (old new : NodeWriter) → Scans old new → length (pins_of new) ≡ length (pins_of old)
pins_same old new scans = pins_long new ∙ ap (λ s. s.readers) scans.same.size ∙ sym (pins_long old)

-- each look at a pin is counted
looks : (reader : ℕ) (pins : List ℕ) (view : NodeView) → (scan_from reader pins view).scans ≡ view.scans + length pins
looks reader [] view = omega arith
looks reader (found ∷ pins) view = let rest = looks (reader + 1) pins (scan_at view reader found) in omega (arith, rest)

pub scan_looks : (old new : NodeWriter) (pins : List ℕ) → node_sight new ≡ scan_from 0 pins (node_sight old) → length pins ≡ (node_sight old).size.readers
    → IsScanned old new
scan_looks old new pins view long = ap (λ (v : NodeView). v.scans) view ∙ looks 0 pins (node_sight old)
    ∙ ap (λ n. (node_sight old).scans + n) (long ∙ sym (pins_long old))

-- every pin is even, or one is odd
even_or_odd : (pin : ℕ) → (pin % 2 ≡ 0) ⊎ (pin % 2 ≡ 1)
even_or_odd pin = let small = mod_below pin 2 (omega arith) in elim (eqb_tells (pin % 2) 0) [
  | inl even ↦ inl even.1
  | inr odd ↦ inr (omega (arith, small, odd.1))
]

first_even : (pin : ℕ) (pins : List ℕ) → pin % 2 ≡ 0 → AreOut pins → AreOut (pin ∷ pins)
first_even pin pins even out zero = even
first_even pin pins even out (suc reader) = out reader

pub out_or_open : (pins : List ℕ) → AreOut pins ⊎ HasOpen pins
out_or_open [] = inl (λ reader. refl)
out_or_open (pin ∷ pins) = elim (even_or_odd pin) [
  | inr odd ↦ inr (0, odd)
  | inl even ↦ elim (out_or_open pins) [
    | inl out ↦ inl (first_even pin pins even out)
    | inr some ↦ inr (suc some.0, some.1)
  ]
]

-- rows that become free come to the others
pub more_free : (old rows new : List ℕ) → new ≡ old ++ rows → length old ≤ length new
more_free old rows new is = omega (arith, ap (λ (l : List ℕ). length l) is, length-append old rows)

-- one more of a number
times_one : (tries n : ℕ) → (tries + 1) * n ≡ tries * n + n
times_one tries n = grind arith

-- one try more looks at each pin once more
pub tries_more : (first mid last : NodeWriter) (tries : ℕ) → Scans first mid → IsScanned mid last
    → (node_sight mid).scans ≡ (node_sight first).scans + tries * length (pins_of first)
    → (node_sight last).scans ≡ (node_sight first).scans + (tries + 1) * length (pins_of first)
tries_more first mid last tries scans scanned so_far =
    let same = pins_same first mid scans in
    let more = times_one tries (length (pins_of first)) in
    omega (arith, same, scanned, so_far, more)
