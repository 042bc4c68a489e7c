-- For `GraceState::new`, `GraceState::open`, `GraceState::publish` and others: what a state's fields keep.
use Rattle.std.proofs.Common.{ℕ, ◌≡◌, ◌<◌, ◌+◌, ◌^◌, ◌∙◌, true, false, List, length, sym, arith, Option, Some, None}
use Rattle.std.specs.List.{All}
use Rattle.std.proofs.lemmas.List.{length-set, length_push, length-replicate}
use Rattle.mm_types.specs.declared.slot.Row.{Row}
use Rattle.grace_core.specs.declared.state.GraceState.TheInside.{Inside}
use Rattle.grace_core.specs.Core.{GraceTreeView, pin_at, clearing_at, is_free_row, is_open, numbers_of}
use Rattle.grace_core.specs.Steps.{turned, cleared_by_scan, new_clearing}
use Rattle.grace_core.specs.Events.{after_open, after_root, after_close, after_fill, after_publish, after_scan, after_grace_split, after_grace_join}
use Rattle.grace_core.specs.States.{grace_opening, HasReader}
use Rattle.grace_core.specs.Internal.Kept.{IsGraceKept}
use Rattle.grace_core.proofs.Keeping.{open_facts, root_facts, close_facts, fill_facts, publish_facts, scan_facts, split_facts, join_facts}
use Rattle.grace_core.proofs.Opening.{opening_facts}

pub kept_opening : (readers rows : ℕ) → readers < 2 ^ 31 → 0 < rows → IsGraceKept (record { protocol = grace_opening readers rows })
kept_opening readers rows few some = record {
  facts = opening_facts readers rows some;
  pins = length-replicate {A = ℕ} readers 0 ∙ sym (length-replicate readers new_clearing);
  snapshots = length-replicate {A = Option GraceTreeView} readers None ∙ sym (length-replicate readers new_clearing);
  few = omega (arith, few, length-replicate {A = ℕ} readers 0);
}

pub kept_open : (state : Inside) (reader : ℕ) → IsGraceKept state → is_open (pin_at state.protocol.pins reader) ≡ false
    → IsGraceKept (record { protocol = after_open state.protocol reader })
kept_open state reader kept closed =
    let long = length-set state.protocol.pins reader (turned (pin_at state.protocol.pins reader)) in
    record {
      facts = open_facts state.protocol reader kept.facts closed;
      pins = long ∙ kept.pins;
      snapshots = kept.snapshots;
      few = omega (arith, long, kept.few);
    }

pub kept_root : (state : Inside) (reader : ℕ) → IsGraceKept state → is_open (pin_at state.protocol.pins reader) ≡ true → HasReader state.protocol reader
    → IsGraceKept (record { protocol = after_root state.protocol reader })
kept_root state reader kept odd exists = record {
  facts = root_facts state.protocol reader kept.facts odd exists;
  pins = kept.pins;
  snapshots = length-set state.protocol.snapshots reader (Some state.protocol.writer_state.tree) ∙ kept.snapshots;
  few = kept.few;
}

pub kept_close : (state : Inside) (reader : ℕ) → IsGraceKept state → IsGraceKept (record { protocol = after_close state.protocol reader })
kept_close state reader kept =
    let long = length-set state.protocol.pins reader (turned (pin_at state.protocol.pins reader)) in
    record {
      facts = close_facts state.protocol reader kept.facts;
      pins = long ∙ kept.pins;
      snapshots = length-set state.protocol.snapshots reader None ∙ kept.snapshots;
      few = omega (arith, long, kept.few);
    }

pub kept_fill : (state : Inside) (row word : ℕ) → IsGraceKept state → is_free_row state.protocol.writer_state row ≡ true
    → IsGraceKept (record { protocol = after_fill state.protocol row word })
kept_fill state row word kept free = record {
  facts = fill_facts state.protocol row word kept.facts free;
  pins = kept.pins;
  snapshots = kept.snapshots;
  few = kept.few;
}

pub kept_publish : (state : Inside) (number : ℕ) (rows : List Row) → IsGraceKept state → number ≡ state.protocol.writer_state.tree.number + 1
    → All (λ row. row.0 < length state.protocol.writer_state.words) rows → IsGraceKept (record { protocol = after_publish state.protocol number (numbers_of rows) })
kept_publish state number rows kept next exist = record {
  facts = publish_facts state.protocol number rows kept.facts next exist;
  pins = kept.pins;
  snapshots = kept.snapshots;
  few = kept.few;
}

pub kept_scan : (state : Inside) (reader : ℕ) → IsGraceKept state → IsGraceKept (record { protocol = after_scan state.protocol reader })
kept_scan state reader kept =
    let writer_state = state.protocol.writer_state in
    let long = length-set writer_state.clearings reader (cleared_by_scan writer_state.tree.number (pin_at state.protocol.pins reader) (clearing_at writer_state.clearings reader)) in
    record {
      facts = scan_facts state.protocol reader kept.facts;
      pins = kept.pins ∙ sym long;
      snapshots = kept.snapshots ∙ sym long;
      few = kept.few;
    }

pub kept_split : (state : Inside) → IsGraceKept state → length state.protocol.pins < 2 ^ 31 → IsGraceKept (record { protocol = after_grace_split state.protocol })
kept_split state kept few =
    let pins = length_push state.protocol.pins 0 in
    let snapshots = length_push state.protocol.snapshots None in
    let clearings = length_push state.protocol.writer_state.clearings new_clearing in
    record {
      facts = split_facts state.protocol kept.facts;
      pins = omega (arith, pins, clearings, kept.pins);
      snapshots = omega (arith, snapshots, clearings, kept.snapshots);
      few = omega (arith, pins, few);
    }

pub kept_join : (state : Inside) (reader : ℕ) → IsGraceKept state → is_open (pin_at state.protocol.pins reader) ≡ false
    → IsGraceKept (record { protocol = after_grace_join state.protocol reader })
kept_join state reader kept closed =
    let long = length-set state.protocol.writer_state.clearings reader (record (clearing_at state.protocol.writer_state.clearings reader) { joined = true }) in
    record {
      facts = join_facts state.protocol reader kept.facts closed;
      pins = kept.pins ∙ sym long;
      snapshots = kept.snapshots ∙ sym long;
      few = kept.few;
    }
