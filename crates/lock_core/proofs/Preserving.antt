-- For `LockState::add`, `LockState::begin`, `LockState::join` and others: the events on a state with its configuration, as its fields keep it.
use Rattle.std.proofs.Common.{ℕ, ◌≡◌, ◌≢◌, ◌<◌, ◌≤◌, ◌%◌, ◌∙◌, refl, sym, ap, true, false, nat_eq, length, Option, Some, None, arith}
use Rattle.std.specs.Option.{is_some}
use Rattle.std.proofs.lemmas.Bool.{eqb-true, eqb-false, leb-false}
use Rattle.std.proofs.lemmas.List.{length-set}
use Rattle.area_rules.specs.Steps.{after}
use Rattle.lock_core.specs.declared.state.LockState.TheInside.{Inside}
use Rattle.lock_core.specs.declared.stage.Stage.{Stage}
use Rattle.lock_core.specs.declared.stage.Stage.TheVariants.{Out, Holds, Valid, Gone}
use Rattle.lock_core.specs.Core.{LockCore, slot_at, count_at, reader_at, slot_held}
use Rattle.lock_core.specs.Facts.{LockFacts}
use Rattle.lock_core.specs.Events.{after_add, after_look, after_sub, after_begin, after_mark, after_store, after_lock_split, after_lock_join}
use Rattle.lock_core.specs.Refusals.{is_gone, lacks_reader, lacks_slot}
use Rattle.lock_core.specs.Kept.{IsLockKept}
use Rattle.lock_core.proofs.Keeping.{add_keeps, look_keeps, sub_keeps, begin_keeps, mark_keeps, store_keeps, split_keeps, join_keeps}

-- a state keeps its fields where the five facts hold still, the slots are as many, and the journal is the same
kept_with : (state : Inside) (core : LockCore) → IsLockKept state → LockFacts state.config core → length core.slots ≡ length state.protocol.slots
    → core.journal ≡ state.protocol.journal → IsLockKept (record state { protocol = core })
kept_with state core kept facts slots journal = record {
  valid = kept.valid;
  facts = facts;
  few = omega (arith, kept.few, slots);
  space = kept.space ∙ ap (after state.config) (sym journal);
}

-- a reader that there is, and that holds nothing
stage_out : (stage : Stage) → is_gone stage ≡ false → is_some (slot_held stage) ≡ false → stage ≡ Out
stage_out Out there nothing = refl
stage_out (Holds slot found) there nothing = absurd (cc)
stage_out (Valid slot found row) there nothing = absurd (cc)
stage_out Gone there nothing = absurd (cc)

nothing_held : (at : Option (ℕ × ℕ)) → is_some at ≡ false → at ≡ None
nothing_held None none = refl
nothing_held (Some at) none = absurd (cc)

pub kept_add : (state : Inside) (reader slot : ℕ) → IsLockKept state → lacks_reader state.protocol reader ≡ false → lacks_slot state.protocol slot ≡ false
    → is_some (slot_held (reader_at state.protocol.readers reader).stage) ≡ false
    → IsLockKept (record state { protocol = after_add state.protocol reader slot })
kept_add state reader slot kept there slot_there nothing =
    kept_with state (after_add state.protocol reader slot) kept
    (add_keeps state.config state.protocol reader slot kept.facts
    (stage_out (reader_at state.protocol.readers reader).stage there nothing) (leb-false (length state.protocol.slots) slot slot_there))
    refl refl

pub kept_look : (state : Inside) (reader : ℕ) → IsLockKept state → IsLockKept (record state { protocol = after_look state.protocol reader })
kept_look state reader kept =
    kept_with state (after_look state.protocol reader) kept (look_keeps state.config state.protocol reader kept.facts) refl refl

pub kept_sub : (state : Inside) (reader : ℕ) (at : ℕ × ℕ) → IsLockKept state → slot_held (reader_at state.protocol.readers reader).stage ≡ Some at
    → IsLockKept (record state { protocol = after_sub state.protocol reader })
kept_sub state reader at kept some =
    kept_with state (after_sub state.protocol reader) kept (sub_keeps state.config state.protocol reader at kept.facts some) refl refl

pub kept_begin : (state : Inside) → IsLockKept state → nat_eq (state.protocol.seq % 2) 1 ≡ false → IsLockKept (record state { protocol = after_begin state.protocol })
kept_begin state kept closed =
    let odd = eqb-false (state.protocol.seq % 2) 1 closed in
    kept_with state (after_begin state.protocol) kept (begin_keeps state.config state.protocol kept.facts (omega (arith, odd))) refl refl

pub kept_mark : (state : Inside) (slot : ℕ) → IsLockKept state → nat_eq (state.protocol.seq % 2) 1 ≡ true → count_at state.protocol.counts slot ≤ 0
    → IsLockKept (record state { protocol = after_mark state.protocol slot })
kept_mark state slot kept is_open none =
    kept_with state (after_mark state.protocol slot) kept
    (mark_keeps state.config state.protocol slot kept.facts (eqb-true (state.protocol.seq % 2) 1 is_open) (omega (arith, none)))
    (length-set state.protocol.slots slot (record (slot_at state.protocol.slots slot) { lock_seq = state.protocol.seq })) refl

pub kept_store : (state : Inside) (slot field word : ℕ) → IsLockKept state → nat_eq (state.protocol.seq % 2) 1 ≡ true
    → (slot_at state.protocol.slots slot).lock_seq ≡ state.protocol.seq
    → IsLockKept (record state { protocol = after_store state.protocol slot field word })
kept_store state slot field word kept is_open marked =
    kept_with state (after_store state.protocol slot field word) kept
    (store_keeps state.config state.protocol slot field word kept.facts (eqb-true (state.protocol.seq % 2) 1 is_open) marked)
    (length-set state.protocol.slots slot _) refl

pub kept_split : (state : Inside) (reader : ℕ) → IsLockKept state → IsLockKept (record state { protocol = after_lock_split state.protocol reader })
kept_split state reader kept =
    kept_with state (after_lock_split state.protocol reader) kept (split_keeps state.config state.protocol reader kept.facts) refl refl

pub kept_join : (state : Inside) (first second : ℕ) → IsLockKept state → is_some (slot_held (reader_at state.protocol.readers second).stage) ≡ false
    → first ≢ second → IsLockKept (record state { protocol = after_lock_join state.protocol first second })
kept_join state first second kept nothing apart =
    kept_with state (after_lock_join state.protocol first second) kept
    (join_keeps state.config state.protocol first second kept.facts (nothing_held (slot_held (reader_at state.protocol.readers second).stage) nothing) apart) refl refl
