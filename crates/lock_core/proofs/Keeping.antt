-- For `LockState::add`, `LockState::begin`, `LockState::end` and others: each event that is not refused keeps the five facts of the lock protocol.
use Rattle.std.proofs.Common.{ℕ, ◌≡◌, ◌≢◌, ◌<◌, ◌≤◌, ◌+◌, ◌-◌, ◌%◌, ◌∙◌, refl, sym, ap, subst, false, cond, nat_eq, List, [], ◌∷◌, ◌++◌, length, set, Option, Some, None, arith, inl, inr, length-append}
use Rattle.std.specs.List.{sum_by}
use Rattle.std.specs.Option.{unwrap_or}
use Rattle.std.proofs.lemmas.Bool.{cases_lt, cond_both, cond-true, cond-false, eqb-false, eq-eqb}
use Rattle.std.proofs.lemmas.Bool.Decides.{eqb_tells}
use Rattle.std.proofs.lemmas.List.{set_past, get_or-set_same, get_or-set_other, length-set}
use Rattle.std.proofs.lemmas.List.Sums.{sum_by-le-sum_by, get_or-le-sum_by}
use Rattle.mm_types.specs.declared.area.Record.{Record}
use Rattle.mm_types.specs.declared.call.Entry.{Entry}
use Rattle.mm_types.specs.declared.config.Config.{Config}
use Rattle.mm_types.specs.Packed.{packed}
use Rattle.area_rules.specs.Steps.{IsLegalJournal}
use Rattle.lock_core.specs.declared.stage.SlotState.{SlotState}
use Rattle.lock_core.specs.declared.stage.Stage.{Stage}
use Rattle.lock_core.specs.declared.stage.Stage.TheVariants.{Out, Holds, Valid, Gone}
use Rattle.lock_core.specs.Core.{LockCore, Reader, slot_at, count_at, reader_at, free_slot, gone_reader, slot_held, is_slot, holds, StartsWith}
use Rattle.lock_core.specs.Rows.{is_marked, attached_weight, Within, Exactly}
use Rattle.lock_core.specs.Facts.{list_after, HoldersFact, StaysValid, LockFacts}
use Rattle.lock_core.specs.Events.{with_reader, stage_after_look, longer, held_slot, after_add, after_look, after_sub, after_begin, after_mark, after_store, after_end, after_lock_split, after_lock_join}
use Rattle.lock_core.proofs.Elements.{each_set, none_passes}
use Rattle.lock_core.proofs.Weighing.{shown_weight, WeighsWithin, shown-set, within_weighs, weighs_within}
use Rattle.lock_core.proofs.Holding.{IsFound, holds-none, holds-some, reader_within, holders_change, holders_slot, holders_push, valid_change, valid_slot, valid_sequence, valid_push, starts_more, starts_all, starts_longer, seen_change, seen_push}

-- add
pub add_keeps : (config : Config) (core : LockCore) (reader slot : ℕ) → LockFacts config core
    → (reader_at core.readers reader).stage ≡ Out → slot < length core.slots → LockFacts config (after_add core reader slot)
add_keeps config core reader slot facts out there =
    let within : reader < length core.readers = reader_within core.readers reader (λ gone. let e = sym out ∙ gone in cc) in
    let same = facts.holders.each_slot in
    record {
      sequence = facts.sequence;
      holders = holders_change core.slots core.counts (set core.counts slot (count_at core.counts slot + 1)) core.readers reader
          (record (reader_at core.readers reader) { stage = Holds slot (slot_at core.slots slot).lock_seq })
          facts.holders within (length-set core.counts slot (count_at core.counts slot + 1)) (counted within)
          (there, refl);
      rows = facts.rows;
      validation = valid_change core.seq core.slots core.readers reader (record (reader_at core.readers reader) { stage = Holds slot (slot_at core.slots slot).lock_seq }) facts.validation tt;
      seen = seen_change core.readers core.journal reader (record (reader_at core.readers reader) { stage = Holds slot (slot_at core.slots slot).lock_seq }) facts.seen (facts.seen reader);
    }
  where
    counted : reader < length core.readers → (place : ℕ)
        → count_at (set core.counts slot (count_at core.counts slot + 1)) place + cond (holds place (reader_at core.readers reader)) 1 0
        ≡ count_at core.counts place + cond (nat_eq slot place) 1 0
    counted within place =
        let nothing = cond-false {A = ℕ} (holds place (reader_at core.readers reader)) 1 0 (holds-none place (reader_at core.readers reader) (ap slot_held out)) in
        elim (eqb_tells slot place) [
          | inl here ↦
              let one = cond-true {A = ℕ} (nat_eq slot place) 1 0 here.0 in
              let more : count_at (set core.counts slot (count_at core.counts slot + 1)) place ≡ count_at core.counts place + 1 =
              subst (λ k. count_at (set core.counts slot (count_at core.counts slot + 1)) k ≡ count_at core.counts k + 1) here.1
              (get_or-set_same core.counts slot (count_at core.counts slot + 1) 0 (omega (arith, there, facts.holders.each_slot))) in
              omega arith
          | inr apart ↦
              let zero = cond-false {A = ℕ} (nat_eq slot place) 1 0 apart.0 in
              let other = get_or-set_other core.counts slot place (count_at core.counts slot + 1) 0 (λ e. apart.1 (sym e)) in
              omega arith
        ]

-- where a reader stands after a look, it holds what it held
pub looked-held : (seq : ℕ) (slots : List SlotState) (stage : Stage) → slot_held (stage_after_look seq slots stage) ≡ slot_held stage
looked-held seq slots Out = refl
looked-held seq slots (Holds slot found) =
    cond_both (nat_eq found seq) (Holds slot found) (Valid slot found (slot_at slots slot).row) (λ (s : Stage). slot_held s ≡ Some (slot, found)) (λ h. refl) (λ h. refl)
looked-held seq slots (Valid slot found row) = refl
looked-held seq slots Gone = refl

-- and it is validated rightly
pub looked-valid : (seq : ℕ) (slots : List SlotState) (stage : Stage) → IsFound slots (slot_held stage) → StaysValid seq slots stage → StaysValid seq slots (stage_after_look seq slots stage)
looked-valid seq slots Out found valid = tt
looked-valid seq slots (Holds slot at) found valid =
    cond_both (nat_eq at seq) (Holds slot at) (Valid slot at (slot_at slots slot).row) (StaysValid seq slots) (λ h. tt)
    (λ h. (λ e. eqb-false at seq h (sym found.1 ∙ e), refl))
looked-valid seq slots (Valid slot at row) found valid = valid
looked-valid seq slots Gone found valid = tt

-- what a reader holds is not nothing
held_somewhere : (stage : Stage) (at : ℕ × ℕ) → slot_held stage ≡ Some at → stage ≡ Gone → ⊥
held_somewhere stage at some gone = let e = sym some ∙ ap slot_held gone in cc

-- the core in which a reader gave a slot back
abbrev given_back : LockCore → ℕ → ℕ → LockCore
given_back core reader slot = record core {
  counts = set core.counts slot (count_at core.counts slot - 1);
  readers = set core.readers reader (record (reader_at core.readers reader) { stage = Out });
}

-- one reader fewer holds the slot
count_falls : (core : LockCore) (reader : ℕ) (at : ℕ × ℕ) → HoldersFact core.slots core.counts core.readers
    → slot_held (reader_at core.readers reader).stage ≡ Some at → reader < length core.readers → at.0 < length core.slots → (place : ℕ)
    → count_at (set core.counts at.0 (count_at core.counts at.0 - 1)) place + cond (holds place (reader_at core.readers reader)) 1 0
    ≡ count_at core.counts place + 0
count_falls core reader at fact some within there place =
    let old = reader_at core.readers reader in
    let is : holds place old ≡ nat_eq at.0 place = holds-some place old at some in
    let n : ℕ = count_at core.counts at.0 - 1 in
    elim (eqb_tells at.0 place) [
      | inl here ↦
          let one = cond-true {A = ℕ} (holds place old) 1 0 (is ∙ here.0) in
          let some_count : 0 < count_at core.counts place =
          omega (arith, one, fact.counted place, get_or-le-sum_by (λ (r : Reader). cond (holds place r) 1 0) core.readers reader gone_reader within) in
          let less : count_at (set core.counts at.0 n) place ≡ count_at core.counts place - 1 =
          subst (λ k. count_at (set core.counts at.0 n) k ≡ count_at core.counts k - 1) here.1
          (get_or-set_same core.counts at.0 n 0 (omega (arith, there, fact.each_slot))) in
          omega arith
      | inr apart ↦
          let none = cond-false {A = ℕ} (holds place old) 1 0 (is ∙ apart.0) in
          let other = get_or-set_other core.counts at.0 place n 0 (λ e. apart.1 (sym e)) in
          omega arith
    ]

-- sub
pub sub_keeps : (config : Config) (core : LockCore) (reader : ℕ) (at : ℕ × ℕ) → LockFacts config core
    → slot_held (reader_at core.readers reader).stage ≡ Some at → LockFacts config (after_sub core reader)
sub_keeps config core reader at facts some =
    let old = reader_at core.readers reader in
    let new : Reader = record old { stage = Out } in
    let slot_is : held_slot core reader ≡ at.0 = ap (λ (o : Option (ℕ × ℕ)). (unwrap_or o (0, 0)).0) some in
    let within : reader < length core.readers = reader_within core.readers reader (held_somewhere old.stage at some) in
    let found : IsFound core.slots (Some at) = subst (λ (o : Option (ℕ × ℕ)). IsFound core.slots o) some (facts.holders.found reader) in
    let back : LockFacts config (given_back core reader at.0) = record {
      sequence = facts.sequence;
      holders = holders_change core.slots core.counts (set core.counts at.0 (count_at core.counts at.0 - 1)) core.readers reader new facts.holders within
          (length-set core.counts at.0 (count_at core.counts at.0 - 1)) (count_falls core reader at facts.holders some within found.0) tt;
      rows = facts.rows;
      validation = valid_change core.seq core.slots core.readers reader new facts.validation tt;
      seen = seen_change core.readers core.journal reader new facts.seen (facts.seen reader);
    } in
    subst (λ slot. LockFacts config (given_back core reader slot)) (sym slot_is) back

-- rows in slots that are not marked weigh no more than all attached rows
within_exact : (seq : ℕ) (slots : List SlotState) (areas : List Record) → Exactly slots areas → Within seq slots areas
within_exact seq slots areas exact = weighs_within seq slots areas
    (λ weight. omega (arith, exact weight, sum_by-le-sum_by (shown_weight weight seq) (attached_weight weight) slots (less weight)))
  where
    less : (weight : List ℕ → ℕ) (slot : SlotState) → shown_weight weight seq slot ≤ attached_weight weight slot
    less weight slot = cond_both (is_marked seq slot) 0 (attached_weight weight slot) (λ n. n ≤ attached_weight weight slot) (λ h. omega arith) (λ h. omega arith)

-- begin
pub begin_keeps : (config : Config) (core : LockCore) → LockFacts config core → core.seq % 2 ≡ 0 → LockFacts config (after_begin core)
begin_keeps config core facts even = record {
  sequence = record {
    counts = omega (arith, even, facts.sequence.counts);
    below = λ slot. omega (arith, facts.sequence.below slot);
    odd = facts.sequence.odd;
  };
  holders = facts.holders;
  rows = record {
    legal = facts.rows.legal;
    wide = facts.rows.wide;
    within = within_exact (core.seq + 1) core.slots (list_after config core.journal) (facts.rows.exact even);
    exact = λ odd. absurd (omega (arith, even, odd));
  };
  validation = valid_sequence core.seq (core.seq + 1) core.slots core.readers facts.validation (λ slot. omega (arith, facts.sequence.below slot));
  seen = facts.seen;
}

-- what no reader holds is held by none
held_by_none : (core : LockCore) (slot : ℕ) → HoldersFact core.slots core.counts core.readers → count_at core.counts slot ≡ 0
    → (reader : ℕ) → holds slot (reader_at core.readers reader) ≡ false
held_by_none core slot fact none reader = none_passes (holds slot) core.readers reader gone_reader refl (sym (fact.counted slot) ∙ none)

-- the rows that are not marked weigh no more once a slot that changes is marked
weighs_marked : (seq : ℕ) (slots : List SlotState) (areas : List Record) (slot : ℕ) (changed : SlotState) → changed.lock_seq ≡ seq
    → WeighsWithin seq slots areas → WeighsWithin seq (set slots slot changed) areas
weighs_marked seq slots areas slot changed marked within weight = elim (cases_lt slot (length slots)) [
  | inl there ↦
      let none = cond-true {A = ℕ} (is_marked seq changed) 0 (attached_weight weight changed) (eq-eqb changed.lock_seq seq marked) in
      omega (arith, none, within weight, shown-set weight seq slots slot changed there)
  | inr past ↦ subst (λ (l : List SlotState). sum_by (shown_weight weight seq) l ≤ sum_by (λ area. weight (packed area)) areas)
      (sym (set_past slots slot changed past)) (within weight)
]

-- so they are areas of the list still
within_marked : (seq : ℕ) (slots : List SlotState) (areas : List Record) (slot : ℕ) (changed : SlotState) → changed.lock_seq ≡ seq
    → Within seq slots areas → Within seq (set slots slot changed) areas
within_marked seq slots areas slot changed marked within = weighs_within seq (set slots slot changed) areas
    (weighs_marked seq slots areas slot changed marked (within_weighs seq slots areas within))

-- mark
pub mark_keeps : (config : Config) (core : LockCore) (slot : ℕ) → LockFacts config core → core.seq % 2 ≡ 1 → count_at core.counts slot ≡ 0
    → LockFacts config (after_mark core slot)
mark_keeps config core slot facts is_open none =
    let new : SlotState = record (slot_at core.slots slot) { lock_seq = core.seq } in
    let unheld = held_by_none core slot facts.holders none in
    record {
      sequence = record {
        counts = facts.sequence.counts;
        below = each_set (λ (s : SlotState). s.lock_seq ≤ core.seq) core.slots slot new free_slot facts.sequence.below (omega arith);
        odd = each_set (λ (s : SlotState). 0 < s.lock_seq → s.lock_seq % 2 ≡ 1) core.slots slot new free_slot facts.sequence.odd (λ some. is_open);
      };
      holders = holders_slot core.slots core.counts core.readers slot new facts.holders (λ reader held. let e = sym (unheld reader) ∙ held in absurd (cc));
      rows = record {
        legal = facts.rows.legal;
        wide = each_set (λ (s : SlotState). length s.row ≡ 4) core.slots slot new free_slot facts.rows.wide (facts.rows.wide slot);
        within = within_marked core.seq core.slots (list_after config core.journal) slot new refl facts.rows.within;
        exact = λ even. absurd (omega (arith, even, is_open));
      };
      validation = valid_slot core.seq core.slots core.readers slot new facts.validation
          (λ reader found row is.
          let e = sym (unheld reader) ∙ holds-some slot (reader_at core.readers reader) (slot, found) (ap slot_held is) ∙ eq-eqb slot slot refl in cc);
      seen = facts.seen;
    }

-- store
pub store_keeps : (config : Config) (core : LockCore) (slot field word : ℕ) → LockFacts config core → core.seq % 2 ≡ 1
    → (slot_at core.slots slot).lock_seq ≡ core.seq → LockFacts config (after_store core slot field word)
store_keeps config core slot field word facts is_open marked =
    let new : SlotState = record (slot_at core.slots slot) { row = set (slot_at core.slots slot).row field word } in
    record {
      sequence = record {
        counts = facts.sequence.counts;
        below = each_set (λ (s : SlotState). s.lock_seq ≤ core.seq) core.slots slot new free_slot facts.sequence.below (facts.sequence.below slot);
        odd = each_set (λ (s : SlotState). 0 < s.lock_seq → s.lock_seq % 2 ≡ 1) core.slots slot new free_slot facts.sequence.odd (facts.sequence.odd slot);
      };
      holders = holders_slot core.slots core.counts core.readers slot new facts.holders (λ reader held. refl);
      rows = record {
        legal = facts.rows.legal;
        wide = each_set (λ (s : SlotState). length s.row ≡ 4) core.slots slot new free_slot facts.rows.wide
            (length-set (slot_at core.slots slot).row field word ∙ facts.rows.wide slot);
        within = within_marked core.seq core.slots (list_after config core.journal) slot new marked facts.rows.within;
        exact = λ even. absurd (omega (arith, even, is_open));
      };
      validation = valid_slot core.seq core.slots core.readers slot new facts.validation
          (λ reader found row is.
          let valid : StaysValid core.seq core.slots (Valid slot found row) = subst (StaysValid core.seq core.slots) is (facts.validation reader) in
          valid.0 marked);
      seen = facts.seen;
    }

-- end
pub end_keeps : (config : Config) (core : LockCore) (entry : Entry) → LockFacts config core → core.seq % 2 ≡ 1
    → IsLegalJournal config (core.journal ++ entry ∷ []) → Exactly core.slots (list_after config (core.journal ++ entry ∷ []))
    → LockFacts config (after_end core entry)
end_keeps config core entry facts is_open legal exact = record {
  sequence = record {
    counts = omega (arith, is_open, facts.sequence.counts, length-append core.journal (entry ∷ []));
    below = λ slot. omega (arith, facts.sequence.below slot);
    odd = facts.sequence.odd;
  };
  holders = facts.holders;
  rows = record {
    legal = legal;
    wide = facts.rows.wide;
    within = within_exact (core.seq + 1) core.slots (list_after config (core.journal ++ entry ∷ [])) exact;
    exact = λ even. exact;
  };
  validation = valid_sequence core.seq (core.seq + 1) core.slots core.readers facts.validation (λ slot. omega (arith, facts.sequence.below slot));
  seen = λ reader. starts_more core.journal (reader_at core.readers reader).seen entry (facts.seen reader);
}

-- split
pub split_keeps : (config : Config) (core : LockCore) (reader : ℕ) → LockFacts config core → LockFacts config (after_lock_split core reader)
split_keeps config core reader facts =
    let new : Reader = record { stage = Out; seen = (reader_at core.readers reader).seen } in
    record {
      sequence = facts.sequence;
      holders = holders_push core.slots core.counts core.readers new facts.holders refl;
      rows = facts.rows;
      validation = valid_push core.seq core.slots core.readers new facts.validation tt;
      seen = seen_push core.readers core.journal new facts.seen (facts.seen reader);
    }

-- a reader that holds what another held takes its place
same_hold : (config : Config) (core : LockCore) (reader : ℕ) (new : Reader) → LockFacts config core
    → slot_held new.stage ≡ slot_held (reader_at core.readers reader).stage → StaysValid core.seq core.slots new.stage → StartsWith core.journal new.seen
    → LockFacts config (with_reader core reader new)
same_hold config core reader new facts same valid starts = elim (cases_lt reader (length core.readers)) [
  | inl within ↦ record {
    sequence = facts.sequence;
    holders = holders_change core.slots core.counts core.counts core.readers reader new facts.holders within refl
        (λ slot. ap (λ at. count_at core.counts slot + cond (is_slot slot at) 1 0) (sym same))
        (subst (λ (at : Option (ℕ × ℕ)). IsFound core.slots at) (sym same) (facts.holders.found reader));
    rows = facts.rows;
    validation = valid_change core.seq core.slots core.readers reader new facts.validation valid;
    seen = seen_change core.readers core.journal reader new facts.seen starts;
  }
  | inr past ↦ subst (λ (readers : List Reader). LockFacts config (record core { readers = readers })) (sym (set_past core.readers reader new past)) facts
]

-- join
pub join_keeps : (config : Config) (core : LockCore) (first second : ℕ) → LockFacts config core → slot_held (reader_at core.readers second).stage ≡ None
    → first ≢ second → LockFacts config (after_lock_join core first second)
join_keeps config core first second facts free apart =
    let one = reader_at core.readers first in
    let new : Reader = record one { seen = longer one.seen (reader_at core.readers second).seen } in
    let middle : LockFacts config (with_reader core first new) = same_hold config core first new facts refl (facts.validation first)
    (starts_longer core.journal one.seen (reader_at core.readers second).seen (facts.seen first) (facts.seen second)) in
    let unchanged = get_or-set_other core.readers first second new gone_reader (λ e. apart (sym e)) in
    same_hold config (with_reader core first new) second gone_reader middle (sym (ap (λ (r : Reader). slot_held r.stage) unchanged ∙ free)) tt refl

-- look
pub look_keeps : (config : Config) (core : LockCore) (reader : ℕ) → LockFacts config core → LockFacts config (after_look core reader)
look_keeps config core reader facts =
    let old = reader_at core.readers reader in
    same_hold config core reader (record { stage = stage_after_look core.seq core.slots old.stage; seen = core.journal }) facts
    (looked-held core.seq core.slots old.stage)
    (looked-valid core.seq core.slots old.stage (facts.holders.found reader) (facts.validation reader))
    (starts_all core.journal)
