-- For `LockState::add`, `LockState::begin`, `LockState::end` and others: readers: what the events that change a reader, a count or a slot leave so of the readers.
use Rattle.std.proofs.Common.{ℕ, ◌≡◌, ◌<◌, ◌+◌, ◌∙◌, refl, sym, ap, subst, true, false, cond, nat_eq, nat_lt, List, [], ◌∷◌, ◌++◌, length, set, Option, Some, None, arith, inl, inr}
use Rattle.std.specs.Option.{IfSome}
use Rattle.std.proofs.lemmas.Bool.{cases_lt, cond_both, cond-false}
use Rattle.std.proofs.lemmas.Bool.Decides.{eqb_tells}
use Rattle.std.proofs.lemmas.List.{get_or_past, get_or-set_same, get_or-set_other, length-set, take-append-le, length-take, take_all}
use Rattle.std.proofs.lemmas.List.Sums.{sum_by_push}
use Rattle.mm_types.specs.declared.call.Entry.{Entry}
use Rattle.lock_core.specs.declared.stage.SlotState.{SlotState}
use Rattle.lock_core.specs.declared.stage.Stage.{Stage}
use Rattle.lock_core.specs.declared.stage.Stage.TheVariants.{Out, Holds, Valid, Gone}
use Rattle.lock_core.specs.Core.{Reader, slot_at, count_at, reader_at, free_slot, gone_reader, slot_held, is_slot, holds, StartsWith}
use Rattle.lock_core.specs.Facts.{HoldersFact, StaysValid, ValidationFact, SeenFact}
use Rattle.lock_core.specs.Events.{longer}
use Rattle.lock_core.proofs.Elements.{each_set, each_push, count_by-set}

-- what a reader holds is a slot with the lock sequence that its add found
abbrev pub IsFound : List SlotState → Option (ℕ × ℕ) → Type 0
IsFound slots at = IfSome at (λ at. (at.0 < length slots) × ((slot_at slots at.0).lock_seq ≡ at.1))

-- a reader that holds nothing is counted in no slot
pub holds-none : (slot : ℕ) (reader : Reader) → slot_held reader.stage ≡ None → holds slot reader ≡ false
holds-none slot reader none = ap (is_slot slot) none

pub holds-some : (slot : ℕ) (reader : Reader) (at : ℕ × ℕ) → slot_held reader.stage ≡ Some at → holds slot reader ≡ nat_eq at.0 slot
holds-some slot reader at some = ap (is_slot slot) some

-- a reader that holds a slot is one of the readers
pub reader_within : (readers : List Reader) (reader : ℕ) → ((reader_at readers reader).stage ≡ Gone → ⊥) → reader < length readers
reader_within readers reader there = elim (cases_lt reader (length readers)) [
  | inl within ↦ within
  | inr past ↦ absurd (there (ap (λ (r : Reader). r.stage) (get_or_past readers reader gone_reader past)))
]

-- a reader changes, and the counts with it
pub holders_change : (slots : List SlotState) (counts after : List ℕ) (readers : List Reader) (reader : ℕ) (changed : Reader)
    → HoldersFact slots counts readers → reader < length readers → length after ≡ length counts
    → ((slot : ℕ) → count_at after slot + cond (holds slot (reader_at readers reader)) 1 0 ≡ count_at counts slot + cond (holds slot changed) 1 0)
    → IsFound slots (slot_held changed.stage)
    → HoldersFact slots after (set readers reader changed)
holders_change slots counts after readers reader changed fact within same moved found = record {
  each_slot = same ∙ fact.each_slot;
  counted = λ slot.
      let before = fact.counted slot in
      let change = moved slot in
      let recount = count_by-set (holds slot) readers reader changed gone_reader within in
      omega arith;
  found = each_set (λ (r : Reader). IsFound slots (slot_held r.stage)) readers reader changed gone_reader fact.found found;
}

-- a slot changes that no reader holds, or whose lock sequence stays
pub holders_slot : (slots : List SlotState) (counts : List ℕ) (readers : List Reader) (slot : ℕ) (changed : SlotState)
    → HoldersFact slots counts readers
    → ((reader : ℕ) → holds slot (reader_at readers reader) ≡ true → changed.lock_seq ≡ (slot_at slots slot).lock_seq)
    → HoldersFact (set slots slot changed) counts readers
holders_slot slots counts readers slot changed fact keeps = record {
  each_slot = fact.each_slot ∙ sym (length-set slots slot changed);
  counted = fact.counted;
  found = λ reader. at reader (slot_held (reader_at readers reader).stage) refl (fact.found reader) (keeps reader);
}
  where
    at : (reader : ℕ) (place : Option (ℕ × ℕ)) → slot_held (reader_at readers reader).stage ≡ place → IsFound slots place
        → (is_slot slot place ≡ true → changed.lock_seq ≡ (slot_at slots slot).lock_seq)
        → IsFound (set slots slot changed) place
    at reader None is found keeps = tt
    at reader (Some place) is found keeps = (
      omega (arith, found.0, length-set slots slot changed),
      elim (eqb_tells place.0 slot) [
        | inl here ↦
            ap (λ k. (slot_at (set slots slot changed) k).lock_seq) here.1
            ∙ ap (λ (s : SlotState). s.lock_seq) (get_or-set_same slots slot changed free_slot (omega (arith, found.0, here.1)))
            ∙ keeps here.0 ∙ ap (λ k. (slot_at slots k).lock_seq) (sym here.1) ∙ found.1
        | inr apart ↦ ap (λ (s : SlotState). s.lock_seq) (get_or-set_other slots slot place.0 changed free_slot apart.1) ∙ found.1
      ],
    )

-- a new reader, which holds nothing
pub holders_push : (slots : List SlotState) (counts : List ℕ) (readers : List Reader) (new : Reader)
    → HoldersFact slots counts readers → slot_held new.stage ≡ None → HoldersFact slots counts (readers ++ new ∷ [])
holders_push slots counts readers new fact none = record {
  each_slot = fact.each_slot;
  counted = λ slot.
      let before = fact.counted slot in
      let nothing = cond-false {A = ℕ} (holds slot new) 1 0 (holds-none slot new none) in
      let more = sum_by_push (λ (r : Reader). cond (holds slot r) 1 0) readers new in
      omega arith;
  found = each_push (λ (r : Reader). IsFound slots (slot_held r.stage)) readers new gone_reader fact.found
      (let P : Option (ℕ × ℕ) → Type 0 = IsFound slots in subst P (sym none) tt);
}

-- a reader whose stage stays valid takes the place of another
pub valid_change : (seq : ℕ) (slots : List SlotState) (readers : List Reader) (reader : ℕ) (changed : Reader)
    → ValidationFact seq slots readers → StaysValid seq slots changed.stage → ValidationFact seq slots (set readers reader changed)
valid_change seq slots readers reader changed fact valid =
    each_set (λ (r : Reader). StaysValid seq slots r.stage) readers reader changed gone_reader fact valid

-- a slot changes that no validated reader holds
pub valid_slot : (seq : ℕ) (slots : List SlotState) (readers : List Reader) (slot : ℕ) (changed : SlotState)
    → ValidationFact seq slots readers
    → ((reader found : ℕ) (row : List ℕ) → (reader_at readers reader).stage ≡ Valid slot found row → ⊥)
    → ValidationFact seq (set slots slot changed) readers
valid_slot seq slots readers slot changed fact none reader = at (reader_at readers reader).stage refl (fact reader)
  where
    at : (stage : Stage) → (reader_at readers reader).stage ≡ stage → StaysValid seq slots stage → StaysValid seq (set slots slot changed) stage
    at Out is valid = tt
    at (Holds place found) is valid = tt
    at Gone is valid = tt
    at (Valid place found row) is valid = elim (eqb_tells place slot) [
      | inl here ↦ absurd (none reader found row (is ∙ ap (λ k. Valid k found row) here.1))
      | inr apart ↦
          let same = get_or-set_other slots slot place changed free_slot apart.1 in
          (λ e. valid.0 (sym (ap (λ (s : SlotState). s.lock_seq) same) ∙ e), ap (λ (s : SlotState). s.row) same ∙ valid.1)
    ]

-- the sequence goes on, past each lock sequence
pub valid_sequence : (seq next : ℕ) (slots : List SlotState) (readers : List Reader)
    → ValidationFact seq slots readers → ((slot : ℕ) → (slot_at slots slot).lock_seq < next) → ValidationFact next slots readers
valid_sequence seq next slots readers fact below reader = at (reader_at readers reader).stage (fact reader)
  where
    at : (stage : Stage) → StaysValid seq slots stage → StaysValid next slots stage
    at Out valid = tt
    at (Holds place found) valid = tt
    at Gone valid = tt
    at (Valid place found row) valid = (λ e. absurd (omega (arith, e, below place)), valid.1)

pub valid_push : (seq : ℕ) (slots : List SlotState) (readers : List Reader) (new : Reader)
    → ValidationFact seq slots readers → StaysValid seq slots new.stage → ValidationFact seq slots (readers ++ new ∷ [])
valid_push seq slots readers new fact valid = each_push (λ (r : Reader). StaysValid seq slots r.stage) readers new gone_reader fact valid

-- what a reader has seen is a beginning of a longer journal too
pub starts_more : (journal seen : List Entry) (entry : Entry) → StartsWith journal seen → StartsWith (journal ++ entry ∷ []) seen
starts_more journal seen entry starts =
    take-append-le (length seen) journal (entry ∷ []) (omega (arith, length-take (length seen) journal, ap (λ (l : List Entry). length l) starts)) ∙ starts

pub starts_all : (journal : List Entry) → StartsWith journal journal
starts_all journal = take_all (length journal) journal (omega arith)

pub starts_longer : (journal first second : List Entry) → StartsWith journal first → StartsWith journal second → StartsWith journal (longer first second)
starts_longer journal first second one two = cond_both (nat_lt (length first) (length second)) second first (StartsWith journal) (λ h. two) (λ h. one)

pub seen_change : (readers : List Reader) (journal : List Entry) (reader : ℕ) (changed : Reader)
    → SeenFact readers journal → StartsWith journal changed.seen → SeenFact (set readers reader changed) journal
seen_change readers journal reader changed fact starts = each_set (λ (r : Reader). StartsWith journal r.seen) readers reader changed gone_reader fact starts

pub seen_push : (readers : List Reader) (journal : List Entry) (new : Reader)
    → SeenFact readers journal → StartsWith journal new.seen → SeenFact (readers ++ new ∷ []) journal
seen_push readers journal new fact starts = each_push (λ (r : Reader). StartsWith journal r.seen) readers new gone_reader fact starts
