-- For the small address space of the tests: what the rows show, and what a loop of tries leaves.
use Rattle.std.proofs.Common.{ℕ, zero, suc, ◌≡◌, ◌<◌, ◌∙◌, inl, inr, refl, sym, ap, subst, true, List, [], ◌∷◌, ◌++◌, length, set, replicate, arith}
use Rattle.std.specs.List.{sum_by}
use Rattle.std.proofs.lemmas.Bool.{cond-true, cond-false}
use Rattle.std.proofs.lemmas.List.{length-set, get_or-set_other}
use Rattle.std.proofs.lemmas.List.Sums.{sum_by-cons}
use Rattle.mm_types.specs.declared.area.Record.{Record}
use Rattle.mm_types.specs.declared.call.Call.{Call}
use Rattle.mm_types.specs.declared.call.Counters.{Counters}
use Rattle.mm_types.specs.declared.call.Entry.{Entry}
use Rattle.mm_types.specs.declared.config.Config.{Config}
use Rattle.mm_types.specs.Config.{counters_at_opening}
use Rattle.mm_types.specs.Packed.{packed}
use Rattle.area_rules.specs.Tables.{space_of}
use Rattle.area_rules.specs.Steps.{step, opening, after}
use Rattle.area_rules.specs.Tables.{AddressSpace, Outcome}
use Rattle.area_rules.proofs.Journals.{after-nil, after-push}
use Rattle.lock_core.specs.declared.stage.SlotState.{SlotState}
use Rattle.lock_core.specs.Facts.{list_after}
use Rattle.lock_core.specs.Core.{slot_at, free_slot}
use Rattle.lock_core.specs.Rows.{is_detached, attached_weight, Exactly}
use Rattle.vma_lock.specs.declared.view.LockWriterState.{LockWriterState}
use Rattle.vma_lock.specs.declared.view.View.{View}
use Rattle.vma_lock.specs.Views.{begin_at, mark_at, try_at, write_at, lent_at, opened_lock_view, slot_count}
use Rattle.fault_path.specs.Internal.Small.{IsBetweenCalls, AreOthersDetached, ShowsOneArea, MarksSlot}

-- free slots weigh nothing
free_weigh : (weight : List ℕ → ℕ) (slots : List SlotState) → ((slot : ℕ) → is_detached (slot_at slots slot).row ≡ true) → sum_by (attached_weight weight) slots ≡ 0
free_weigh weight [] free = refl
free_weigh weight (slot ∷ slots) free =
    let first = cond-true {A = ℕ} (is_detached slot.row) 0 (weight slot.row) (free 0) in
    omega (arith, first, sum_by-cons (attached_weight weight) slot slots, free_weigh weight slots (λ k. free (suc k)))

-- the slots weigh what the first weighs
first_weighs : (weight : List ℕ → ℕ) (slots : List SlotState) (changed : SlotState) → AreOthersDetached slots → 0 < length slots
    → sum_by (attached_weight weight) (set slots 0 changed) ≡ attached_weight weight changed
first_weighs weight [] changed free some_slot = absurd (omega arith)
first_weighs weight (slot ∷ slots) changed free some_slot =
    omega (arith, sum_by-cons (attached_weight weight) changed slots, free_weigh weight slots (λ k. free (suc k) (λ e. omega arith)))

-- where only the first slot may have a row, and it shows the list, the rows are exactly the list
pub shows_exactly : (slots : List SlotState) (list : List Record) (changed : SlotState) → AreOthersDetached slots → 0 < length slots → ShowsOneArea list changed.row
    → Exactly (set slots 0 changed) list
shows_exactly slots list changed free some_slot (inl none_shown) weight =
    first_weighs weight slots changed free some_slot
    ∙ cond-true {A = ℕ} (is_detached changed.row) 0 (weight changed.row) none_shown.1
    ∙ sym (ap (λ (l : List Record). sum_by (λ area. weight (packed area)) l) none_shown.0)
shows_exactly slots list changed free some_slot (inr one_shown) weight =
    let sum : sum_by (λ area. weight (packed area)) (one_shown.0 ∷ []) ≡ weight (packed one_shown.0) =
    (let e = sum_by-cons (λ (area : Record). weight (packed area)) one_shown.0 [] in omega (arith, e)) in
    first_weighs weight slots changed free some_slot
    ∙ cond-false {A = ℕ} (is_detached changed.row) 0 (weight changed.row) one_shown.3
    ∙ ap weight (sym one_shown.2) ∙ sym sum
    ∙ sym (ap (λ (l : List Record). sum_by (λ area. weight (packed area)) l) one_shown.1)

-- another row in the first slot leaves the others free
pub still_free : (slots : List SlotState) (changed : SlotState) → AreOthersDetached slots → AreOthersDetached (set slots 0 changed)
still_free slots changed free slot apart =
    ap (λ (s : SlotState). is_detached s.row) (get_or-set_other slots 0 slot changed free_slot apart) ∙ free slot apart

-- the rows after a whole call on the first slot
pub enters_exactly : (slots : List SlotState) (list : List Record) (before marked written : LockWriterState) (row : List ℕ) → AreOthersDetached slots → 0 < length slots → ShowsOneArea list row
    → before.slots ≡ slots
    → marked ≡ record before { slots = set before.slots 0 (record (slot_at before.slots 0) { lock_seq = before.seq }) }
    → written ≡ record marked { slots = set marked.slots 0 (record (slot_at marked.slots 0) { row = row }) }
    → Exactly written.slots list
enters_exactly slots list before marked written row free some_slot shows same mark write =
    let first : SlotState = record (slot_at before.slots 0) { lock_seq = before.seq } in
    let between : AreOthersDetached before.slots = subst AreOthersDetached (sym same) free in
    let marked_slots : marked.slots ≡ set before.slots 0 first = ap (λ (d : LockWriterState). d.slots) mark in
    let marked_free : AreOthersDetached marked.slots = subst AreOthersDetached (sym marked_slots) (still_free before.slots first between) in
    let many : 0 < length marked.slots =
    omega (arith, some_slot, ap (λ (l : List SlotState). length l) marked_slots, length-set before.slots 0 first, ap (λ (l : List SlotState). length l) same) in
    subst (λ (l : List SlotState). Exactly l list) (sym (ap (λ (d : LockWriterState). d.slots) write))
    (shows_exactly marked.slots list (record (slot_at marked.slots 0) { row = row }) marked_free many shows)

-- the list after one more call
pub list_more : (config : Config) (journal : List Entry) (entry : Entry) (space : AddressSpace) (list : List Record) (counters : Counters)
    → after config journal ≡ space → (step config space entry.call).space ≡ space_of list counters
    → after config (journal ++ entry ∷ []) ≡ space_of list counters
list_more config journal entry space list counters now stepped =
    after-push config journal entry ∙ ap (λ s. (step config s entry.call).space) now ∙ stepped

-- what a whole call on the first slot owes at its end
pub enter_owes : (first lent begun marked written seat : View) (entry : Entry) (row : List ℕ) → lent ≡ lent_at first seat → begun ≡ begin_at lent
    → MarksSlot (mark_at begun 0 0) marked → written ≡ write_at marked 0 row → AreOthersDetached first.writer_state.slots → 0 < length first.writer_state.slots
    → ShowsOneArea (list_after first.config (first.seen ++ entry ∷ [])) row
    → Exactly written.writer_state.slots (list_after written.config (written.seen ++ entry ∷ []))
enter_owes first lent begun marked written seat entry row lend begin mark write free some_slot shows =
    let slots : begun.writer_state.slots ≡ first.writer_state.slots = ap (λ (v : View). v.writer_state.slots) begin ∙ ap (λ (v : View). v.writer_state.slots) lend in
    let config : written.config ≡ first.config =
    ap (λ (v : View). v.config) write ∙ mark.config ∙ ap (λ (v : View). v.config) begin ∙ ap (λ (v : View). v.config) lend in
    let seen : written.seen ≡ first.seen =
    ap (λ (v : View). v.seen) write ∙ mark.seen ∙ ap (λ (v : View). v.seen) begin ∙ ap (λ (v : View). v.seen) lend in
    subst (λ c. Exactly written.writer_state.slots (list_after c (written.seen ++ entry ∷ []))) (sym config)
    (subst (λ (j : List Entry). Exactly written.writer_state.slots (list_after first.config (j ++ entry ∷ []))) (sym seen)
    (enters_exactly first.writer_state.slots (list_after first.config (first.seen ++ entry ∷ [])) begun.writer_state marked.writer_state written.writer_state row
    free some_slot shows slots mark.writer_state (ap (λ (v : View). v.writer_state) write)))

-- the space after a call that the model made
pub small_after : (config : Config) (view : View) (entry : Entry) (list next : List Record) (counters more : Counters) (outcome : Outcome) → IsBetweenCalls view list counters
    → config ≡ view.config → outcome.space ≡ space_of next more → outcome ≡ step config (space_of list counters) entry.call
    → after view.config (view.seen ++ entry ∷ []) ≡ space_of next more
small_after config view entry list next counters more outcome small same space is =
    list_more view.config view.seen entry (space_of list counters) next more small.space
    (ap (λ c. (step c (space_of list counters) entry.call).space) (sym same) ∙ sym (ap (λ (o : Outcome). o.space) is) ∙ space)

-- a new table is that of a space with no area
pub opened_small : (config : Config) (readers : ℕ) → IsBetweenCalls (opened_lock_view config readers) [] (counters_at_opening config)
unfolding opening
opened_small config readers = record {
  closed = refl;
  turn = refl;
  space = after-nil config;
  free = λ slot apart. free_copies (slot_count config) slot;
}
  where
    free_copies : (count slot : ℕ) → is_detached (slot_at (replicate count free_slot) slot).row ≡ true
    free_copies zero slot = refl
    free_copies (suc count) zero = refl
    free_copies (suc count) (suc slot) = free_copies count slot

-- the reply of a call that the model made first
pub small_reply : (config : Config) (view : View) (call : Call) (list : List Record) (counters : Counters) (outcome : Outcome) → IsBetweenCalls view list counters
    → config ≡ view.config → outcome ≡ step config (space_of list counters) call
    → outcome.reply ≡ (step view.config (after view.config view.seen) call).reply
small_reply config view call list counters outcome small same is =
    ap (λ (o : Outcome). o.reply) is ∙ ap (λ c. (step c (space_of list counters) call).reply) same
    ∙ ap (λ s. (step view.config s call).reply) (sym small.space)

-- a try that found readers, and then the mark
pub marking_from : (first tried marked : View) (slot found : ℕ) → tried ≡ try_at first slot found → MarksSlot (mark_at tried 0 0) marked
    → MarksSlot (mark_at first 0 0) marked
marking_from first tried marked slot found is marking = record {
  config = marking.config ∙ ap (λ (v : View). v.config) is;
  seen = marking.seen ∙ ap (λ (v : View). v.seen) is;
  turn = marking.turn ∙ ap (λ (v : View). v.turn) is;
  writer_state = marking.writer_state ∙ ap (λ (v : View). (mark_at v 0 0).writer_state) is;
}

-- the same, as the writer of a new table knows it
pub opened_is_small : (config : Config) (readers : ℕ) (view : View) (list : List Record) (counters : Counters)
    → counters ≡ counters_at_opening config → view ≡ opened_lock_view config readers → list ≡ [] → IsBetweenCalls view list counters
opened_is_small config readers view list counters counted is empty = rw (counted, is, empty) (opened_small config readers)
