-- For `LockState::end`: the end of a call: rows that show the list after it, and the refusal where they do not.
use Rattle.std.proofs.Common.{ℕ, ◌≡◌, ◌<◌, ◌≤◌, ◌+◌, ◌%◌, ◌^◌, ◌∙◌, refl, sym, ap, subst, true, false, not, cond, nat_eq, nat_le, List, [], ◌∷◌, ◌++◌, length, map, All, Option, Some, None, arith, inl, inr}
use Rattle.std.specs.List.{sum_by, filter}
use Rattle.std.specs.Option.{option_map, is_some, unwrap_or}
use Rattle.std.specs.Cmp.Lexicographic.{pointwise, same_text}
use Rattle.std.proofs.lemmas.Bool.{cases_Bool, cond_both, cond-true, cond-false, eqb-true, ne_eqb}
use Rattle.std.proofs.lemmas.List.{length_push}
use Rattle.std.proofs.lemmas.List.Sums.{sum_by-cons}
use Rattle.mm_types.specs.declared.area.Record.{Record}
use Rattle.mm_types.specs.declared.call.Call.{Call}
use Rattle.mm_types.specs.declared.call.Counters.{Counters}
use Rattle.mm_types.specs.declared.call.Entry.{Entry}
use Rattle.mm_types.specs.declared.call.Reply.{Reply}
use Rattle.mm_types.specs.declared.config.Config.{Config}
use Rattle.mm_types.specs.Config.{IsValidConfig}
use Rattle.mm_types.specs.Packed.{packed}
use Rattle.mm_types.specs.Records.{IsValid}
use Rattle.area_rules.specs.Tables.{AddressSpace, Outcome}
use Rattle.area_rules.specs.Steps.{step, IsReady, after}
use Rattle.area_rules.specs.Tables.{space_of}
use Rattle.mm_types.specs.Sorts.{sort_by}
use Rattle.mm_types.proofs.Sorting.{insert_by}
use Rattle.area_rules.proofs.Journals.{after_ready, after-push, legal-push}
use Rattle.lock_core.specs.declared.events.LockEvent.TheVariants.{End}
use Rattle.lock_core.specs.declared.events.StepRefusal.TheVariants.{NotTheList}
use Rattle.lock_core.specs.declared.stage.SlotState.{SlotState}
use Rattle.lock_core.specs.declared.state.LockState.TheInside.{Inside}
use Rattle.lock_core.specs.Core.{LockCore}
use Rattle.lock_core.specs.Rows.{is_detached, attached_weight, Exactly}
use Rattle.lock_core.specs.Events.{after_end, entry_after}
use Rattle.lock_core.specs.Refusals.{first_page, sorted_rows, first_difference, list_difference, lock_refusal}
use Rattle.lock_core.specs.Kept.{IsLockKept}
use Rattle.lock_core.proofs.Keeping.{end_keeps}
use Rattle.lock_core.proofs.Weighing.{sum_by-attached, sum_by-packed}

-- what is mapped to none is none
pub mapped_none : {B : Type 0} (f : ℕ → B) (o : Option ℕ) → option_map f o ≡ None → o ≡ None
mapped_none f None none = refl
mapped_none f (Some x) none = absurd (cc)

-- where two lists of rows differ nowhere, they are one
pub no_difference : (rows others : List (List ℕ)) → first_difference rows others ≡ None → rows ≡ others
no_difference [] [] none = refl
no_difference [] (other ∷ others) none = absurd (cc)
no_difference (row ∷ rows) [] none = absurd (cc)
no_difference (row ∷ rows) (other ∷ others) none = elim (cases_Bool (pointwise nat_eq row other)) [
  | inl alike ↦
      let first = same_text row other (sym alike) in
      let later = sym (cond-true (pointwise nat_eq row other) (option_map (λ place. place + 1) (first_difference rows others)) (Some 0) alike) ∙ none in
      let rest = no_difference rows others (mapped_none (λ place. place + 1) (first_difference rows others) later) in cc
  | inr unlike ↦
      let here = sym (cond-false (pointwise nat_eq row other) (option_map (λ place. place + 1) (first_difference rows others)) (Some 0) unlike) ∙ none in absurd (cc)
]

-- a list weighs the same with its elements in another order
sum_by-insert_by : {A : Type 0} (key weight : A → ℕ) (x : A) (xs : List A) → sum_by weight (insert_by key x xs) ≡ weight x + sum_by weight xs
sum_by-insert_by key weight x [] = sum_by-cons weight x []
sum_by-insert_by {A} key weight x (first ∷ xs) =
    cond_both (nat_le (key x) (key first)) (x ∷ first ∷ xs) (first ∷ insert_by key x xs) (λ (l : List A). sum_by weight l ≡ weight x + sum_by weight (first ∷ xs))
    (λ h. sum_by-cons weight x (first ∷ xs))
    (λ h. omega (arith, sum_by-cons weight first (insert_by key x xs), sum_by-insert_by key weight x xs, sum_by-cons weight first xs))

sum_by-sort_by : {A : Type 0} (key weight : A → ℕ) (xs : List A) → sum_by weight (sort_by key xs) ≡ sum_by weight xs
sum_by-sort_by key weight [] = refl
sum_by-sort_by key weight (x ∷ xs) =
    omega (arith, sum_by-insert_by key weight x (sort_by key xs), sum_by-sort_by key weight xs, sum_by-cons weight x xs)

-- rows that differ nowhere from a list show exactly it
pub rows_exact : (slots : List SlotState) (areas : List Record) → first_difference (sorted_rows slots) (map packed areas) ≡ None → Exactly slots areas
rows_exact slots areas none weight =
    let attached = filter (λ row. not (is_detached row)) (map (λ (slot : SlotState). slot.row) slots) in
    let same = ap (λ (rows : List (List ℕ)). sum_by weight rows) (no_difference (sorted_rows slots) (map packed areas) none) in
    omega (arith, same, sum_by-sort_by first_page weight attached, sum_by-attached weight slots, sum_by-packed weight areas)

-- where a step may be taken
pub kept_ready : (state : Inside) → IsLockKept state → length state.protocol.journal < 2 ^ 31 → IsReady state.config (space_of state.list state.counters)
kept_ready state kept room =
    subst (λ (space : AddressSpace). IsReady state.config space) (sym kept.space) (after_ready state.config state.protocol.journal kept.valid (omega arith))

-- a call that was made is the one that the journal's new entry makes
pub ended_space : (state : Inside) (caller : ℕ) (call : Call) (areas : List Record) (counters : Counters) (reply : Reply) → IsLockKept state
    → (let made : Outcome = record { space = space_of areas counters; reply = reply } in made ≡ step state.config (space_of state.list state.counters) call)
    → (reply ≡ (entry_after state.config state.protocol.journal caller call).reply)
    × (space_of areas counters ≡ after state.config (state.protocol.journal ++ entry_after state.config state.protocol.journal caller call ∷ []))
ended_space state caller call areas counters reply kept made =
    let there = made ∙ ap (λ (space : AddressSpace). step state.config space call) kept.space in (
      ap (λ (o : Outcome). o.reply) there,
      ap (λ (o : Outcome). o.space) there ∙ sym (after-push state.config state.protocol.journal (entry_after state.config state.protocol.journal caller call)),
    )

-- its areas are valid
pub ended_valid : (config : Config) (journal : List Entry) (areas : List Record) (counters : Counters) → IsValidConfig config → length journal ≤ 3000000000
    → space_of areas counters ≡ after config journal → All IsValid areas
ended_valid config journal areas counters valid few is =
    subst (λ (l : List Record). All IsValid l) (sym (ap (λ (space : AddressSpace). space.areas) is)) ((after_ready config journal valid few).sound.canonical.valid)

-- a state keeps its fields at the end of a call whose rows show the list after it
pub kept_end : (state : Inside) (caller : ℕ) (call : Call) (areas : List Record) (counters : Counters) → IsLockKept state → nat_eq (state.protocol.seq % 2) 1 ≡ true
    → space_of areas counters ≡ after state.config (state.protocol.journal ++ entry_after state.config state.protocol.journal caller call ∷ [])
    → first_difference (sorted_rows state.protocol.slots) (map packed areas) ≡ None
    → IsLockKept (record state { protocol = after_end state.protocol (entry_after state.config state.protocol.journal caller call); list = areas; counters = counters })
kept_end state caller call areas counters kept is_open is none = record {
  valid = kept.valid;
  facts = end_keeps state.config state.protocol entry kept.facts (eqb-true (state.protocol.seq % 2) 1 is_open)
      ((legal-push state.config state.protocol.journal entry).1 (kept.facts.rows.legal, refl))
      (subst (λ (l : List Record). Exactly state.protocol.slots l) (ap (λ (space : AddressSpace). space.areas) is) (rows_exact state.protocol.slots areas none));
  few = kept.few;
  space = is;
}
  where
    entry : Entry
    entry = entry_after state.config state.protocol.journal caller call

-- whether an end is refused once a call is open, by where the rows differ from the list
pub refusal_end : (config : Config) (core : LockCore) (caller : ℕ) (call : Call) → nat_eq (core.seq % 2) 1 ≡ true
    → lock_refusal config core (End caller call) ≡ option_map NotTheList (list_difference config core (End caller call))
unfolding lock_refusal
refusal_end config core caller call is_open =
    let odd = eqb-true (core.seq % 2) 1 is_open in
    let closed : nat_eq (core.seq % 2) 0 ≡ false = ne_eqb (core.seq % 2) 0 (λ e. absurd (omega arith)) in
    rw closed (by_place (list_difference config core (End caller call)))
  where
    by_place : (place : Option ℕ) → cond (is_some place) (Some (NotTheList (unwrap_or place 0))) None ≡ option_map NotTheList place
    by_place None = refl
    by_place (Some place) = refl

-- what the search for a difference found
pub difference_is : (slots shown : List SlotState) (rows : List (List ℕ)) (areas items : List Record) (found : Option ℕ)
    → rows ≡ sorted_rows shown → shown ≡ slots → items ≡ areas → found ≡ first_difference rows (map packed items)
    → first_difference (sorted_rows slots) (map packed areas) ≡ found
difference_is slots shown rows areas items found sorted same same_items is =
    ap (λ (l : List SlotState). first_difference (sorted_rows l) (map packed areas)) (sym same)
    ∙ ap (λ (l : List (List ℕ)). first_difference l (map packed areas)) (sym sorted)
    ∙ ap (λ (l : List Record). first_difference rows (map packed l)) (sym same_items) ∙ sym is

-- the same of the list after a call
pub list_difference_is : (state : Inside) (caller : ℕ) (call : Call) (areas : List Record) (counters : Counters) (found : Option ℕ)
    → space_of areas counters ≡ after state.config (state.protocol.journal ++ entry_after state.config state.protocol.journal caller call ∷ [])
    → first_difference (sorted_rows state.protocol.slots) (map packed areas) ≡ found
    → list_difference state.config state.protocol (End caller call) ≡ found
list_difference_is state caller call areas counters found is same =
    ap (λ (space : AddressSpace). first_difference (sorted_rows state.protocol.slots) (map packed space.areas)) (sym is) ∙ same

-- the journal with one more entry is short enough
pub ended_short : (journal : List Entry) (entry : Entry) → length journal < 2 ^ 31 → length (journal ++ entry ∷ []) ≤ 3000000000
ended_short journal entry room = omega (arith, length_push journal entry, room)
