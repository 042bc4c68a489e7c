-- For `Named::apply`: a journal in which each caller has at most its operations has no more entries than all operations together.
use Rattle.std.proofs.Common.{ℕ, zero, suc, ◌≡◌, ◌≢◌, ◌≤◌, ◌<◌, ◌+◌, ◌-◌, ◌∙◌, nat_eq, List, [], ◌∷◌, ◌++◌, length, length-append, sum, get_or, set, take, drop, refl, sym, ap, subst, arith, inl, inr}
use Rattle.std.proofs.lemmas.Bool.{cases_eq, cases_lt, eq-eqb, ne_eqb}
use Rattle.std.proofs.lemmas.List.{get_or-set_same, get_or-set_other, get_or_past, take-append-drop, take-append-le, length-take}
use Rattle.std.proofs.lemmas.List.Elements.{All-head, All-tail, filter-append}
use Rattle.std.proofs.lemmas.List.Sums.{sum_by-set}
use Rattle.mm_types.specs.declared.call.Entry.{Entry}
use Rattle.area_rules.specs.Journals.{calls_by}
use Rattle.lock_core.specs.Core.{StartsWith}
use Rattle.mm_state.specs.States.{StateView}
use Rattle.mm_space.specs.Names.{SpaceId, MadeWithin, since, AreStrangers, IsNamed}

own_counted : (caller : ℕ) (entry : Entry) (journal : List Entry) → entry.caller ≡ caller
    → length (calls_by caller (entry ∷ journal)) ≡ length (calls_by caller journal) + 1
own_counted caller entry journal own = rw (eq-eqb entry.caller caller own) (omega arith)

other_counted : (caller : ℕ) (entry : Entry) (journal : List Entry) → entry.caller ≢ caller
    → calls_by caller (entry ∷ journal) ≡ calls_by caller journal
other_counted caller entry journal other = rw (ne_eqb entry.caller caller other) refl

get_within : (xs : List ℕ) (i : ℕ) → 0 < get_or xs i 0 → i < length xs
get_within xs i some = elim (cases_lt i (length xs)) [
  | inl within ↦ within
  | inr past ↦ let none = get_or_past xs i 0 past in omega (arith, none, some)
]

-- one operation of a caller less
abbrev taken : List ℕ → ℕ → List ℕ
taken operations caller = set operations caller (get_or operations caller 0 - 1)

taken_sum : (operations : List ℕ) (caller : ℕ) → 0 < get_or operations caller 0 → sum (taken operations caller) + 1 ≡ sum operations
taken_sum operations caller some =
    let moved : sum (taken operations caller) + get_or operations caller 0 ≡ sum operations + (get_or operations caller 0 - 1) =
    sum_by-set (λ x. x) operations caller (get_or operations caller 0 - 1) 0 (get_within operations caller some) in
    omega (arith, moved, some)

rest_within : (operations : List ℕ) (entry : Entry) (journal : List Entry) → MadeWithin operations (entry ∷ journal)
    → 0 < get_or operations entry.caller 0 → MadeWithin (taken operations entry.caller) journal
rest_within operations entry journal within some caller = elim (cases_eq entry.caller caller) [
  | inl own ↦
      let here = get_or-set_same operations entry.caller (get_or operations entry.caller 0 - 1) 0 (get_within operations entry.caller some) in
      let count = own_counted entry.caller entry journal refl in
      let most = within entry.caller in
      subst (λ c. length (calls_by c journal) ≤ get_or (taken operations entry.caller) c 0) own (omega (arith, here, count, most))
  | inr other ↦
      let there = get_or-set_other operations entry.caller caller (get_or operations entry.caller 0 - 1) 0 (λ same. other (sym same)) in
      let count = ap (λ es. length es) (other_counted caller entry journal other) in
      let most = within caller in
      omega (arith, there, count, most)
]

-- the entries of all callers
pub all_within : (operations : List ℕ) (journal : List Entry) → MadeWithin operations journal → length journal ≤ sum operations
all_within operations [] within = omega arith
all_within operations (entry ∷ journal) within =
    let count = own_counted entry.caller entry journal refl in
    let most = within entry.caller in
    let some : 0 < get_or operations entry.caller 0 = omega (arith, count, most) in
    let rest = all_within (taken operations entry.caller) journal (rest_within operations entry journal within some) in
    let total = taken_sum operations entry.caller some in
    omega (arith, rest, total)

drop_append : {X : Type 0} (n : ℕ) (xs ys : List X) → n ≤ length xs → drop n (xs ++ ys) ≡ drop n xs ++ ys
drop_append zero xs ys within = refl
drop_append (suc n) [] ys within = absurd (omega arith)
drop_append (suc n) (x ∷ xs) ys within = drop_append n xs ys (omega arith)

-- a beginning is no longer
pub shorter : (journal before : List Entry) → StartsWith journal before → length before ≤ length journal
shorter journal before starts = omega (arith, sym (ap length starts) ∙ length-take (length before) journal)

-- a journal in two parts
pub parts : (journal before : List Entry) → StartsWith journal before → journal ≡ before ++ since before journal
parts journal before starts = sym (ap (λ (l : List Entry). l ++ since before journal) (sym starts) ∙ take-append-drop (length before) journal)

-- strangers have no entries of callers
pub no_calls : (before : List Entry) (caller : ℕ) → AreStrangers before → caller < 64 → calls_by caller before ≡ []
no_calls [] caller strangers within = refl
no_calls (entry ∷ before) caller strangers within =
    let high : 64 ≤ entry.caller = All-head (λ (e : Entry). 64 ≤ e.caller) entry before strangers in
    other_counted caller entry before (λ same. omega (arith, same, high, within))
    ∙ no_calls before caller (All-tail (λ (e : Entry). 64 ≤ e.caller) entry before strangers) within

-- so a caller's entries stand behind theirs
pub own_since : (journal before : List Entry) (caller : ℕ) → StartsWith journal before → AreStrangers before → caller < 64
    → calls_by caller journal ≡ calls_by caller (since before journal)
own_since journal before caller starts strangers within =
    let mine = λ (e : Entry). nat_eq e.caller caller in
    ap (calls_by caller) (parts journal before starts) ∙ filter-append mine before (since before journal)
    ∙ ap (λ (l : List Entry). l ++ calls_by caller (since before journal)) (no_calls before caller strangers within)

-- how many entries there are
pub counted_since : (journal before : List Entry) (operations : List ℕ) → StartsWith journal before → MadeWithin operations (since before journal)
    → length journal ≤ length before + sum operations
counted_since journal before operations starts within =
    let whole = ap length (parts journal before starts) ∙ length-append before (since before journal) in
    omega (arith, whole, all_within operations (since before journal) within)

within_more : (operations : List ℕ) (entries : List Entry) (entry : Entry) → MadeWithin operations entries
    → length (calls_by entry.caller entries) < get_or operations entry.caller 0 → MadeWithin operations (entries ++ entry ∷ [])
within_more operations entries entry within some caller =
    let whole = ap length (filter-append (λ (e : Entry). nat_eq e.caller caller) entries (entry ∷ []))
    ∙ length-append (calls_by caller entries) (calls_by caller (entry ∷ [])) in
    elim (cases_eq entry.caller caller) [
      | inl own ↦
          let one = own_counted caller entry [] own in
          let few = subst (λ c. length (calls_by c entries) < get_or operations c 0) own some in
          omega (arith, whole, one, few)
      | inr other ↦
          let none = ap length (other_counted caller entry [] other) in
          let few = within caller in
          omega (arith, whole, none, few)
    ]

-- the state with an entry more of a caller that has operations left
pub named_more : (name : SpaceId) (old new : StateView) (entry : Entry)
    → IsNamed name old → new.journal ≡ old.journal ++ entry ∷ [] → new.table ≡ old.table → new.nodes ≡ old.nodes
    → new.config ≡ old.config → new.room ≡ old.room → length (calls_by entry.caller old.journal) < get_or name.operations entry.caller 0
    → IsNamed name new
named_more name old new entry is more table nodes config room some =
    let before : List Entry = name.before in
    let operations : List ℕ = name.operations in
    let few = shorter old.journal before is.begins in
    let small : entry.caller < 64 = omega (arith, get_within operations entry.caller (omega (arith, some)), is.callers) in
    let own = ap length (own_since old.journal before entry.caller is.begins is.strangers small) in
    record {
      table = table ∙ is.table;
      nodes = nodes ∙ is.nodes;
      config = config ∙ is.config;
      begins = ap (take (length before)) more ∙ take-append-le (length before) old.journal (entry ∷ []) few ∙ is.begins;
      strangers = is.strangers;
      callers = is.callers;
      within = subst (MadeWithin operations) (sym (ap (drop (length before)) more ∙ drop_append (length before) old.journal (entry ∷ []) few))
          (within_more operations (since before old.journal) entry is.within (omega (arith, own, some)));
      few = is.few;
      room = room ∙ is.room;
    }
