-- Where a call has a lower place than an item, it stands before it in the history.
use Rattle.std.proofs.Common.{ℕ, ◌≡◌, ◌+◌, ◌*◌, ◌<◌, ◌≤◌, ◌^◌, ◌∙◌, sym, ap, subst, cond, Bool, true, nat_eq, List, ◌∷◌, ◌++◌, length, take, slice_get, All, Some, arith, inl, inr}
use Rattle.std.proofs.lemmas.Bool.{cases_Bool, cases_lt}
use Rattle.std.proofs.lemmas.List.Elements.{All-cons, All-filter}
use Rattle.std.proofs.lemmas.Option.{slice_get_within, get_or_from_slice_get}
use Rattle.mm_types.specs.declared.call.Entry.{Entry}
use Rattle.mm_types.specs.declared.call.Seen.{Seen}
use Rattle.mm_types.proofs.Sorting.{Rises}
use Rattle.history.specs.declared.items.Item.{Item}
use Rattle.history.specs.Histories.{items_of, is_call}
use Rattle.history.specs.Runs.{history_of, own_of, place_key, entry_items, logs_items, ComesAfter}
use Rattle.history.proofs.Lists.{split_at, get_past}
use Rattle.history.proofs.Sorts.{Small}
use Rattle.history.proofs.Steps.{items_append}
use Rattle.history.proofs.Legal.{caller_items}
use Rattle.history.proofs.Placed.{Parts, rises_parts, history_rises}

lower : (said heard : Item) → is_call said.content ≡ true → ComesAfter said heard → place_key said < place_key heard
lower said heard call comes =
    let said_key : place_key said ≡ said.version * 2 ^ 33 + 0 = ap (λ (t : Bool). said.version * 2 ^ 33 + cond t 0 (said.caller + 1)) call in
    elim (cases_Bool (is_call heard.content)) [
      | inl too ↦
          let key : place_key heard ≡ heard.version * 2 ^ 33 + 0 = ap (λ (t : Bool). heard.version * 2 ^ 33 + cond t 0 (heard.caller + 1)) too in
          let later : said.version + 1 ≤ heard.version = subst (λ (t : Bool). said.version + cond t 1 0 ≤ heard.version) too comes in
          omega (arith, said_key, key, later)
      | inr read ↦
          let key : place_key heard ≡ heard.version * 2 ^ 33 + (heard.caller + 1) =
          ap (λ (t : Bool). heard.version * 2 ^ 33 + cond t 0 (heard.caller + 1)) read in
          let later : said.version + 0 ≤ heard.version = subst (λ (t : Bool). said.version + cond t 1 0 ≤ heard.version) read comes in
          omega (arith, said_key, key, later)
    ]

-- it stands among what comes before the item
pub stands_before : (journal : List Entry) (logs : List (List Seen)) → All Small (entry_items 0 journal ++ logs_items 0 logs)
    → (teller at place : ℕ) (log : List Seen) (said heard : Item) → slice_get logs teller ≡ Some log
    → slice_get (own_of teller journal log) at ≡ Some said → is_call said.content ≡ true
    → slice_get (history_of journal logs) place ≡ Some heard → ComesAfter said heard
    → at < length (items_of (take place (history_of journal logs)) teller)
unfolding items_of
stands_before journal logs small teller at place log said heard its spoken call found comes =
    let items : List Item = history_of journal logs in
    let before : List Item = take place items in
    let own : List Item = items_of before teller in
    let split : (rest : List Item) × (before ++ heard ∷ rest ≡ items) = split_at items place heard found in
    let rest : List Item = heard ∷ split.0 in
    let parts : Parts before heard split.0 =
    (rises_parts 0 before heard split.0 (subst (λ (l : List Item). Rises place_key 0 l) (sym split.1) (history_rises journal logs small))).0 in
    let whole : own ++ items_of rest teller ≡ own_of teller journal log =
    sym (items_append teller before rest) ∙ ap (λ (l : List Item). items_of l teller) split.1 ∙ caller_items journal logs small teller log its in
    let there : slice_get (own ++ items_of rest teller) at ≡ Some said = ap (λ (l : List Item). slice_get l at) whole ∙ spoken in
    elim (cases_lt at (length own)) [
      | inl within ↦ within
      | inr past ↦
          let late : (k : ℕ) × (slice_get (items_of rest teller) k ≡ Some said) = get_past own (items_of rest teller) at said past there in
          let high : All (λ (y : Item). place_key heard ≤ place_key y) (items_of rest teller) =
          All-filter (λ (y : Item). nat_eq y.caller teller) (λ (y : Item). place_key heard ≤ place_key y) rest
          (All-cons (λ (y : Item). place_key heard ≤ place_key y) heard split.0 (omega arith) parts.back) in
          let above : place_key heard ≤ place_key said =
          subst (λ (y : Item). place_key heard ≤ place_key y) (get_or_from_slice_get (items_of rest teller) late.0 said said late.1)
          (high late.0 said (slice_get_within (items_of rest teller) late.0 said late.1)) in
          absurd (omega (arith, above, lower said heard call comes))
    ]
