-- For `run_makes_a_legal_history`: the items of a journal and of logs, and what each caller did in the history of a run.
use Rattle.std.proofs.Common.{ℕ, zero, suc, ◌≡◌, ◌≢◌, ◌+◌, ◌<◌, ◌≤◌, ◌^◌, ◌∙◌, refl, sym, ap, subst, cond, Bool, nat_eq, List, [], ◌∷◌, ◌++◌, length, map, filter, filter_map, slice_get, All, Some, ◌⊎◌, arith, inl, inr}
use Rattle.std.proofs.lemmas.Bool.{true≢false, cases_Bool, cases_lt, cond-true, cond-false, eq-eqb, ne_eqb}
use Rattle.std.proofs.lemmas.List.{append-nil}
use Rattle.std.proofs.lemmas.List.Elements.{All-nil, All-cons, All-append, All-map, All-weaker, filter-append}
use Rattle.std.proofs.lemmas.Option.{slice_get_within}
use Rattle.mm_types.specs.declared.call.Entry.{Entry}
use Rattle.mm_types.specs.declared.call.Seen.{Seen}
use Rattle.mm_types.specs.declared.config.Config.{Config}
use Rattle.trace_reader.specs.declared.trace.TraceLine.{TraceLine}
use Rattle.area_rules.specs.Steps.{IsLegalJournal}
use Rattle.area_rules.specs.Journals.{calls_by, IsReadRight}
use Rattle.history.specs.declared.items.Content.{Content}
use Rattle.history.specs.declared.items.Content.TheVariants as contents
use Rattle.history.specs.declared.items.Item.{Item}
use Rattle.history.specs.Histories.{items_of, is_call, entry_of, journal_of, gather}
use Rattle.history.specs.Runs.{entry_items, content_of, read_item, log_items, logs_items, history_of, own_of, IsRun, AreMade, IsLegalAfter, IsReadRightAfter}
use Rattle.history.proofs.SerialOrder.{insert_item, BeginsAt, inserted_first}
use Rattle.history.proofs.Sorts.{Small, gather_by_caller, gather_calls}
use Rattle.history.proofs.Steps.{entry_item, items_append, no_items, read_is_no_call}

-- whether an item is a call
abbrev pub calls : Item → Bool
calls item = is_call item.content

-- the item at each place of a journal
pub entries_at : (version : ℕ) (journal : List Entry) (place : ℕ) (x : Item) → slice_get (entry_items version journal) place ≡ Some x
    → (entry : Entry) × (slice_get journal place ≡ Some entry) × (entry_item (version + place) entry ≡ x)
unfolding entry_items
entries_at version [] place x found = absurd (cc)
entries_at version (first ∷ entries) zero x found =
    let is : entry_item version first ≡ x = cc in
    (first, refl, ap (λ (v : ℕ). entry_item v first) (no_later version) ∙ is)
  where
    no_later : (v : ℕ) → v + 0 ≡ v
    no_later v = omega arith
entries_at version (first ∷ entries) (suc place) x found =
    let later = entries_at (version + 1) entries place x found in
    (later.0, later.1, ap (λ (v : ℕ). entry_item v later.0) (one_later version place) ∙ later.2)
  where
    one_later : (v p : ℕ) → v + suc p ≡ v + 1 + p
    one_later v p = omega arith

pub entries_length : (version : ℕ) (journal : List Entry) → length (entry_items version journal) ≡ length journal
unfolding entry_items
entries_length version [] = refl
entries_length version (first ∷ entries) = ap (λ (n : ℕ). suc n) (entries_length (version + 1) entries)

pub entries_calls : (version : ℕ) (journal : List Entry) → filter calls (entry_items version journal) ≡ entry_items version journal
unfolding entry_items
entries_calls version [] = refl
entries_calls version (first ∷ entries) = ap (λ (l : List Item). entry_item version first ∷ l) (entries_calls (version + 1) entries)

pub entries_journal : (version : ℕ) (journal : List Entry) → journal_of (entry_items version journal) ≡ journal
unfolding journal_of entry_items
entries_journal version [] = refl
entries_journal version (first ∷ entries) = ap (λ (l : List Entry). first ∷ l) (entries_journal (version + 1) entries)

-- they are gathered as they are
entries_begin : (version : ℕ) (journal : List Entry) → BeginsAt (version + 1) (entry_items (version + 1) journal)
unfolding entry_items
entries_begin version [] = tt
entries_begin version (first ∷ entries) = omega arith

entries_gather : (version : ℕ) (journal : List Entry) → gather (entry_items version journal) ≡ entry_items version journal
unfolding entry_items
entries_gather version [] = refl
entries_gather version (first ∷ entries) =
    ap (insert_item (entry_item version first)) (entries_gather (version + 1) entries)
    ∙ inserted_first (entry_item version first) (entry_items (version + 1) entries) refl (entries_begin version entries)

-- no read is a call
log_calls : (caller : ℕ) (log : List Seen) → filter calls (log_items caller log) ≡ []
unfolding log_items
log_calls caller [] = refl
log_calls caller (read ∷ log) =
    let rest : List Item = filter calls (map (read_item caller) log) in
    cond-false (is_call (content_of read)) (read_item caller read ∷ rest) rest (read_is_no_call read) ∙ log_calls caller log

logs_calls : (caller : ℕ) (logs : List (List Seen)) → filter calls (logs_items caller logs) ≡ []
unfolding logs_items
logs_calls caller [] = refl
logs_calls caller (log ∷ logs) =
    filter-append calls (log_items caller log) (logs_items (caller + 1) logs)
    ∙ ap (λ (l : List Item). l ++ filter calls (logs_items (caller + 1) logs)) (log_calls caller log)
    ∙ logs_calls (caller + 1) logs

-- a log is of its caller alone
log_own : (caller : ℕ) (log : List Seen) → items_of (log_items caller log) caller ≡ log_items caller log
unfolding items_of log_items
log_own caller [] = refl
log_own caller (read ∷ log) =
    let rest : List Item = filter (λ (item : Item). nat_eq item.caller caller) (map (read_item caller) log) in
    cond-true (nat_eq caller caller) (read_item caller read ∷ rest) rest (eq-eqb caller caller refl)
    ∙ ap (λ (l : List Item). read_item caller read ∷ l) (log_own caller log)

log_other : (caller other : ℕ) (log : List Seen) → caller ≢ other → items_of (log_items caller log) other ≡ []
unfolding items_of log_items
log_other caller other [] apart = refl
log_other caller other (read ∷ log) apart =
    let rest : List Item = filter (λ (item : Item). nat_eq item.caller other) (map (read_item caller) log) in
    cond-false (nat_eq caller other) (read_item caller read ∷ rest) rest (ne_eqb caller other apart) ∙ log_other caller other log apart

-- before the logs and past them there are no items
pub logs_none : (caller other : ℕ) (logs : List (List Seen)) → (other < caller) ⊎ (caller + length logs ≤ other)
    → items_of (logs_items caller logs) other ≡ []
unfolding logs_items
logs_none caller other [] outside = no_items other
logs_none caller other (log ∷ logs) outside =
    items_append other (log_items caller log) (logs_items (caller + 1) logs)
    ∙ ap (λ (l : List Item). l ++ items_of (logs_items (caller + 1) logs) other)
    (log_other caller other log (λ same. elim outside [ inl below ↦ omega arith | inr above ↦ omega arith ]))
    ∙ logs_none (caller + 1) other logs (elim outside [ inl below ↦ inl (omega arith) | inr above ↦ inr (omega arith) ])

-- those of one log
pub logs_at : (caller place : ℕ) (logs : List (List Seen)) (log : List Seen) → slice_get logs place ≡ Some log
    → items_of (logs_items caller logs) (caller + place) ≡ log_items (caller + place) log
unfolding logs_items
logs_at caller place [] log found = absurd (cc)
logs_at caller zero (first ∷ logs) log found =
    let is : first ≡ log = cc in
    let here : caller ≡ caller + 0 = omega arith in
    items_append (caller + 0) (log_items caller first) (logs_items (caller + 1) logs)
    ∙ ap (λ (l : List Item). items_of (log_items caller first) (caller + 0) ++ l) (logs_none (caller + 1) (caller + 0) logs (inl (omega arith)))
    ∙ append-nil (items_of (log_items caller first) (caller + 0))
    ∙ ap (λ (k : ℕ). items_of (log_items k first) (caller + 0)) here ∙ log_own (caller + 0) first ∙ ap (log_items (caller + 0)) is
logs_at caller (suc place) (first ∷ logs) log found =
    let later : caller + 1 + place ≡ caller + suc place = omega arith in
    items_append (caller + suc place) (log_items caller first) (logs_items (caller + 1) logs)
    ∙ ap (λ (l : List Item). l ++ items_of (logs_items (caller + 1) logs) (caller + suc place))
    (log_other caller (caller + suc place) first (λ same. omega arith))
    ∙ ap (λ (k : ℕ). items_of (logs_items (caller + 1) logs) k) (sym later) ∙ logs_at (caller + 1) place logs log found
    ∙ ap (λ (k : ℕ). log_items k log) later

-- what is so of each read of each log
pub all_log : (P : Item → Type 0) (caller : ℕ) (log : List Seen) → All (λ read. P (read_item caller read)) log → All P (log_items caller log)
unfolding log_items
all_log P caller log all = All-map P (read_item caller) log all

pub all_logs : (P : Item → Type 0) (caller : ℕ) (logs : List (List Seen))
    → ((place : ℕ) (log : List Seen) → slice_get logs place ≡ Some log → All P (log_items (caller + place) log)) → All P (logs_items caller logs)
unfolding logs_items
all_logs P caller [] all = All-nil P
all_logs P caller (first ∷ logs) all =
    let here : caller + 0 ≡ caller = omega arith in
    All-append P (log_items caller first) (logs_items (caller + 1) logs)
    (subst (λ (k : ℕ). All P (log_items k first)) here (all 0 first refl))
    (all_logs P (caller + 1) logs (λ place log found.
    let later : caller + suc place ≡ caller + 1 + place =
    omega arith in subst (λ (k : ℕ). All P (log_items k log)) later (all (suc place) log found)))

-- the calls of the rest of a journal
rest_none : (caller : ℕ) (first : Entry) (entries : List Entry) → calls_by caller (first ∷ entries) ≡ []
    → (first.caller ≢ caller) × (calls_by caller entries ≡ [])
rest_none caller first entries none =
    let rest : List Entry = calls_by caller entries in
    elim (cases_Bool (nat_eq first.caller caller)) [
      | inl here ↦
          let clash : first ∷ rest ≡ [] = sym (cond-true (nat_eq first.caller caller) (first ∷ rest) rest here) ∙ none in absurd (cc)
      | inr other ↦ (
        λ same. absurd (true≢false (sym (eq-eqb first.caller caller same) ∙ other)),
        sym (cond-false (nat_eq first.caller caller) (first ∷ rest) rest other) ∙ none,
      )
    ]

-- where nobody from a number on has an entry, all callers are below it
pub entries_below : (most version : ℕ) (journal : List Entry) → ((caller : ℕ) → most ≤ caller → calls_by caller journal ≡ [])
    → All (λ (item : Item). item.caller < most) (entry_items version journal)
unfolding entry_items
entries_below most version [] others = All-nil (λ (item : Item). item.caller < most)
entries_below most version (first ∷ entries) others =
    let below : first.caller < most = elim (cases_lt first.caller most) [
      | inl lower ↦ lower
      | inr above ↦ absurd ((rest_none first.caller first entries (others first.caller above)).0 refl)
    ] in
    All-cons (λ (item : Item). item.caller < most) (entry_item version first) (entry_items (version + 1) entries) below
    (entries_below most (version + 1) entries (λ caller above. (rest_none caller first entries (others caller above)).1))

-- What makes each item of a history right at its place, in a space that began with some entries: a legal journal of calls that lines make,
-- reads that are right in it, and callers of 32 bits.
pub record IsGathered (config : Config) (start journal : List Entry) (logs : List (List Seen)) : Type 0 where
  pub legal : IsLegalAfter config start journal
  pub made : AreMade config start journal
  pub right : (caller : ℕ) (log : List Seen) → slice_get logs caller ≡ Some log → All (IsReadRightAfter config start journal) log
  pub small : All Small (entry_items 0 journal ++ logs_items 0 logs)

-- in a space that began empty these are what they are in its journal
pub legal_from_opening : (config : Config) (journal : List Entry) → IsLegalJournal config journal → IsLegalAfter config [] journal
legal_from_opening config journal legal = record { replies = legal.replies }

pub right_from_opening : (config : Config) (journal : List Entry) (log : List Seen) → All (IsReadRight config journal) log
    → All (IsReadRightAfter config [] journal) log
right_from_opening config journal log all =
    All-weaker (IsReadRight config journal) (IsReadRightAfter config [] journal)
    (λ read right. record { right = right.right; within = right.within }) log all

-- callers are small where there are few of them
pub small_items : (most : ℕ) (journal : List Entry) (logs : List (List Seen)) → most ≤ 2 ^ 32 → length logs ≤ most
    → ((caller : ℕ) → most ≤ caller → calls_by caller journal ≡ []) → All Small (entry_items 0 journal ++ logs_items 0 logs)
small_items most journal logs few all others =
    All-append Small (entry_items 0 journal) (logs_items 0 logs)
    (All-weaker (λ (item : Item). item.caller < most) Small (λ item below. omega arith) (entry_items 0 journal) (entries_below most 0 journal others))
    (all_logs Small 0 logs (λ place log found.
    let within : place < length logs = slice_get_within logs place log found in
    all_log Small (0 + place) log (λ k d below. omega arith)))

pub run_gathered : (config : Config) (start : List Entry) (lines : List TraceLine) (callers : ℕ) (journal : List Entry) (logs : List (List Seen))
    → IsRun config start lines callers journal logs
    → callers ≤ 2 ^ 32 → IsGathered config start journal logs
run_gathered config start lines callers journal logs run few = record {
  legal = run.legal;
  made = run.made;
  right = run.right;
  small = small_items callers journal logs few (omega (arith, run.all)) run.others;
}

-- the calls of a history are the items of the journal
pub history_calls : (journal : List Entry) (logs : List (List Seen)) → All Small (entry_items 0 journal ++ logs_items 0 logs)
    → filter calls (history_of journal logs) ≡ entry_items 0 journal
unfolding history_of
history_calls journal logs small =
    gather_calls (entry_items 0 journal ++ logs_items 0 logs) small
    ∙ ap gather (filter-append calls (entry_items 0 journal) (logs_items 0 logs)
    ∙ ap (λ (l : List Item). filter calls (entry_items 0 journal) ++ l) (logs_calls 0 logs) ∙ append-nil (filter calls (entry_items 0 journal))
    ∙ entries_calls 0 journal)
    ∙ entries_gather 0 journal

-- a journal is that of the calls alone
pub journal_calls : (items : List Item) → journal_of items ≡ journal_of (filter calls items)
unfolding journal_of
journal_calls [] = refl
journal_calls (item ∷ items) = first_too item items (journal_calls items)
  where
    of_content : (caller version : ℕ) (content : Content) (items : List Item) → filter_map entry_of items ≡ filter_map entry_of (filter calls items)
        → filter_map entry_of (record { caller = caller; version = version; content = content } ∷ items)
        ≡ filter_map entry_of (cond (is_call content) (record { caller = caller; version = version; content = content } ∷ filter calls items)
        (filter calls items))
    of_content caller version (contents.Called call reply) items same =
        ap (λ (l : List Entry). record { caller = caller; call = call; reply = reply } ∷ l) same
    of_content caller version (contents.Fault page access verdict) items same = same
    of_content caller version (contents.List areas) items same = same

    first_too : (item : Item) (items : List Item) → filter_map entry_of items ≡ filter_map entry_of (filter calls items)
        → filter_map entry_of (item ∷ items) ≡ filter_map entry_of (cond (calls item) (item ∷ filter calls items) (filter calls items))
    first_too item items same = of_content item.caller item.version item.content items same

-- the journal of a history is the journal
pub history_journal : (journal : List Entry) (logs : List (List Seen)) → All Small (entry_items 0 journal ++ logs_items 0 logs)
    → journal_of (history_of journal logs) ≡ journal
history_journal journal logs small =
    journal_calls (history_of journal logs) ∙ ap journal_of (history_calls journal logs small) ∙ entries_journal 0 journal

-- what each caller did, in the history
pub caller_items : (journal : List Entry) (logs : List (List Seen)) → All Small (entry_items 0 journal ++ logs_items 0 logs)
    → (caller : ℕ) (log : List Seen) → slice_get logs caller ≡ Some log → items_of (history_of journal logs) caller ≡ own_of caller journal log
unfolding history_of own_of
caller_items journal logs small caller log found =
    let here : 0 + caller ≡ caller = omega arith in
    gather_by_caller (entry_items 0 journal ++ logs_items 0 logs) caller small
    ∙ ap gather (items_append caller (entry_items 0 journal) (logs_items 0 logs)
    ∙ ap (λ (l : List Item). items_of (entry_items 0 journal) caller ++ l)
    (ap (λ (k : ℕ). items_of (logs_items 0 logs) k) (sym here) ∙ logs_at 0 caller logs log found ∙ ap (λ (k : ℕ). log_items k log) here))
