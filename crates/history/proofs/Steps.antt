-- For the law `one_operation_more`: what a caller did, after an operation more.
use Rattle.std.proofs.Common.{ℕ, suc, ◌≡◌, ◌+◌, ◌≤◌, ◌∙◌, refl, sym, ap, Bool, true, false, nat_eq, List, [], ◌∷◌, ◌++◌, append_assoc, length, length-append, filter, All, arith, inl, inr}
use Rattle.std.proofs.lemmas.Bool.{cases_Bool, cond-true, cond-false, eq-eqb}
use Rattle.std.proofs.lemmas.List.{append-nil, map_push}
use Rattle.std.proofs.lemmas.List.Elements.{All-nil, All-cons, All-append, All-filter, All-map, All-weaker, filter-append}
use Rattle.mm_types.specs.declared.call.Entry.{Entry}
use Rattle.mm_types.specs.declared.call.Seen.{Seen}
use Rattle.mm_types.specs.declared.call.Seen.TheVariants as reads
use Rattle.area_rules.specs.Journals.{calls_by, version_of}
use Rattle.history.specs.declared.items.Content.TheVariants as contents
use Rattle.history.specs.declared.items.Item.{Item}
use Rattle.history.specs.Histories.{items_of, asks_for, op_asked, is_call, gather}
use Rattle.history.specs.Runs.{entry_items, content_of, read_item, log_items, own_of, ops_of}
use Rattle.history.proofs.Gathers.{Before, After, gather_last, higher_after, call_before, read_before}

-- the item of an entry
abbrev pub entry_item : ℕ → Entry → Item
entry_item version entry = record { caller = entry.caller; version = version + 1; content = contents.Called entry.call entry.reply }

pub entries_append : (version : ℕ) (xs ys : List Entry)
    → entry_items version (xs ++ ys) ≡ entry_items version xs ++ entry_items (version + length xs) ys
unfolding entry_items
entries_append version [] ys = ap (λ (v : ℕ). entry_items v ys) (at_once version)
  where
    at_once : (v : ℕ) → v ≡ v + 0
    at_once v = omega arith
entries_append version (x ∷ xs) ys =
    ap (λ (l : List Item). entry_item version x ∷ l) (entries_append (version + 1) xs ys)
    ∙ ap (λ (v : ℕ). entry_item version x ∷ (entry_items (version + 1) xs ++ entry_items v ys)) (one_later version (length xs))
  where
    one_later : (v n : ℕ) → v + 1 + n ≡ v + suc n
    one_later v n = omega arith

pub items_append : (caller : ℕ) (xs ys : List Item) → items_of (xs ++ ys) caller ≡ items_of xs caller ++ items_of ys caller
unfolding items_of
items_append caller xs ys = filter-append (λ (item : Item). nat_eq item.caller caller) xs ys

pub no_items : (caller : ℕ) → items_of [] caller ≡ []
unfolding items_of
no_items caller = refl

-- a caller with no entries has none of the items
pub entries_none : (version caller : ℕ) (xs : List Entry) → calls_by caller xs ≡ [] → items_of (entry_items version xs) caller ≡ []
unfolding items_of entry_items
entries_none version caller [] none = refl
entries_none version caller (x ∷ xs) none =
    let p : Item → Bool = λ item. nat_eq item.caller caller in
    elim (cases_Bool (nat_eq x.caller caller)) [
      | inl here ↦
          let clash : x ∷ calls_by caller xs ≡ [] = sym (cond-true (nat_eq x.caller caller) (x ∷ calls_by caller xs) (calls_by caller xs) here)
          ∙ none in absurd (cc)
      | inr there ↦
          cond-false (nat_eq x.caller caller) (entry_item version x ∷ filter p (entry_items (version + 1) xs))
          (filter p (entry_items (version + 1) xs)) there
          ∙ entries_none (version + 1) caller xs (sym (cond-false (nat_eq x.caller caller) (x ∷ calls_by caller xs) (calls_by caller xs) there)
          ∙ none)
    ]

-- a call of at most this version
abbrev pub Stands : ℕ → Item → Type 0
Stands most item = (item.version ≤ most) × (is_call item.content ≡ true)

pub entries_stand : (version most : ℕ) (xs : List Entry) → version + length xs ≤ most → All (Stands most) (entry_items version xs)
unfolding entry_items
entries_stand version most [] within = All-nil (Stands most)
entries_stand version most (x ∷ xs) within =
    All-cons (Stands most) (entry_item version x) (entry_items (version + 1) xs) (omega arith, refl)
    (entries_stand (version + 1) most xs (omega arith))

own_entries : (caller most : ℕ) (xs : List Entry) → length xs ≤ most → All (Stands most) (items_of (entry_items 0 xs) caller)
unfolding items_of
own_entries caller most xs within =
    All-filter (λ (item : Item). nat_eq item.caller caller) (Stands most) (entry_items 0 xs) (entries_stand 0 most xs (omega arith))

pub read_is_no_call : (read : Seen) → is_call (content_of read) ≡ false
read_is_no_call (reads.Fault version page access verdict) = refl
read_is_no_call (reads.Maps version list) = refl

-- a read of at most this version
abbrev pub WithinLog : ℕ → Seen → Type 0
WithinLog most read = version_of read ≤ most

-- the item of a read of at most this version of a caller
abbrev LogItem : ℕ → ℕ → Item → Type 0
LogItem caller most item = (item.version ≤ most) × (item.caller ≡ caller)

own_log : (caller most : ℕ) (log : List Seen) → All (WithinLog most) log → All (LogItem caller most) (log_items caller log)
unfolding log_items
own_log caller most log within =
    All-map (LogItem caller most) (read_item caller) log
    (All-weaker (WithinLog most) (λ read. LogItem caller most (read_item caller read)) (λ read h. (h, refl)) log within)

pub more_entries : (caller : ℕ) (xs rest : List Entry) → calls_by caller rest ≡ []
    → items_of (entry_items 0 (xs ++ rest)) caller ≡ items_of (entry_items 0 xs) caller
more_entries caller xs rest none =
    ap (λ (l : List Item). items_of l caller) (entries_append 0 xs rest) ∙ items_append caller (entry_items 0 xs) (entry_items (0 + length xs) rest)
    ∙ ap (λ (l : List Item). items_of (entry_items 0 xs) caller ++ l) (entries_none (0 + length xs) caller rest none)
    ∙ append-nil (items_of (entry_items 0 xs) caller)

-- nothing more
pub own_same : (caller : ℕ) (old rest : List Entry) (log : List Seen) → calls_by caller rest ≡ []
    → own_of caller (old ++ rest) log ≡ own_of caller old log
unfolding own_of
own_same caller old rest log none = ap (λ (l : List Item). gather (l ++ log_items caller log)) (more_entries caller old rest none)

pub log_push : (caller : ℕ) (log : List Seen) (read : Seen) → log_items caller (log ++ read ∷ []) ≡ log_items caller log ++ read_item caller read ∷ []
unfolding log_items
log_push caller log read = map_push (read_item caller) log read

-- one read more
pub own_read : (caller : ℕ) (old rest : List Entry) (log : List Seen) (read : Seen) → calls_by caller rest ≡ [] → All (WithinLog (length old)) log
    → version_of read ≡ length (old ++ rest) → own_of caller (old ++ rest) (log ++ read ∷ []) ≡ own_of caller old log ++ read_item caller read ∷ []
unfolding own_of
own_read caller old rest log read none within now =
    let x : Item = read_item caller read in
    let entries : List Item = items_of (entry_items 0 old) caller in
    let logged : List Item = log_items caller log in
    let up : length old ≤ version_of read = omega (arith, length-append old rest) in
    let calls : All (Before x) entries =
    All-weaker (Stands (length old)) (Before x) (λ y h. call_before x y (omega (arith, h.0)) h.1) entries
    (own_entries caller (length old) old (omega arith)) in
    let earlier : All (Before x) logged =
    All-weaker (LogItem caller (length old)) (Before x)
    (λ y h. read_before x y (omega (arith, h.0)) (omega (arith, h.1)) (read_is_no_call read)) logged
    (own_log caller (length old) log within) in
    ap (λ (l : List Item). gather (l ++ log_items caller (log ++ read ∷ []))) (more_entries caller old rest none)
    ∙ ap (λ (l : List Item). gather (entries ++ l)) (log_push caller log read)
    ∙ ap (λ (l : List Item). gather l) (sym (append_assoc entries logged (x ∷ [])))
    ∙ gather_last x (entries ++ logged) [] (All-append (Before x) entries logged calls earlier) (All-nil (After x))
    ∙ ap (λ (l : List Item). gather l ++ x ∷ []) (append-nil (entries ++ logged))

last_item : (caller version : ℕ) (entry : Entry) → entry.caller ≡ caller
    → items_of (entry_items version (entry ∷ [])) caller ≡ entry_item version entry ∷ []
unfolding items_of entry_items
last_item caller version entry own = cond-true (nat_eq entry.caller caller) (entry_item version entry ∷ []) [] (eq-eqb entry.caller caller own)

-- one call more
pub own_call : (caller : ℕ) (old rest : List Entry) (log : List Seen) (entry : Entry) → calls_by caller rest ≡ [] → All (WithinLog (length old)) log
    → entry.caller ≡ caller
    → own_of caller ((old ++ rest) ++ entry ∷ []) log ≡ own_of caller old log ++ entry_item (0 + length (old ++ rest)) entry ∷ []
unfolding own_of
own_call caller old rest log entry none within own =
    let now : ℕ = 0 + length (old ++ rest) in
    let x : Item = entry_item now entry in
    let entries : List Item = items_of (entry_items 0 old) caller in
    let logged : List Item = log_items caller log in
    let up : length old ≤ now = omega (arith, length-append old rest) in
    let calls : All (Before x) entries =
    All-weaker (Stands (length old)) (Before x) (λ y h. call_before x y (omega (arith, h.0)) h.1) entries
    (own_entries caller (length old) old (omega arith)) in
    let later : All (After x) logged =
    All-weaker (LogItem caller (length old)) (After x) (λ y h. higher_after x y (omega (arith, h.0))) logged
    (own_log caller (length old) log within) in
    let split : items_of (entry_items 0 ((old ++ rest) ++ entry ∷ [])) caller ≡ entries ++ x ∷ [] =
    ap (λ (l : List Item). items_of l caller) (entries_append 0 (old ++ rest) (entry ∷ []))
    ∙ items_append caller (entry_items 0 (old ++ rest)) (entry_items now (entry ∷ []))
    ∙ ap (λ (l : List Item). l ++ items_of (entry_items now (entry ∷ [])) caller) (more_entries caller old rest none)
    ∙ ap (λ (l : List Item). entries ++ l) (last_item caller now entry own) in
    ap (λ (l : List Item). gather (l ++ logged)) split
    ∙ ap (λ (l : List Item). gather l) (append_assoc entries (x ∷ []) logged)
    ∙ gather_last x entries logged calls later

pub ops_more : (xs : List Item) (x : Item) → ops_of (xs ++ x ∷ []) ≡ ops_of xs ++ op_asked x.content ∷ []
unfolding ops_of
ops_more xs x = map_push (λ (item : Item). op_asked item.content) xs x

-- of operations
pub ops_call : (caller : ℕ) (old rest : List Entry) (log : List Seen) (entry : Entry) → calls_by caller rest ≡ []
    → All (λ read. version_of read ≤ length old) log → entry.caller ≡ caller
    → ops_of (own_of caller ((old ++ rest) ++ entry ∷ []) log) ≡ ops_of (own_of caller old log) ++ asks_for entry.call ∷ []
ops_call caller old rest log entry none within own =
    ap ops_of (own_call caller old rest log entry none within own) ∙ ops_more (own_of caller old log) (entry_item (0 + length (old ++ rest)) entry)

pub ops_read : (caller : ℕ) (old rest : List Entry) (log : List Seen) (read : Seen) → calls_by caller rest ≡ []
    → All (λ read. version_of read ≤ length old) log → version_of read ≡ length (old ++ rest)
    → ops_of (own_of caller (old ++ rest) (log ++ read ∷ [])) ≡ ops_of (own_of caller old log) ++ op_asked (content_of read) ∷ []
ops_read caller old rest log read none within now =
    ap ops_of (own_read caller old rest log read none within now) ∙ ops_more (own_of caller old log) (read_item caller read)

pub own_none : (caller : ℕ) → own_of caller [] [] ≡ []
unfolding own_of items_of entry_items log_items
own_none caller = refl
