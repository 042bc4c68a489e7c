-- For the laws of finished runs: each item of a gathered history stands at its version, and is right there.
use Rattle.std.proofs.Common.{ℕ, zero, suc, ◌≡◌, ◌+◌, ◌-◌, ◌*◌, ◌<◌, ◌≤◌, ◌^◌, ◌∙◌, refl, sym, ap, subst, cond, if◌then◌else◌, Bool, true, false, List, [], ◌∷◌, ◌++◌, length, length-append, filter, filter_map, take, slice_get, get_or, All, Some, arith, inl, inr}
use Rattle.std.proofs.lemmas.Bool.{true≢false, cases_Bool, cases_order, cond-true, cond-false}
use Rattle.std.proofs.lemmas.List.{take_at, get_or_append_left, get_or_at}
use Rattle.std.proofs.lemmas.List.Elements.{All-nil, All-cons, All-append, All-filter, All-weaker, filter-append, filter_map-append}
use Rattle.mm_types.specs.declared.call.Entry.{Entry}
use Rattle.mm_types.specs.declared.call.Seen.{Seen}
use Rattle.mm_types.specs.declared.call.Seen.TheVariants as reads
use Rattle.mm_types.specs.declared.config.Config.{Config}
use Rattle.area_rules.specs.Steps.{step, after}
use Rattle.mm_types.proofs.Sorting.{Rises, Rises-sort_by}
use Rattle.history.specs.declared.items.Content.{Content}
use Rattle.history.specs.declared.items.Content.TheVariants as contents
use Rattle.history.specs.declared.items.Item.{Item}
use Rattle.history.specs.Histories.{asks_for, is_call, call_made, entry_of, journal_of}
use Rattle.history.specs.Runs.{entry_items, read_item, logs_items, history_of, place_key, AreMade, IsLegalAfter, IsReadRightAfter}
use Rattle.history.proofs.Lists.{split_at, at_place}
use Rattle.history.proofs.Sorts.{Small, gather_is_sort}
use Rattle.history.proofs.Gathers.{all_gather}
use Rattle.history.proofs.Calls.{fault_call, IsAnswer}
use Rattle.history.proofs.Steps.{entry_item}
use Rattle.history.proofs.Legal.{calls, entries_at, entries_length, all_log, all_logs, IsGathered, history_calls, history_journal}

rises_all : (low : ℕ) (xs : List Item) → Rises place_key low xs → All (λ y. low ≤ place_key y) xs
rises_all low [] rises = All-nil (λ (y : Item). low ≤ place_key y)
rises_all low (x ∷ xs) rises =
    All-cons (λ (y : Item). low ≤ place_key y) x xs rises.0
    (All-weaker (λ (y : Item). place_key x ≤ place_key y) (λ (y : Item). low ≤ place_key y) (λ y above. omega (arith, rises.0)) xs
    (rises_all (place_key x) xs rises.1))

-- what goes before an item and what goes after it, in a list that rises
pub record Parts (before : List Item) (item : Item) (rest : List Item) : Type 0 where
  pub front : All (λ y. place_key y ≤ place_key item) before
  pub back : All (λ y. place_key item ≤ place_key y) rest

pub rises_parts : (low : ℕ) (before : List Item) (item : Item) (rest : List Item) → Rises place_key low (before ++ item ∷ rest)
    → Parts before item rest × (low ≤ place_key item)
rises_parts low [] item rest rises =
    (record { front = All-nil (λ (y : Item). place_key y ≤ place_key item); back = rises_all (place_key item) rest rises.1 }, rises.0)
rises_parts low (first ∷ before) item rest rises =
    let parts = rises_parts (place_key first) before item rest rises.1 in (
      record {
        front = All-cons (λ (y : Item). place_key y ≤ place_key item) first before parts.1 parts.0.front;
        back = parts.0.back;
      },
      omega (arith, rises.0, parts.1),
    )

-- there are as many calls as entries
pub count_calls : (items : List Item) → length (journal_of items) ≡ length (filter calls items)
unfolding journal_of
count_calls [] = refl
count_calls (item ∷ items) = one_more item.caller item.version item.content items (count_calls items)
  where
    one_more : (caller version : ℕ) (content : Content) (items : List Item) → length (filter_map entry_of items) ≡ length (filter calls items)
        → length (filter_map entry_of (record { caller = caller; version = version; content = content } ∷ items))
        ≡ length (cond (is_call content) (record { caller = caller; version = version; content = content } ∷ filter calls items) (filter calls items))
    one_more caller version (contents.Called call reply) items same = ap (λ (n : ℕ). suc n) same
    one_more caller version (contents.Fault page access verdict) items same = same
    one_more caller version (contents.List areas) items same = same

pub journal_append : (xs ys : List Item) → journal_of (xs ++ ys) ≡ journal_of xs ++ journal_of ys
unfolding journal_of
journal_append xs ys = filter_map-append entry_of xs ys

-- the journal before a place is a beginning of the whole
pub journal_before : (journal : List Entry) (before after : List Item) → journal_of (before ++ after) ≡ journal
    → journal_of before ≡ take (length (journal_of before)) journal
journal_before journal before after whole =
    sym (take_at (journal_of before) (journal_of after) (length (journal_of before)) refl)
    ∙ ap (take (length (journal_of before))) (sym (journal_append before after) ∙ whole)

-- the version of each item of a journal
entry_at : (version : ℕ) (journal : List Entry) (place : ℕ) (d : Item) → place < length journal
    → (get_or (entry_items version journal) place d).version ≡ version + place + 1
unfolding entry_items
entry_at version [] place d within = absurd (omega arith)
entry_at version (first ∷ entries) zero d within = omega arith
entry_at version (first ∷ entries) (suc place) d within =
    let later : (get_or (entry_items (version + 1) entries) place d).version ≡ version + 1 + place + 1 =
    entry_at (version + 1) entries place d (omega arith) in
    omega (arith, later)

-- where an item stands, as the calls before it and after it
calls_split : (journal : List Entry) (before : List Item) (item : Item) (rest : List Item)
    → filter calls (before ++ item ∷ rest) ≡ entry_items 0 journal
    → filter calls before ++ filter calls (item ∷ rest) ≡ entry_items 0 journal
calls_split journal before item rest whole = sym (filter-append calls before (item ∷ rest)) ∙ whole

slice_get_middle : {X : Type 0} (xs : List X) (y : X) (ys : List X) → slice_get (xs ++ y ∷ ys) (length xs) ≡ Some y
slice_get_middle [] y ys = refl
slice_get_middle (x ∷ xs) y ys = slice_get_middle xs y ys

-- an item stands at its version and is the answer after the journal before it
pub record IsPlaced (config : Config) (start : List Entry) (before : List Item) (item : Item) : Type 0 where
  pub version : item.version ≡ length (journal_of before) + (if is_call item.content then 1 else 0)
  pub right : IsAnswer config (start ++ journal_of before) item.content

-- a call stands at its place of the journal
pub call_at : (config : Config) (start journal : List Entry) (before : List Item) (item : Item) (rest : List Item) → IsLegalAfter config start journal → AreMade config start journal
    → journal_of (before ++ item ∷ rest) ≡ journal → filter calls (before ++ item ∷ rest) ≡ entry_items 0 journal → is_call item.content ≡ true
    → IsPlaced config start before item
call_at config start journal before item rest legal made entries whole call =
    let front : List Item = filter calls before in
    let behind : List Item = filter calls rest in
    let place : ℕ = length (journal_of before) in
    let count : place ≡ length front = count_calls before in
    let here : filter calls (item ∷ rest) ≡ item ∷ behind = cond-true (is_call item.content) (item ∷ behind) behind call in
    let parts : front ++ item ∷ behind ≡ entry_items 0 journal = ap (λ (l : List Item). front ++ l) (sym here)
    ∙ calls_split journal before item rest whole in
    let found : slice_get (entry_items 0 journal) (length front) ≡ Some item = ap (λ (l : List Item). slice_get l (length front)) (sym parts)
    ∙ slice_get_middle front item behind in
    let at : (entry : Entry) × (slice_get journal (length front) ≡ Some entry) × (entry_item (0 + length front) entry ≡ item) =
    entries_at 0 journal (length front) item found in
    let reply : at.0.reply ≡ (step config (after config (start ++ take (length front) journal)) at.0.call).reply = legal.replies (length front) at.0 at.1 in
    let so_far : take (length front) journal ≡ journal_of before = ap (λ (n : ℕ). take n journal) (sym count)
    ∙ sym (journal_before journal before (item ∷ rest) entries) in
    let right : IsAnswer config (start ++ journal_of before) (contents.Called at.0.call at.0.reply) = (
      ap (λ (j : List Entry). call_made config (after config (start ++ j)) (asks_for at.0.call)) (sym so_far)
          ∙ made (length front) at.0 at.1,
      reply ∙ ap (λ (j : List Entry). (step config (after config (start ++ j)) at.0.call).reply) so_far,
    ) in
    subst (λ (x : Item). IsPlaced config start before x) at.2 (record { version = omega (arith, count); right = right })

-- a read stands at its version
pub read_at : (journal : List Entry) (before : List Item) (item : Item) (rest : List Item)
    → filter calls (before ++ item ∷ rest) ≡ entry_items 0 journal → is_call item.content ≡ false → Parts before item rest
    → All (λ y. is_call y.content ≡ true) (entry_items 0 journal)
    → item.version ≤ length journal → Small item → item.version ≡ length (journal_of before)
read_at journal before item rest whole read parts all_calls within small =
    let front : List Item = filter calls before in
    let behind : List Item = filter calls rest in
    let place : ℕ = length front in
    let count : length (journal_of before) ≡ place = count_calls before in
    let here : filter calls (item ∷ rest) ≡ behind = cond-false (is_call item.content) (item ∷ behind) behind read in
    let whole_calls : front ++ behind ≡ entry_items 0 journal = ap (λ (l : List Item). front ++ l) (sym here)
    ∙ calls_split journal before item rest whole in
    let size : place + length behind ≡ length journal =
    sym (length-append front behind) ∙ ap (λ (l : List Item). length l) whole_calls ∙ entries_length 0 journal in
    let item_key : place_key item ≡ item.version * 2 ^ 33 + (item.caller + 1) =
    ap (λ (t : Bool). item.version * 2 ^ 33 + cond t 0 (item.caller + 1)) read in
    let key_of : (i : ℕ) → i < length journal → place_key (get_or (entry_items 0 journal) i item) ≡ (i + 1) * 2 ^ 33 =
    λ i inside.
    let x : Item = get_or (entry_items 0 journal) i item in
    let call : is_call x.content ≡ true = all_calls i item (subst (λ (n : ℕ). i < n) (sym (entries_length 0 journal)) inside) in
    let version : x.version ≡ i + 1 = entry_at 0 journal i item inside ∙ plain i in
    ap (λ (t : Bool). x.version * 2 ^ 33 + cond t 0 (x.caller + 1)) call ∙ ap (λ (v : ℕ). v * 2 ^ 33 + 0) version ∙ no_more ((i + 1) * 2 ^ 33) in
    elim (cases_order item.version place) [
      | inl level ↦ level ∙ sym count
      | inr apart ↦ elim apart [
        | inl below ↦
            let inside : place - 1 < length front = omega arith in
            let low : place_key (get_or front (place - 1) item) ≤ place_key item =
            All-filter calls (λ (y : Item). place_key y ≤ place_key item) before parts.front (place - 1) item inside in
            let is : get_or front (place - 1) item ≡ get_or (entry_items 0 journal) (place - 1) item =
            sym (get_or_append_left front behind item (place - 1) inside) ∙ ap (λ (l : List Item). get_or l (place - 1) item) whole_calls in
            let key : place_key (get_or front (place - 1) item) ≡ (place - 1 + 1) * 2 ^ 33 = ap (λ (x : Item). place_key x) is
            ∙ key_of (place - 1) (omega (arith, size)) in
            absurd (omega (arith, low, key, item_key, below, small))
        | inr above ↦
            let some : 0 < length behind = omega (arith, size, within, above) in
            let high : place_key item ≤ place_key (get_or behind 0 item) =
            All-filter calls (λ (y : Item). place_key item ≤ place_key y) rest parts.back 0 item some in
            let is : get_or behind 0 item ≡ get_or (entry_items 0 journal) place item =
            sym (first_behind front behind item some) ∙ ap (λ (l : List Item). get_or l place item) whole_calls in
            let key : place_key (get_or behind 0 item) ≡ (place + 1) * 2 ^ 33 = ap (λ (x : Item). place_key x) is
            ∙ key_of place (omega (arith, size, some)) in
            absurd (omega (arith, high, key, item_key, above))
      ]
    ]
  where
    plain : (i : ℕ) → 0 + i + 1 ≡ i + 1
    plain i = omega arith

    no_more : (n : ℕ) → n + 0 ≡ n
    no_more n = omega arith

    first_behind : (front behind : List Item) (d : Item) → 0 < length behind → get_or (front ++ behind) (length front) d ≡ get_or behind 0 d
    first_behind front [] d some = absurd (omega arith)
    first_behind front (x ∷ behind) d some = get_or_at front x behind d (length front) refl

-- what is so of an item of a gathered history that is a read
abbrev pub ReadRight : Config → List Entry → List Entry → Item → Type 0
ReadRight config start journal item = is_call item.content ≡ false
    → (item.version ≤ length journal) × IsAnswer config (start ++ take item.version journal) item.content

read_right : (config : Config) (start journal : List Entry) (caller : ℕ) (read : Seen) → IsReadRightAfter config start journal read
    → ReadRight config start journal (read_item caller read)
read_right config start journal caller (reads.Fault version page access verdict) right =
    λ no_call. (right.within, (fault_call config (start ++ take version journal) version page access verdict right.right, right.right.1))
read_right config start journal caller (reads.Maps version list) right = λ no_call. (right.within, right.right)

entries_are_calls : (version : ℕ) (journal : List Entry) → All (λ y. is_call y.content ≡ true) (entry_items version journal)
unfolding entry_items
entries_are_calls version [] = All-nil (λ (y : Item). is_call y.content ≡ true)
entries_are_calls version (first ∷ entries) =
    All-cons (λ (y : Item). is_call y.content ≡ true) (entry_item version first) (entry_items (version + 1) entries) refl
    (entries_are_calls (version + 1) entries)

reads_right : (config : Config) (start journal : List Entry) (logs : List (List Seen)) → IsGathered config start journal logs
    → All (ReadRight config start journal) (history_of journal logs)
unfolding history_of
reads_right config start journal logs run =
    all_gather (ReadRight config start journal) (entry_items 0 journal ++ logs_items 0 logs)
    (All-append (ReadRight config start journal) (entry_items 0 journal) (logs_items 0 logs)
    (All-weaker (λ (y : Item). is_call y.content ≡ true) (ReadRight config start journal) (λ y call. λ read. absurd (true≢false (sym call ∙ read)))
    (entry_items 0 journal) (entries_are_calls 0 journal))
    (all_logs (ReadRight config start journal) 0 logs (λ place log found.
    all_log (ReadRight config start journal) (0 + place) log
    (All-weaker (IsReadRightAfter config start journal) (λ read. ReadRight config start journal (read_item (0 + place) read))
    (λ read right. read_right config start journal (0 + place) read right) log (run.right place log found)))))

pub history_rises : (journal : List Entry) (logs : List (List Seen)) → All Small (entry_items 0 journal ++ logs_items 0 logs)
    → Rises place_key 0 (history_of journal logs)
unfolding history_of
history_rises journal logs small =
    subst (λ (l : List Item). Rises place_key 0 l) (sym (gather_is_sort (entry_items 0 journal ++ logs_items 0 logs) small))
    (Rises-sort_by place_key (entry_items 0 journal ++ logs_items 0 logs))

history_small : (journal : List Entry) (logs : List (List Seen)) → All Small (entry_items 0 journal ++ logs_items 0 logs)
    → All Small (history_of journal logs)
unfolding history_of
history_small journal logs small = all_gather Small (entry_items 0 journal ++ logs_items 0 logs) small

-- each item of a gathered history is placed
pub placed : (config : Config) (start journal : List Entry) (logs : List (List Seen)) → IsGathered config start journal logs
    → (place : ℕ) (item : Item) → slice_get (history_of journal logs) place ≡ Some item → IsPlaced config start (take place (history_of journal logs)) item
placed config start journal logs run place item found =
    let items : List Item = history_of journal logs in
    let before : List Item = take place items in
    let split : (rest : List Item) × (before ++ item ∷ rest ≡ items) = split_at items place item found in
    let rest : List Item = split.0 in
    let entries : journal_of (before ++ item ∷ rest) ≡ journal = ap journal_of split.1 ∙ history_journal journal logs run.small in
    let whole : filter calls (before ++ item ∷ rest) ≡ entry_items 0 journal = ap (filter calls) split.1 ∙ history_calls journal logs run.small in
    elim (cases_Bool (is_call item.content)) [
      | inl call ↦ call_at config start journal before item rest run.legal run.made entries whole call
      | inr read ↦
          let parts : Parts before item rest =
          (rises_parts 0 before item rest (subst (λ (l : List Item). Rises place_key 0 l) (sym split.1) (history_rises journal logs run.small))).0 in
          let right : (item.version ≤ length journal) × IsAnswer config (start ++ take item.version journal) item.content =
          at_place (ReadRight config start journal) items place item (reads_right config start journal logs run) found read in
          let small : Small item = at_place Small items place item (history_small journal logs run.small) found in
          let version : item.version ≡ length (journal_of before) =
          read_at journal before item rest whole read parts (entries_are_calls 0 journal) right.0 small in
          let so_far : take item.version journal ≡ journal_of before =
          ap (λ (n : ℕ). take n journal) version ∙ sym (journal_before journal before (item ∷ rest) entries) in
          record {
            version = version ∙ sym (no_more (length (journal_of before))) ∙ ap (λ (t : Bool). length (journal_of before) + cond t 1 0) (sym read);
            right = subst (λ (j : List Entry). IsAnswer config (start ++ j) item.content) so_far right.1;
          }
    ]
  where
    no_more : (n : ℕ) → n + 0 ≡ n
    no_more n = omega arith
