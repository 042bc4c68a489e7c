-- For `run_makes_a_legal_history`: the history of a finished run is legal, and of its lines.
use Rattle.std.proofs.Common.{ℕ, zero, suc, ◌≡◌, ◌+◌, ◌*◌, ◌<◌, ◌≤◌, ◌^◌, ◌∙◌, refl, sym, ap, subst, cond, Bool, true, false, nat_eq, List, [], ◌∷◌, ◌++◌, length, filter, take, slice_get, get_or, All, Option, Some, None, IfSome, IsSomeAnd, arith, inl, inr}
use Rattle.std.specs.List.{last_or}
use Rattle.std.specs.Option.{option_map}
use Rattle.std.proofs.lemmas.List.Elements.{All-head, All-tail}
use Rattle.std.proofs.lemmas.Bool.{true≢false, false≢true, cases_lt, cond-true, eq-eqb}
use Rattle.std.proofs.lemmas.List.{length-map, append-nil}
use Rattle.std.proofs.lemmas.Option.{slice_get_within, slice_get-get_or, slice_get-map, same_Some}
use Rattle.mm_types.specs.declared.call.Entry.{Entry}
use Rattle.mm_types.specs.declared.call.Seen.{Seen}
use Rattle.mm_types.specs.declared.config.Config.{Config}
use Rattle.trace_reader.specs.declared.trace.Op.{Op}
use Rattle.trace_reader.specs.declared.trace.Op.TheVariants as ops
use Rattle.trace_reader.specs.declared.trace.TraceLine.{TraceLine}
use Rattle.trace_reader.specs.Values.{is_call_op, AreNumbered, NamesACall, AreNamesRight}
use Rattle.mm_types.proofs.Sorting.{Rises}
use Rattle.area_rules.specs.Journals.{calls_by}
use Rattle.history.specs.declared.items.Content.{Content}
use Rattle.history.specs.declared.items.Content.TheVariants as contents
use Rattle.history.specs.declared.items.Item.{Item}
use Rattle.history.specs.Histories.{items_of, lines_of, read_as, op_asked, is_call, journal_of, line_answered, StandsAmong, IsLegalHistory, gather}
use Rattle.history.specs.Runs.{entry_items, logs_items, history_of, own_of, ops_of, asked, IsRun, place_key}
use Rattle.history.proofs.LineAnswers.{AreToldAt, told_at}
use Rattle.history.proofs.Lists.{split_at, at_place, slice_get_found}
use Rattle.history.proofs.Calls.{answer_made, answer_right}
use Rattle.history.proofs.Naming.{stands_before}
use Rattle.history.proofs.Numbers.{IsNamed, named_line, named_calls, own_place}
use Rattle.history.proofs.Sorts.{Small, gather_by_caller}
use Rattle.history.proofs.Steps.{items_append, entries_none}
use Rattle.history.proofs.Legal.{logs_none, caller_items, IsGathered, run_gathered, history_journal}
use Rattle.history.proofs.Placed.{Parts, rises_parts, journal_append, placed, history_rises}

-- past the callers there is nothing
past_items : (journal : List Entry) (logs : List (List Seen)) → All Small (entry_items 0 journal ++ logs_items 0 logs)
    → (caller : ℕ) → calls_by caller journal ≡ [] → length logs ≤ caller → items_of (history_of journal logs) caller ≡ []
unfolding history_of
past_items journal logs small caller none past =
    gather_by_caller (entry_items 0 journal ++ logs_items 0 logs) caller small
    ∙ ap gather (items_append caller (entry_items 0 journal) (logs_items 0 logs)
    ∙ ap (λ (l : List Item). l ++ items_of (logs_items 0 logs) caller) (entries_none 0 caller journal none)
    ∙ logs_none 0 caller logs (inr (omega arith)))

ops_none : ops_of [] ≡ []
unfolding ops_of
ops_none = refl

-- what each caller was asked is what it did, in the history
pub history_ops : (config : Config) (start : List Entry) (lines : List TraceLine) (callers : ℕ) (journal : List Entry) (logs : List (List Seen))
    → IsRun config start lines callers journal logs
    → callers ≤ 2 ^ 32 → (caller : ℕ) → ops_of (items_of (history_of journal logs) caller) ≡ asked (lines_of lines caller)
history_ops config start lines callers journal logs run few caller =
    let gathered : IsGathered config start journal logs = run_gathered config start lines callers journal logs run few in
    elim (cases_lt caller callers) [
      | inl within ↦ of_log (λ log found. ap ops_of (caller_items journal logs gathered.small caller log found) ∙ run.done caller log found)
          (slice_get logs caller) refl (omega (arith, run.all))
      | inr past ↦
          ap ops_of (past_items journal logs gathered.small caller (run.others caller past) (omega (arith, run.all))) ∙ ops_none
          ∙ ap asked (sym (run.no_lines caller past))
    ]
  where
    of_log : ((log : List Seen) → slice_get logs caller ≡ Some log
        → ops_of (items_of (history_of journal logs) caller) ≡ asked (lines_of lines caller))
        → (found : Option (List Seen)) → slice_get logs caller ≡ found → caller < length logs
        → ops_of (items_of (history_of journal logs) caller) ≡ asked (lines_of lines caller)
    of_log each None is within =
        let some : slice_get logs caller ≡ Some (get_or logs caller []) = slice_get-get_or logs caller [] within in absurd (cc)
    of_log each (Some log) is within = each log is

items_first : (item : Item) (items : List Item) → items_of (item ∷ items) item.caller ≡ item ∷ items_of items item.caller
unfolding items_of
items_first item items =
    let rest : List Item = filter (λ (x : Item). nat_eq x.caller item.caller) items in
    cond-true (nat_eq item.caller item.caller) (item ∷ rest) rest (eq-eqb item.caller item.caller refl)

slice_get_middle : {X : Type 0} (xs : List X) (y : X) (ys : List X) → slice_get (xs ++ y ∷ ys) (length xs) ≡ Some y
slice_get_middle [] y ys = refl
slice_get_middle (x ∷ xs) y ys = slice_get_middle xs y ys

-- of the items of its caller, an item is the next after those before it
next_at : (items : List Item) (place : ℕ) (item : Item) → slice_get items place ≡ Some item
    → slice_get (items_of items item.caller) (length (items_of (take place items) item.caller)) ≡ Some item
next_at items place item found =
    let before : List Item = take place items in
    let split : (rest : List Item) × (before ++ item ∷ rest ≡ items) = split_at items place item found in
    let own : List Item = items_of before item.caller in
    let parts : items_of items item.caller ≡ own ++ item ∷ items_of split.0 item.caller =
    ap (λ (l : List Item). items_of l item.caller) (sym split.1) ∙ items_append item.caller before (item ∷ split.0)
    ∙ ap (λ (l : List Item). own ++ l) (items_first item split.0) in
    ap (λ (l : List Item). slice_get l (length own)) parts ∙ slice_get_middle own item (items_of split.0 item.caller)

-- an item answers the next line of its caller, where each caller did what its lines ask for
next_line : (lines : List TraceLine) (items : List Item) → ((caller : ℕ) → ops_of (items_of items caller) ≡ asked (lines_of lines caller))
    → (place : ℕ) (item : Item) → slice_get items place ≡ Some item
    → IsSomeAnd (line_answered lines (take place items) item) (λ line. read_as line.op ≡ op_asked item.content)
unfolding line_answered ops_of
next_line lines items same place item found =
    let at : ℕ = length (items_of (take place items) item.caller) in
    let own : List TraceLine = lines_of lines item.caller in
    let op : option_map (λ (line : TraceLine). read_as line.op) (slice_get own at) ≡ Some (op_asked item.content) =
    sym (slice_get-map (λ (line : TraceLine). read_as line.op) own at) ∙ ap (λ (l : List Op). slice_get l at) (sym (same item.caller))
    ∙ slice_get-map (λ (x : Item). op_asked x.content) (items_of items item.caller) at
    ∙ ap (λ (o : Option Item). option_map (λ (x : Item). op_asked x.content) o) (next_at items place item found) in
    asks (slice_get own at) (op_asked item.content) op
  where
    asks : (line : Option TraceLine) (op : Op) → option_map (λ (line : TraceLine). read_as line.op) line ≡ Some op → IsSomeAnd line (λ line. read_as line.op ≡ op)
    asks None op is = absurd (cc)
    asks (Some line) op is = cc

last_taken : (other : Option Item) (items : List Item) (place : ℕ) (item : Item) → slice_get items place ≡ Some item
    → last_or other (take (suc place) items) ≡ Some item
last_taken other [] place item found = absurd (cc)
last_taken other (first ∷ items) zero item found = cc
last_taken other (first ∷ items) (suc place) item found = last_taken (Some first) items place item found

taken_more : {X : Type 0} (xs : List X) (place : ℕ) (x : X) → slice_get xs place ≡ Some x → take (suc place) xs ≡ take place xs ++ x ∷ []
taken_more [] place x found = absurd (cc)
taken_more {X} (first ∷ xs) zero x found = let is : first ≡ x = cc in ap (λ (y : X). y ∷ []) is
taken_more {X} (first ∷ xs) (suc place) x found = ap (λ (l : List X). first ∷ l) (taken_more xs place x found)

no_entry : (caller version : ℕ) (content : Content) → is_call content ≡ false
    → journal_of (record { caller = caller; version = version; content = content } ∷ []) ≡ []
unfolding journal_of
no_entry caller version (contents.Called call reply) read = absurd (true≢false read)
no_entry caller version (contents.Fault page access verdict) read = refl
no_entry caller version (contents.List areas) read = refl

-- a read adds no entry
read_adds_none : (items : List Item) (item : Item) → is_call item.content ≡ false
    → length (journal_of (items ++ item ∷ [])) ≡ length (journal_of items)
read_adds_none items item read =
    ap (λ (l : List Entry). length l) (journal_append items (item ∷ []))
    ∙ ap (λ (l : List Entry). length (journal_of items ++ l)) (no_entry item.caller item.version item.content read)
    ∙ ap (λ (l : List Entry). length l) (append-nil (journal_of items))

-- reads of one version go by caller
order_at : (config : Config) (start journal : List Entry) (logs : List (List Seen)) → IsGathered config start journal logs
    → (place : ℕ) (item : Item) → slice_get (history_of journal logs) place ≡ Some item
    → IfSome (last_or None (take place (history_of journal logs)))
    (λ prior. is_call prior.content ≡ false → is_call item.content ≡ false → prior.caller ≤ item.caller)
order_at config start journal logs run zero item found = tt
order_at config start journal logs run (suc place) item found =
    let items : List Item = history_of journal logs in
    let inside : suc place < length items = slice_get_within items (suc place) item found in
    let prior : Item = get_or items place item in
    let there : slice_get items place ≡ Some prior = slice_get-get_or items place item (omega arith) in
    subst (λ (o : Option Item). IfSome o (λ p. is_call p.content ≡ false → is_call item.content ≡ false → p.caller ≤ item.caller))
    (sym (last_taken None items place prior there))
    (λ read other.
    let split : (rest : List Item) × (take (suc place) items ++ item ∷ rest ≡ items) = split_at items (suc place) item found in
    let parts : Parts (take (suc place) items) item split.0 =
    (rises_parts 0 (take (suc place) items) item split.0
    (subst (λ (l : List Item). Rises place_key 0 l) (sym split.1) (history_rises journal logs run.small))).0 in
    let more : take (suc place) items ≡ take place items ++ prior ∷ [] = taken_more items place prior there in
    let low : place_key prior ≤ place_key item =
    All-head (λ (y : Item). place_key y ≤ place_key item) prior []
    (last_of (λ (y : Item). place_key y ≤ place_key item) (take place items) (prior ∷ [])
    (subst (All (λ (y : Item). place_key y ≤ place_key item)) more parts.front)) in
    let first : prior.version ≡ length (journal_of (take place items)) + cond (is_call prior.content) 1 0 =
    (placed config start journal logs run place prior there).version in
    let second : item.version ≡ length (journal_of (take (suc place) items)) + cond (is_call item.content) 1 0 =
    (placed config start journal logs run (suc place) item found).version in
    let level : length (journal_of (take (suc place) items)) ≡ length (journal_of (take place items)) =
    ap (λ (l : List Item). length (journal_of l)) more ∙ read_adds_none (take place items) prior read in
    let same : prior.version ≡ item.version =
    first ∙ ap (λ (t : Bool). length (journal_of (take place items)) + cond t 1 0) (read ∙ sym other)
    ∙ ap (λ (n : ℕ). n + cond (is_call item.content) 1 0) (sym level) ∙ sym second in
    let prior_key : place_key prior ≡ prior.version * 2 ^ 33 + (prior.caller + 1) =
    ap (λ (t : Bool). prior.version * 2 ^ 33 + cond t 0 (prior.caller + 1)) read in
    let item_key : place_key item ≡ item.version * 2 ^ 33 + (item.caller + 1) =
    ap (λ (t : Bool). item.version * 2 ^ 33 + cond t 0 (item.caller + 1)) other in
    omega (arith, low, same, prior_key, item_key))
  where
    last_of : (P : Item → Type 0) (xs ys : List Item) → All P (xs ++ ys) → All P ys
    last_of P [] ys all = all
    last_of P (x ∷ xs) ys all = last_of P xs ys (All-tail P x (xs ++ ys) all)

as_many : (items : List Item) (lines : List TraceLine) → ops_of items ≡ asked lines → length items ≡ length lines
unfolding ops_of
as_many items lines same =
    sym (length-map items (λ (x : Item). op_asked x.content)) ∙ ap (λ (l : List Op). length l) same ∙ length-map lines (λ (line : TraceLine). read_as line.op)

-- a caller has a log where it has a line
has_log : (config : Config) (start : List Entry) (lines : List TraceLine) (callers : ℕ) (journal : List Entry) (logs : List (List Seen))
    → IsRun config start lines callers journal logs → (caller place : ℕ) (line : TraceLine) → slice_get (lines_of lines caller) place ≡ Some line
    → (log : List Seen) × (slice_get logs caller ≡ Some log)
has_log config start lines callers journal logs run caller place line found = elim (cases_lt caller callers) [
  | inl within ↦ slice_get_found logs caller (omega (arith, run.all))
  | inr past ↦
      let inside : place < length (lines_of lines caller) = slice_get_within (lines_of lines caller) place line found in
      let none : length (lines_of lines caller) ≡ 0 = ap (λ (l : List TraceLine). length l) (run.no_lines caller past) in
      absurd (omega (arith, inside, none))
]

-- what a caller did for a line that asks a call is a call
did_call : (items : List Item) (own : List TraceLine) (place : ℕ) (item : Item) (line : TraceLine) → ops_of items ≡ asked own
    → slice_get items place ≡ Some item → slice_get own place ≡ Some line → is_call_op line.op ≡ true → is_call item.content ≡ true
unfolding ops_of
did_call items own place item line same here there call =
    let op : Some (op_asked item.content) ≡ Some (read_as line.op) =
    ap (option_map (λ (x : Item). op_asked x.content)) (sym here) ∙ sym (slice_get-map (λ (x : Item). op_asked x.content) items place)
    ∙ ap (λ (l : List Op). slice_get l place) same ∙ slice_get-map (λ (l : TraceLine). read_as l.op) own place
    ∙ ap (option_map (λ (l : TraceLine). read_as l.op)) there in
    of_op item.content line.op (same_Some (op_asked item.content) (read_as line.op) op) call
  where
    of_op : (content : Content) (op : Op) → op_asked content ≡ read_as op → is_call_op op ≡ true → is_call content ≡ true
    of_op (contents.Called call reply) op same asks = refl
    of_op (contents.Fault page access found) (ops.Call call) same asks = absurd (cc)
    of_op (contents.Fault page access found) (ops.Fault other kind) same asks = absurd (false≢true asks)
    of_op (contents.Fault page access found) ops.Maps same asks = absurd (false≢true asks)
    of_op (contents.Fault page access found) (ops.Fork child) same asks = absurd (false≢true asks)
    of_op (contents.List areas) (ops.Call call) same asks = absurd (cc)
    of_op (contents.List areas) (ops.Fault other kind) same asks = absurd (false≢true asks)
    of_op (contents.List areas) ops.Maps same asks = absurd (false≢true asks)
    of_op (contents.List areas) (ops.Fork child) same asks = absurd (false≢true asks)

-- what the line of an item names stands before it
line_told : (config : Config) (start : List Entry) (lines : List TraceLine) (callers : ℕ) (journal : List Entry) (logs : List (List Seen))
    → IsRun config start lines callers journal logs → callers ≤ 2 ^ 32 → AreNumbered lines → AreNamesRight lines
    → (place : ℕ) (item : Item) → slice_get (history_of journal logs) place ≡ Some item
    → IfSome (line_answered lines (take place (history_of journal logs)) item)
    (λ line. IfSome line.after (StandsAmong lines (take place (history_of journal logs))))
unfolding line_answered
line_told config start lines callers journal logs run few numbered names place item found =
    by_line (slice_get (lines_of lines item.caller) next) refl
  where
    gathered : IsGathered config start journal logs
    gathered = run_gathered config start lines callers journal logs run few

    next : ℕ
    next = length (items_of (take place (history_of journal logs)) item.caller)

    order_told : AreToldAt (λ caller log. own_of caller journal log) lines logs
    order_told = told_at (λ caller log. own_of caller journal log) lines logs run.told

    answered_at : (line : TraceLine) → slice_get (lines_of lines item.caller) next ≡ Some line → (number : ℕ) → line.after ≡ Some number
        → (teller there : ℕ) (named : TraceLine) → slice_get (lines_of lines teller) there ≡ Some named → named.number ≡ number
        → there < length (items_of (take place (history_of journal logs)) teller)
    answered_at line here number is teller there named named_here same =
        let mine : (log : List Seen) × (slice_get logs item.caller ≡ Some log) =
        has_log config start lines callers journal logs run item.caller next line here in
        let its : (log : List Seen) × (slice_get logs teller ≡ Some log) =
        has_log config start lines callers journal logs run teller there named named_here in
        let own : slice_get (own_of item.caller journal mine.0) next ≡ Some item =
        ap (λ (l : List Item). slice_get l next) (sym (caller_items journal logs gathered.small item.caller mine.0 mine.1))
        ∙ next_at (history_of journal logs) place item found in
        let count : length (own_of teller journal its.0) ≡ length (lines_of lines teller) =
        as_many (own_of teller journal its.0) (lines_of lines teller) (run.done teller its.0 its.1) in
        let inside : there < length (lines_of lines teller) = slice_get_within (lines_of lines teller) there named named_here in
        let said : (said : Item) × (slice_get (own_of teller journal its.0) there ≡ Some said) =
        slice_get_found (own_of teller journal its.0) there (omega (arith, count, inside)) in
        let call : is_call_op named.op ≡ true =
        named_calls lines numbered names item.caller next line number here is teller there named named_here same in
        stands_before journal logs gathered.small teller there place its.0 said.0 item its.1 said.1
        (did_call (own_of teller journal its.0) (lines_of lines teller) there said.0 named (run.done teller its.0 its.1) said.1 named_here call)
        found
        (order_told item.caller next mine.0 item line number mine.1 own here is teller there its.0 said.0 named its.1 said.1 named_here same)

    by_number : (line : TraceLine) → slice_get (lines_of lines item.caller) next ≡ Some line → (after : Option ℕ) → line.after ≡ after
        → IfSome after (StandsAmong lines (take place (history_of journal logs)))
    by_number line here None is = tt
    by_number line here (Some number) is =
        let own_line = own_place lines item.caller next line here in
        let its_line : IsNamed lines number = named_line lines line number (at_place (NamesACall lines) lines own_line.0 line names own_line.1) is in
        record {
          teller = its_line.teller;
          place = its_line.place;
          line = its_line.line;
          its = its_line.its;
          numbered = its_line.numbered;
          answered = answered_at line here number is its_line.teller its_line.place its_line.line its_line.its its_line.numbered;
        }

    by_line : (line : Option TraceLine) → slice_get (lines_of lines item.caller) next ≡ line
        → IfSome line (λ line. IfSome line.after (StandsAmong lines (take place (history_of journal logs))))
    by_line None is = tt
    by_line (Some line) is = by_number line is line.after refl

-- the history of a finished run is legal, and of its lines
pub history_is_legal : (config : Config) (start : List Entry) (lines : List TraceLine) (callers : ℕ) (journal : List Entry) (logs : List (List Seen))
    → IsRun config start lines callers journal logs
    → callers ≤ 2 ^ 32 → AreNumbered lines → AreNamesRight lines → IsLegalHistory config start lines (history_of journal logs)
history_is_legal config start lines callers journal logs run few numbered names =
    let items : List Item = history_of journal logs in
    let gathered : IsGathered config start journal logs = run_gathered config start lines callers journal logs run few in
    let same : (caller : ℕ) → ops_of (items_of items caller) ≡ asked (lines_of lines caller) =
    history_ops config start lines callers journal logs run few in
    record {
      stands = λ place item found. let here = placed config start journal logs gathered place item found in record {
        version = here.version;
        order = order_at config start journal logs gathered place item found;
        next = next_line lines items same place item found;
        made = answer_made config (start ++ journal_of (take place items)) item.content here.right;
        named = line_told config start lines callers journal logs run few numbered names place item found;
      };
      right = λ place item found.
          answer_right config (start ++ journal_of (take place items)) item.content
          (placed config start journal logs gathered place item found).right;
      none_left = λ caller. as_many (items_of items caller) (lines_of lines caller) (same caller);
    }

-- and its journal is the run's
pub run_journal : (config : Config) (start : List Entry) (lines : List TraceLine) (callers : ℕ) (journal : List Entry) (logs : List (List Seen))
    → IsRun config start lines callers journal logs
    → callers ≤ 2 ^ 32 → journal_of (history_of journal logs) ≡ journal
run_journal config start lines callers journal logs run few = history_journal journal logs (run_gathered config start lines callers journal logs run few).small
