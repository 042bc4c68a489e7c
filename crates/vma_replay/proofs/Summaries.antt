-- For `give_summary`: what is counted of the run of a trace in the order of its lines is the summary of the trace.
use Rattle.std.proofs.Common.{ℕ, ◌≡◌, ◌+◌, ◌∙◌, refl, sym, ap, Bool, true, false, cond, if◌then◌else◌, List, [], ◌∷◌, ◌++◌, append-nil, length, map, count_by, slice_get, unwrap_or, arith}
use Rattle.std.proofs.lemmas.List.{length-map}
use Rattle.std.proofs.lemmas.List.Sums.{sum_by-append, sum_by-cons, length-filter}
use Rattle.mm_types.specs.declared.call.Entry.{Entry}
use Rattle.mm_types.specs.declared.call.Seen.{Seen}
use Rattle.mm_types.specs.declared.call.Seen.TheVariants as reads
use Rattle.mm_types.specs.declared.config.Config.{Config}
use Rattle.mm_types.specs.Sorts.{insert_in_order, sort_stably}
use Rattle.lock_core.specs.Facts.{list_after}
use Rattle.trace_reader.specs.declared.trace.Trace.{Trace}
use Rattle.trace_reader.specs.declared.trace.TraceLine.{TraceLine}
use Rattle.history.specs.declared.items.Content.{Content}
use Rattle.history.specs.declared.items.Content.TheVariants as contents
use Rattle.history.specs.declared.items.Item.{Item}
use Rattle.history.specs.Histories.{caller_of, is_call, journal_of, op_asked, read_as, gather, serial_history, goes_first}
use Rattle.history.specs.Runs.{content_of, entry_items, history_of, log_items, logs_items, ops_of, own_of, read_item}
use Rattle.history.specs.Labels.{labelled, label_of, IsSerialRun}
use Rattle.history.proofs.Labels.{label_is_serial}
use Rattle.history.proofs.Placed.{count_calls}
use Rattle.mm_space.specs.Closing.{ClosedView}
use Rattle.gen_load.specs.Loads.{load_trace}
use Rattle.vma_replay.specs.declared.summary.Summary.{Summary}
use Rattle.vma_replay.specs.declared.words.Mode.TheVariants as modes
use Rattle.vma_replay.specs.Replaying.{IsRunOf}
use Rattle.vma_replay.specs.Summaries.{count_of, is_fault, is_refused, is_served, summary_of_trace, summary_text, text_of_summary}
use Rattle.vma_replay.specs.Internal.Tallies.{tally_of}
use Rattle.vma_replay.proofs.RunTexts.{list_of_run, serial_is, serial_own}

-- one element more
count_cons : {X : Type 0} (is : X → Bool) (x : X) (xs : List X) → count_by is (x ∷ xs) ≡ cond (is x) 1 0 + count_by is xs
count_cons is x xs = sum_by-cons (λ x. cond (is x) 1 0) x xs

count_append : {X : Type 0} (is : X → Bool) (xs ys : List X) → count_by is (xs ++ ys) ≡ count_by is xs + count_by is ys
count_append is xs ys = sum_by-append (λ x. cond (is x) 1 0) xs ys

-- a sort leaves each count as it is
count_insert : {X : Type 0} (goes : X → X → Bool) (test : X → Bool) (x : X) (xs : List X)
    → count_by test (insert_in_order goes x xs) ≡ cond (test x) 1 0 + count_by test xs
count_insert goes test x [] = count_cons test x []
count_insert goes test x (y ∷ ys) = by_order goes test x y ys (count_insert goes test x ys) (goes x y)
  where
    by_order : {X : Type 0} (goes : X → X → Bool) (test : X → Bool) (x y : X) (ys : List X)
        → count_by test (insert_in_order goes x ys) ≡ cond (test x) 1 0 + count_by test ys → (b : Bool)
        → count_by test (if b then x ∷ y ∷ ys else y ∷ insert_in_order goes x ys) ≡ cond (test x) 1 0 + count_by test (y ∷ ys)
    by_order goes test x y ys rest true = count_cons test x (y ∷ ys)
    by_order goes test x y ys rest false = omega (arith, count_cons test y (insert_in_order goes x ys), rest, count_cons test y ys)

count_sort : {X : Type 0} (goes : X → X → Bool) (test : X → Bool) (xs : List X) → count_by test (sort_stably goes xs) ≡ count_by test xs
count_sort goes test [] = refl
count_sort goes test (x ∷ xs) = omega (arith, count_insert goes test x (sort_stably goes xs), count_sort goes test xs, count_cons test x xs)

-- and so do the callers that items are given
count_labelled : (is : Content → Bool) (trace lines : List TraceLine) (items : List Item) → length items ≡ length lines
    → count_by (λ item. is item.content) (labelled trace lines items) ≡ count_by (λ item. is item.content) items
count_labelled is trace [] [] same = refl
count_labelled is trace [] (item ∷ items) same = absurd (omega arith)
count_labelled is trace (line ∷ lines) [] same = refl
count_labelled is trace (line ∷ lines) (item ∷ items) same =
    count_cons (λ (i : Item). is i.content) (record { caller = caller_of trace line.thread; version = item.version; content = item.content })
    (labelled trace lines items)
    ∙ ap (λ (n : ℕ). cond (is item.content) 1 0 + n) (count_labelled is trace lines items (omega arith))
    ∙ sym (count_cons (λ (i : Item). is i.content) item items)

-- what is counted of the items of a journal and of a log
count_entries : (is : Content → Bool) (version : ℕ) (journal : List Entry)
    → count_by (λ (item : Item). is item.content) (entry_items version journal) ≡ count_by (λ (e : Entry). is (contents.Called e.call e.reply)) journal
unfolding entry_items
count_entries is version [] = refl
count_entries is version (e ∷ journal) =
    count_cons (λ (item : Item). is item.content) (record { caller = e.caller; version = version + 1; content = contents.Called e.call e.reply })
    (entry_items (version + 1) journal)
    ∙ ap (λ (n : ℕ). cond (is (contents.Called e.call e.reply)) 1 0 + n) (count_entries is (version + 1) journal)
    ∙ sym (count_cons (λ (e : Entry). is (contents.Called e.call e.reply)) e journal)

count_log : (is : Content → Bool) (caller : ℕ) (log : List Seen)
    → count_by (λ (item : Item). is item.content) (log_items caller log) ≡ count_by (λ (read : Seen). is (content_of read)) log
unfolding log_items
count_log is caller [] = refl
count_log is caller (read ∷ log) =
    count_cons (λ (item : Item). is item.content) (read_item caller read) (map (read_item caller) log)
    ∙ ap (λ (n : ℕ). cond (is (content_of read)) 1 0 + n) (count_log is caller log)
    ∙ sym (count_cons (λ (read : Seen). is (content_of read)) read log)

-- a run of all lines has an item for each of them
as_many : (config : Config) (lines : List TraceLine) (journal : List Entry) (log : List Seen) → IsSerialRun config lines journal log
    → length (history_of journal (log ∷ [])) ≡ length lines
unfolding ops_of
as_many config lines journal log run =
    ap length (serial_own config lines journal log run)
    ∙ sym (length-map (own_of 0 journal log) (λ (item : Item). op_asked item.content))
    ∙ ap length run.done
    ∙ length-map lines (λ (line : TraceLine). read_as line.op)

-- so what is counted of the history of a trace is counted of the journal and of the log
count_serial : (is : Content → Bool) (config : Config) (lines : List TraceLine) (journal : List Entry) (log : List Seen)
    → IsSerialRun config lines journal log
    → count_of is (serial_history config lines)
    ≡ count_by (λ (e : Entry). is (contents.Called e.call e.reply)) journal + count_by (λ (read : Seen). is (content_of read)) log
unfolding count_of label_of history_of logs_items
count_serial is config lines journal log run =
    let items : List Item = entry_items 0 journal ++ (log_items 0 log ++ []) in
    ap (count_by (λ (item : Item). is item.content)) (sym (label_is_serial config lines journal log run))
    ∙ count_sort goes_first (λ (item : Item). is item.content) (labelled lines lines (gather items))
    ∙ count_labelled is lines lines (gather items) (as_many config lines journal log run)
    ∙ count_sort goes_first (λ (item : Item). is item.content) items
    ∙ count_append (λ (item : Item). is item.content) (entry_items 0 journal) (log_items 0 log ++ [])
    ∙ ap (λ (n : ℕ). n + count_by (λ (item : Item). is item.content) (log_items 0 log ++ [])) (count_entries is 0 journal)
    ∙ ap (λ (l : List Item). count_by (λ (e : Entry). is (contents.Called e.call e.reply)) journal + count_by (λ (item : Item). is item.content) l)
    (append-nil (log_items 0 log))
    ∙ ap (λ (n : ℕ). count_by (λ (e : Entry). is (contents.Called e.call e.reply)) journal + n) (count_log is 0 log)

-- an entry is a call, and no read is one
count_all : {X : Type 0} (xs : List X) → count_by (λ (x : X). true) xs ≡ length xs
count_all [] = refl
count_all (x ∷ xs) = omega (arith, count_cons (λ x. true) x xs, count_all xs)

count_none : {X : Type 0} (is : X → Bool) → ((x : X) → is x ≡ false) → (xs : List X) → count_by is xs ≡ 0
count_none is never [] = refl
count_none is never (x ∷ xs) =
    count_cons is x xs ∙ ap (λ (b : Bool). cond b 1 0 + count_by is xs) (never x) ∙ omega (arith, count_none is never xs)

no_call : (read : Seen) → is_call (content_of read) ≡ false
no_call (reads.Fault version page access verdict) = refl
no_call (reads.Maps version list) = refl

never_refused : (read : Seen) → is_refused (content_of read) ≡ false
never_refused (reads.Fault version page access verdict) = refl
never_refused (reads.Maps version list) = refl

calls_counted : (config : Config) (lines : List TraceLine) (journal : List Entry) (log : List Seen) → IsSerialRun config lines journal log
    → count_of is_call (serial_history config lines) ≡ length journal
calls_counted config lines journal log run =
    let all : count_of is_call (serial_history config lines)
    ≡ count_by (λ (e : Entry). true) journal + count_by (λ (read : Seen). is_call (content_of read)) log
    = count_serial is_call config lines journal log run in
    omega (arith, all, count_all journal, count_none (λ (read : Seen). is_call (content_of read)) no_call log)

refusals_counted : (config : Config) (lines : List TraceLine) (journal : List Entry) (log : List Seen) → IsSerialRun config lines journal log
    → count_of is_refused (serial_history config lines) ≡ count_by (λ (e : Entry). is_refused (contents.Called e.call e.reply)) journal
refusals_counted config lines journal log run =
    omega (
      arith,
      count_serial is_refused config lines journal log run,
      count_none (λ (read : Seen). is_refused (content_of read)) never_refused log,
    )

faults_counted : (config : Config) (lines : List TraceLine) (journal : List Entry) (log : List Seen) → IsSerialRun config lines journal log
    → count_of is_fault (serial_history config lines) ≡ count_by (λ (read : Seen). is_fault (content_of read)) log
faults_counted config lines journal log run =
    omega (
      arith,
      count_serial is_fault config lines journal log run,
      count_none (λ (e : Entry). is_fault (contents.Called e.call e.reply)) (λ e. refl) journal,
    )

services_counted : (config : Config) (lines : List TraceLine) (journal : List Entry) (log : List Seen) → IsSerialRun config lines journal log
    → count_of is_served (serial_history config lines) ≡ count_by (λ (read : Seen). is_served (content_of read)) log
services_counted config lines journal log run =
    omega (
      arith,
      count_serial is_served config lines journal log run,
      count_none (λ (e : Entry). is_served (contents.Called e.call e.reply)) (λ e. refl) journal,
    )

version_counted : (items : List Item) → length (journal_of items) ≡ count_of is_call items
unfolding count_of
version_counted items = count_calls items ∙ length-filter (λ (item : Item). is_call item.content) items

-- two summaries are one where their numbers are
same_numbers : (a b : Summary) → a.calls ≡ b.calls → a.refused ≡ b.refused → a.faults ≡ b.faults → a.served ≡ b.served
    → a.version ≡ b.version → a.areas ≡ b.areas → a ≡ b
same_numbers a b calls refused faults served version areas =
    ap (λ (n : ℕ). record a { calls = n }) calls
    ∙ ap (λ (n : ℕ). record a { calls = b.calls; refused = n }) refused
    ∙ ap (λ (n : ℕ). record a { calls = b.calls; refused = b.refused; faults = n }) faults
    ∙ ap (λ (n : ℕ). record b { served = n; version = a.version; areas = a.areas }) served
    ∙ ap (λ (n : ℕ). record b { version = n; areas = a.areas }) version
    ∙ ap (λ (n : ℕ). record b { areas = n }) areas

-- what is counted of a run is the summary of its trace
pub tally_is_summary : (trace : Trace) (run : ClosedView) → IsRunOf modes.Serial trace run → run.list ≡ list_after trace.config run.journal
    → tally_of run ≡ summary_of_trace trace
tally_is_summary trace run is list =
    let log : unwrap_or (slice_get run.logs 0) [] ≡ is.0 = ap (λ (l : List (List Seen)). unwrap_or (slice_get l 0) []) is.1 in
    let calls = calls_counted trace.config trace.lines run.journal is.0 is.2 in
    same_numbers (tally_of run) (summary_of_trace trace)
    (sym calls)
    (sym (refusals_counted trace.config trace.lines run.journal is.0 is.2))
    (ap (λ (l : List Seen). count_by (λ (read : Seen). is_fault (content_of read)) l) log
    ∙ sym (faults_counted trace.config trace.lines run.journal is.0 is.2))
    (ap (λ (l : List Seen). count_by (λ (read : Seen). is_served (content_of read)) l) log
    ∙ sym (services_counted trace.config trace.lines run.journal is.0 is.2))
    (sym (version_counted (serial_history trace.config trace.lines) ∙ calls))
    (ap length (list_of_run modes.Serial trace run is list
    ∙ ap (λ (l : List Item). list_after trace.config (journal_of l)) (serial_is trace run is)))

-- so the text of what is counted of a run is the summary of the generated trace
pub text_is_summary : (count seed : ℕ) (run : ClosedView) (text : List ℕ) → IsRunOf modes.Serial (load_trace count seed) run
    → run.list ≡ list_after (load_trace count seed).config run.journal → text ≡ text_of_summary (tally_of run) → text ≡ summary_text count seed
unfolding summary_text
text_is_summary count seed run text is list told = told ∙ ap text_of_summary (tally_is_summary (load_trace count seed) run is list)
