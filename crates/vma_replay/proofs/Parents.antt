-- Serves `closed_family`: the journal of a parent that has run, and its forks.
use Rattle.std.proofs.Common.{ℕ, ◌≡◌, ◌+◌, ◌<◌, ◌≤◌, ◌∙◌, refl, sym, ap, subst, Bool, false, not, List, [], ◌∷◌, ◌++◌, append_assoc, append-nil, length, length-append, take, drop, take-append-drop, slice_get, get_or, zero, suc, Option, Some, None, All, Contains, arith, inl, inr}
use Rattle.std.specs.Prelude.{is_some}
use Rattle.std.specs.List.{list_any, cons_option}
use Rattle.std.specs.Option.{option_map_or}
use Rattle.std.proofs.lemmas.Bool.{cases_lt}
use Rattle.std.proofs.lemmas.List.{length-map, take_more}
use Rattle.std.proofs.lemmas.List.Elements.{All-nil, All-cons, All-head, All-tail, All-weaker, All-append}
use Rattle.std.proofs.lemmas.Option.{slice_get-get_or}
use Rattle.mm_types.specs.declared.call.Entry.{Entry}
use Rattle.mm_types.specs.declared.call.Seen.{Seen}
use Rattle.mm_types.specs.declared.config.Config.{Config}
use Rattle.trace_reader.specs.declared.trace.Op.{Op}
use Rattle.trace_reader.specs.declared.trace.Trace.{Trace}
use Rattle.trace_reader.specs.declared.trace.TraceLine.{TraceLine}
use Rattle.trace_reader.specs.Lines.{has_child}
use Rattle.trace_reader.specs.Values.{IsTraceValue, child_of, children_of}
use Rattle.area_rules.specs.Journals.{calls_by, version_of, IsReadRight}
use Rattle.lock_core.specs.Facts.{list_after}
use Rattle.history.specs.declared.callers.TheConstants.{MOST_THREADS}
use Rattle.history.specs.declared.items.Item.{Item}
use Rattle.history.specs.Histories.{caller_of, lines_of, items_of, line_answered, op_asked, read_as, gather, journal_of, IsLegalHistory}
use Rattle.history.specs.Runs.{entry_items, log_items, logs_items, own_of, ops_of, history_of, IsRun}
use Rattle.history.specs.Labels.{labelled, label_of, IsSerialRun}
use Rattle.history.specs.CallerPlaces.{callers_of}
use Rattle.history.proofs.Advances.{journal_within, version_more}
use Rattle.history.proofs.Finished.{run_journal}
use Rattle.history.proofs.Gathers.{all_gather}
use Rattle.history.proofs.Legal.{all_log, entries_below, history_journal, small_items}
use Rattle.history.proofs.Lists.{at_place}
use Rattle.history.proofs.Numbers.{own_place, passed}
use Rattle.history.proofs.Placed.{journal_append}
use Rattle.history.proofs.Steps.{entry_item, Stands, entries_stand}
use Rattle.history.proofs.ThreadCounts.{items_within}
use Rattle.split_merge.proofs.Counting.{contains_later}
use Rattle.mm_types.proofs.Sorting.{All-sort_by}
use Rattle.mm_space.specs.Closing.{ClosedView}
use Rattle.history.specs.Parents.{parent_lines, parent_trace}
use Rattle.history.proofs.OneSpace.{all_of_parent, parent_is_trace}
use Rattle.vma_drive.proofs.NamesShared.{few_callers}
use Rattle.vma_replay.specs.declared.forks.Fork.{Fork}
use Rattle.vma_replay.specs.declared.words.Mode.{Mode}
use Rattle.vma_replay.specs.declared.words.Mode.TheVariants as modes
use Rattle.output.specs.Output.{told_by}
use Rattle.vma_replay.specs.Forks.{fork_of, forks_from, forks_of}
use Rattle.output.specs.Giving.{AreLegal}
use Rattle.vma_replay.specs.Internal.Families.{AreRunsOfChildren, IsFamily, IsForkOf, IsParentJournal}
use Rattle.vma_replay.specs.Replaying.{IsRunOf, history_of_run}
use Rattle.vma_replay.proofs.RunTexts.{first_log, legal_of_run, serial_own}
use Rattle.output.proofs.Answering.{there, none_at}

-- ---- the journal of a parent

entries_of : (most version : ℕ) (journal : List Entry) → All (λ (item : Item). item.caller < most) (entry_items version journal)
    → All (λ (entry : Entry). entry.caller < most) journal
unfolding entry_items
entries_of most version [] all = All-nil (λ (entry : Entry). entry.caller < most)
entries_of most version (entry ∷ entries) all =
    let P : Item → Type 0 = λ item. item.caller < most in
    All-cons (λ (entry : Entry). entry.caller < most) entry entries
    (All-head P (entry_item version entry) (entry_items (version + 1) entries) all)
    (entries_of most (version + 1) entries (All-tail P (entry_item version entry) (entry_items (version + 1) entries) all))

-- where nobody from a number on has an entry, all callers are below a greater one
callers_below : (least most : ℕ) (journal : List Entry) → least ≤ most → ((caller : ℕ) → least ≤ caller → calls_by caller journal ≡ [])
    → All (λ entry. entry.caller < most) journal
callers_below least most journal within others =
    All-weaker (λ (entry : Entry). entry.caller < least) (λ (entry : Entry). entry.caller < most) (λ entry below. omega arith) journal
    (entries_of least 0 journal (entries_below least 0 journal others))

-- an item of a legal history is of a caller that has a line
item_caller : (config : Config) (lines : List TraceLine) (items : List Item) (callers : ℕ) → IsLegalHistory config [] lines items
    → ((caller : ℕ) → callers ≤ caller → lines_of lines caller ≡ []) → All (λ item. item.caller < callers) items
unfolding line_answered
item_caller config lines items callers legal none = λ place d within.
    let item : Item = get_or items place d in
    let next = there (line_answered lines (take place items) item) (λ line. read_as line.op ≡ op_asked item.content) (legal.stands place item (slice_get-get_or items place d within)).next in
    elim (cases_lt item.caller callers) [
      | inl below ↦ below
      | inr past ↦ absurd (none_at (lines_of lines item.caller) (length (items_of (take place items) item.caller)) next.0 (none item.caller past) next.1)
    ]

-- a run has no more entries than lines
few_entries : (config : Config) (lines : List TraceLine) (journal : List Entry) (logs : List (List Seen)) → IsRun config [] lines (callers_of lines) journal logs
    → IsLegalHistory config [] lines (history_of journal logs) → length journal ≤ length lines
few_entries config lines journal logs run legal =
    let items : List Item = history_of journal logs in
    let same : journal_of items ≡ journal = run_journal config [] lines (callers_of lines) journal logs run (omega (arith, few_callers lines)) in
    let within : length items ≤ length lines = items_within lines items (callers_of lines)
    (item_caller config lines items (callers_of lines) legal run.no_lines) (λ caller. omega (arith, legal.none_left caller)) in
    omega (arith, within, journal_within items, ap (λ (j : List Entry). length j) same)

serial_few : (config : Config) (lines : List TraceLine) (journal : List Entry) (log : List Seen) → IsSerialRun config lines journal log
    → length journal ≤ length lines
unfolding ops_of
serial_few config lines journal log run =
    let items : List Item = history_of journal (log ∷ []) in
    let small = small_items 1 journal (log ∷ []) (omega arith) (omega arith) run.others in
    let entries : journal_of items ≡ journal = history_journal journal (log ∷ []) small in
    let own : items ≡ own_of 0 journal log = serial_own config lines journal log run in
    let ops : length (own_of 0 journal log) ≡ length lines =
    sym (length-map (own_of 0 journal log) (λ (item : Item). op_asked item.content)) ∙ ap (λ (l : List Op). length l) run.done
    ∙ length-map lines (λ (line : TraceLine). read_as line.op) in
    omega (arith, journal_within items, ap (λ (j : List Entry). length j) entries, ap (λ (l : List Item). length l) own, ops)

-- the journal of a run is that of a parent
pub of_parent : (mode : Mode) (trace : Trace) (run : ClosedView) → IsTraceValue trace → IsRunOf mode trace run → IsParentJournal trace.config run.journal
of_parent modes.Threads trace run value is = record {
  legal = record { replies = is.legal.replies };
  callers = callers_below (callers_of trace.lines) MOST_THREADS run.journal (few_callers trace.lines) is.others;
  few = omega (
    arith,
    value.few,
    few_entries trace.config trace.lines run.journal run.logs is (legal_of_run modes.Threads trace run value is),
  );
}
of_parent modes.Serial trace run value is = record {
  legal = is.2.legal;
  callers = callers_below 1 MOST_THREADS run.journal (omega arith) is.2.others;
  few = omega (arith, value.few, serial_few trace.config trace.lines run.journal is.0 is.2);
}

-- ---- its forks

taken_few : (items : List Item) (place : ℕ) → length (journal_of (take place items)) ≤ length (journal_of items)
taken_few items place =
    let split : journal_of items ≡ journal_of (take place items) ++ journal_of (drop place items) =
    ap journal_of (sym (take-append-drop place items)) ∙ journal_append (take place items) (drop place items) in
    omega (arith, ap (λ (j : List Entry). length j) split, length-append (journal_of (take place items)) (journal_of (drop place items)))

-- an item is at most of the version at the end
legal_versions : (config : Config) (lines : List TraceLine) (items : List Item) → IsLegalHistory config [] lines items
    → All (λ item. item.version ≤ length (journal_of items)) items
legal_versions config lines items legal = λ place d within.
    let item : Item = get_or items place d in
    let more : take (place + 1) items ≡ take place items ++ item ∷ [] = take_more items place d within in
    omega (
      arith,
      (legal.stands place item (slice_get-get_or items place d within)).version,
      version_more (take place items) item,
      ap (λ (l : List Item). length (journal_of l)) more,
      taken_few items (place + 1),
    )

labelled_versions : (most : ℕ) (trace lines : List TraceLine) (items : List Item) → All (λ item. item.version ≤ most) items
    → All (λ item. item.version ≤ most) (labelled trace lines items)
labelled_versions most trace [] items all = All-nil (λ (item : Item). item.version ≤ most)
labelled_versions most trace (line ∷ lines) [] all = All-nil (λ (item : Item). item.version ≤ most)
labelled_versions most trace (line ∷ lines) (item ∷ items) all =
    let P : Item → Type 0 = λ item. item.version ≤ most in
    All-cons P (record { caller = caller_of trace line.thread; version = item.version; content = item.content }) (labelled trace lines items)
    (All-head P item items all) (labelled_versions most trace lines items (All-tail P item items all))

read_versions : (config : Config) (journal : List Entry) (caller : ℕ) (log : List Seen) → All (IsReadRight config journal) log
    → All (λ item. item.version ≤ length journal) (log_items caller log)
read_versions config journal caller log right =
    all_log (λ item. item.version ≤ length journal) caller log
    (All-weaker (IsReadRight config journal) (λ (read : Seen). version_of read ≤ length journal) (λ read is. is.within) log right)

serial_versions : (config : Config) (lines : List TraceLine) (journal : List Entry) (log : List Seen) → IsSerialRun config lines journal log
    → All (λ item. item.version ≤ length journal) (label_of lines journal log)
unfolding label_of history_of logs_items
serial_versions config lines journal log run =
    let P : Item → Type 0 = λ item. item.version ≤ length journal in
    let made : All P (entry_items 0 journal) = All-weaker (Stands (length journal)) P (λ item is. is.0) (entry_items 0 journal)
    (entries_stand 0 (length journal) journal (omega arith)) in
    let logged : All P (log_items 0 log ++ []) = All-append P (log_items 0 log) [] (read_versions config journal 0 log run.right) (All-nil P) in
    all_gather P (labelled lines lines (gather (entry_items 0 journal ++ (log_items 0 log ++ []))))
    (labelled_versions (length journal) lines lines (gather (entry_items 0 journal ++ (log_items 0 log ++ [])))
    (all_gather P (entry_items 0 journal ++ (log_items 0 log ++ [])) (All-append P (entry_items 0 journal) (log_items 0 log ++ []) made logged)))

versions_within : (mode : Mode) (trace : Trace) (run : ClosedView) → IsTraceValue trace → IsRunOf mode trace run
    → All (λ item. item.version ≤ length run.journal) (history_of_run mode trace run)
versions_within modes.Threads trace run value is =
    subst (λ (j : List Entry). All (λ (item : Item). item.version ≤ length j) (history_of run.journal run.logs))
    (run_journal trace.config [] trace.lines (callers_of trace.lines) run.journal run.logs is (omega (arith, few_callers trace.lines)))
    (legal_versions trace.config trace.lines (history_of run.journal run.logs) (legal_of_run modes.Threads trace run value is))
versions_within modes.Serial trace run value is =
    subst (λ (l : List Seen). All (λ (item : Item). item.version ≤ length run.journal) (label_of trace.lines run.journal l))
    (sym (first_log run.logs is.0 is.1)) (serial_versions trace.config trace.lines run.journal is.0 is.2)

-- what is told of each item holds of what is told of all
told_each : {X : Type 0} (tell : TraceLine → Item → List X) (lines : List TraceLine) (P : X → Type 0) (before rest : List Item)
    → ((place : ℕ) (item : Item) (line : TraceLine) → slice_get rest place ≡ Some item → line_answered lines (before ++ take place rest) item ≡ Some line
    → All P (tell line item))
    → All P (told_by tell lines before rest)
told_each tell lines P before [] each = All-nil P
told_each {X} tell lines P before (item ∷ items) each =
    All-append P (option_map_or (λ line. tell line item) (line_answered lines before item) []) (told_by tell lines (before ++ item ∷ []) items)
    (first (line_answered lines before item) refl)
    (told_each tell lines P (before ++ item ∷ []) items
    (λ place other line found at. each (suc place) other line found
    (subst (λ (l : List Item). line_answered lines l other ≡ Some line) (append_assoc before (item ∷ []) (take place items)) at)))
  where
    first : (o : Option TraceLine) → line_answered lines before item ≡ o → All P (option_map_or (λ line. tell line item) o [])
    first None is = All-nil P
    first (Some line) is = each 0 item line refl (ap (λ (l : List Item). line_answered lines l item) (append-nil before) ∙ is)

-- a line that forks a child stands among lines that fork it
forked : (lines : List TraceLine) (place : ℕ) (line : TraceLine) (child : ℕ) → slice_get lines place ≡ Some line → child_of line.op ≡ Some child
    → Contains (children_of lines) child
forked [] place line child found forks = absurd (cc)
forked (first ∷ lines) zero line child found forks =
    let is : first ≡ line = cc in
    let same : child_of first.op ≡ Some child = ap (λ (l : TraceLine). child_of l.op) is ∙ forks in
    subst (λ (o : Option ℕ). Contains (cons_option o (children_of lines)) child) (sym same) (0, omega arith, refl)
forked (first ∷ lines) (suc place) line child found forks = later (child_of first.op) (forked lines place line child found forks)
  where
    later : (o : Option ℕ) → Contains (children_of lines) child → Contains (cons_option o (children_of lines)) child
    later None contained = contained
    later (Some other) contained = contains_later other (children_of lines) child contained

-- the line that an item answers is one of the lines
answered_line : (lines : List TraceLine) (before : List Item) (item : Item) (line : TraceLine) → line_answered lines before item ≡ Some line
    → (place : ℕ) × (slice_get lines place ≡ Some line)
unfolding line_answered
answered_line lines before item line answers =
    let at = own_place lines item.caller (length (items_of before item.caller)) line answers in (at.0, at.1)

-- each fork of a parent's history is of a line of the trace, and at a version of its journal
forks_right : (lines : List TraceLine) (journal : List Entry) (items : List Item) → All (λ item. item.version ≤ length journal) items
    → All (IsForkOf lines journal) (forks_of (parent_lines lines) items)
forks_right lines journal items within =
    let P : Fork → Type 0 = IsForkOf lines journal in
    All-sort_by (λ (fork : Fork). fork.child) P (forks_from (parent_lines lines) items)
    (told_each fork_of (parent_lines lines) P [] items (λ place item line found answers.
    let at = answered_line (parent_lines lines) (take place items) item line answers in
    let among = passed (λ (l : TraceLine). not (has_child (children_of lines) l.thread)) lines at.0 line at.1 in
    one line item among.0 among.1 (at_place (λ (i : Item). i.version ≤ length journal) items place item within found) (child_of line.op) refl))
  where
    one : (line : TraceLine) (item : Item) (place : ℕ) → slice_get lines place ≡ Some line → item.version ≤ length journal
        → (o : Option ℕ) → child_of line.op ≡ o
        → All (IsForkOf lines journal) (option_map_or (λ child. record { child = child; line = line.number; version = item.version } ∷ []) o [])
    one line item place found within None is = All-nil (IsForkOf lines journal)
    one line item place found within (Some child) is =
        All-cons (IsForkOf lines journal) (record { child = child; line = line.number; version = item.version }) []
        (record { child = forked lines place line child found is; within = within }) (All-nil (IsForkOf lines journal))

-- so it is of a parent that has run
pub forks_of_parent : (mode : Mode) (trace : Trace) (run : ClosedView) → IsTraceValue trace → IsRunOf mode (parent_trace trace) run
    → All (IsForkOf trace.lines run.journal) (forks_of (parent_lines trace.lines) (history_of_run mode (parent_trace trace) run))
forks_of_parent mode trace run value is = forks_right trace.lines run.journal (history_of_run mode (parent_trace trace) run)
    (versions_within mode (parent_trace trace) run (parent_is_trace trace value) is)

-- ---- a family, by what was made of it

-- the history of a run is legal
pub legal_items : (mode : Mode) (trace : Trace) (run : ClosedView) (lines : List TraceLine) (history shown : List Item) → IsTraceValue trace
    → IsRunOf mode trace run → lines ≡ trace.lines → history ≡ history_of_run mode trace run → shown ≡ history → AreLegal lines shown
legal_items mode trace run lines history shown value is of_trace made same = (
  trace.config,
  [],
  subst (λ (l : List TraceLine). IsLegalHistory trace.config [] l shown) (sym of_trace)
      (subst (λ (h : List Item). IsLegalHistory trace.config [] trace.lines h) (sym (same ∙ made)) (legal_of_run mode trace run value is)),
)

-- the journal of a parent's run
pub bears : (mode : Mode) (trace : Trace) (run : ClosedView) → IsTraceValue trace → IsRunOf mode (parent_trace trace) run
    → IsParentJournal trace.config run.journal
bears mode trace run value is = of_parent mode (parent_trace trace) run (parent_is_trace trace value) is

-- the forks that were found
found_are : (trace : Trace) (mode : Mode) (run : ClosedView) (lines : List TraceLine) (history shown : List Item) (found : List Fork)
    → lines ≡ parent_lines trace.lines → history ≡ history_of_run mode (parent_trace trace) run → shown ≡ history
    → found ≡ forks_of lines shown → found ≡ forks_of (parent_lines trace.lines) (history_of_run mode (parent_trace trace) run)
found_are trace mode run lines history shown found own made same are =
    are ∙ ap (λ (l : List TraceLine). forks_of l shown) own ∙ ap (forks_of (parent_lines trace.lines)) (same ∙ made)

pub found_right : (trace : Trace) (mode : Mode) (run : ClosedView) (lines : List TraceLine) (history shown : List Item) (found : List Fork)
    → IsTraceValue trace → IsRunOf mode (parent_trace trace) run
    → lines ≡ parent_lines trace.lines → history ≡ history_of_run mode (parent_trace trace) run → shown ≡ history
    → found ≡ forks_of lines shown → All (IsForkOf trace.lines run.journal) found
found_right trace mode run lines history shown found value run_is own made same are =
    subst (λ (l : List Fork). All (IsForkOf trace.lines run.journal) l)
    (sym (found_are trace mode run lines history shown found own made same are)) (forks_of_parent mode trace run value run_is)

-- so all make a family
pub family_made : (trace : Trace) (mode : Mode) (run : ClosedView) (lines : List TraceLine) (history shown : List Item) (found : List Fork)
    (seen : List Fork) (runs : List ClosedView) → IsRunOf mode (parent_trace trace) run → run.list ≡ list_after trace.config run.journal
    → lines ≡ parent_lines trace.lines → history ≡ history_of_run mode (parent_trace trace) run → shown ≡ history
    → found ≡ forks_of lines shown → seen ≡ found
    → (children : List ClosedView) × (runs ≡ run ∷ children) × AreRunsOfChildren trace run.journal seen children
    → IsFamily mode trace history found runs
family_made trace mode run lines history shown found seen runs run_is list own made same are showing children = record {
  parent = run;
  children = children.0;
  runs_are = children.1;
  parent_is = run_is;
  list = list;
  history_is = made;
  forks_are = found_are trace mode run lines history shown found own made same are ∙ ap (forks_of (parent_lines trace.lines)) (sym made);
  children_are = subst (λ (l : List Fork). AreRunsOfChildren trace run.journal l children.0) showing children.2;
}

-- its forks are of children of the trace
pub family_children : (mode : Mode) (trace : Trace) (history : List Item) (forks seen : List Fork) (runs : List ClosedView) → IsTraceValue trace
    → IsFamily mode trace history forks runs → seen ≡ forks → All (λ fork. Contains (children_of trace.lines) fork.child) seen
family_children mode trace history forks seen runs value family same =
    let right : List Fork = forks_of (parent_lines trace.lines) (history_of_run mode (parent_trace trace) family.parent) in
    subst (λ (l : List Fork). All (λ fork. Contains (children_of trace.lines) fork.child) l)
    (sym (same ∙ family.forks_are ∙ ap (forks_of (parent_lines trace.lines)) family.history_is))
    (All-weaker (IsForkOf trace.lines family.parent.journal) (λ fork. Contains (children_of trace.lines) fork.child) (λ fork is. is.child) right
    (forks_of_parent mode trace family.parent value family.parent_is))

-- a trace of which no line forks is its parent's
pub own_parent : (trace : Trace) (lines : List TraceLine) (some : Bool) → lines ≡ trace.lines
    → some ≡ list_any (λ line. is_some (child_of line.op)) lines → some ≡ false → trace ≡ parent_trace trace
own_parent trace lines some same is none =
    let free : list_any (λ line. is_some (child_of line.op)) trace.lines ≡ false =
    ap (λ (l : List TraceLine). list_any (λ line. is_some (child_of line.op)) l) (sym same) ∙ sym is ∙ none in
    ap (λ (l : List TraceLine). record trace { lines = l }) (sym (all_of_parent trace.lines free))
