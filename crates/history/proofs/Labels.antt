-- For `labels_make_the_serial_history`: the items of a run of all lines by one caller are those of the lines, but for their callers.
use Rattle.std.proofs.Common.{ℕ, zero, suc, ◌≡◌, ◌+◌, ◌<◌, ◌∙◌, refl, sym, ap, subst, if◌then◌else◌, nat_eq, List, [], ◌∷◌, ◌++◌, append_assoc, map, filter, take, slice_get, All, Some, arith}
use Rattle.std.proofs.lemmas.Bool.{cond-true, eq-eqb}
use Rattle.std.proofs.lemmas.List.{append-nil}
use Rattle.std.proofs.lemmas.List.Elements.{All-head, All-tail}
use Rattle.mm_types.specs.declared.call.Entry.{Entry}
use Rattle.mm_types.specs.declared.call.Seen.{Seen}
use Rattle.mm_types.specs.declared.config.Config.{Config}
use Rattle.trace_reader.specs.declared.trace.Op.{Op}
use Rattle.trace_reader.specs.declared.trace.TraceLine.{TraceLine}
use Rattle.area_rules.specs.Tables.{AddressSpace}
use Rattle.area_rules.specs.Steps.{opening, after}
use Rattle.history.specs.declared.items.Content.{Content}
use Rattle.history.specs.declared.items.Item.{Item}
use Rattle.history.specs.Histories.{caller_of, items_of, read_as, op_asked, is_call, journal_of, gather, answer_of, space_after, version_after, items_from, space_after_all, serial_history}
use Rattle.history.specs.Runs.{entry_items, log_items, logs_items, history_of, own_of, ops_of, asked, IsReadRightAfter}
use Rattle.history.specs.Labels.{labelled, label_of, IsSerialRun}
use Rattle.history.proofs.Calls.{reads_answer, reads_space, reads_version}
use Rattle.history.proofs.Serial.{right_is_answer, next_version, Stands, stands_more, opening_stands}
use Rattle.history.proofs.Legal.{entries_below, small_items, IsGathered, legal_from_opening, right_from_opening, history_journal}
use Rattle.history.proofs.Placed.{IsPlaced, placed}

-- where a history stands after a placed item
stands_next : (config : Config) (before : List Item) (item : Item) (space : AddressSpace) (version : ℕ) → Stands config before space version
    → IsPlaced config [] before item
    → Stands config (before ++ item ∷ []) (space_after config space (op_asked item.content)) (version_after config space version (op_asked item.content))
stands_next config before item space version stands here =
    let op : Op = op_asked item.content in
    subst (λ (c : Content). Stands config (before ++ record { caller = item.caller; version = item.version; content = c } ∷ [])
    (space_after config space op) (version_after config space version op))
    (sym (right_is_answer config (journal_of before) space item.content stands.reached here.right))
    (stands_more config before space version item.caller item.version op stands)

-- so it does after what it was asked
stands_after : (config : Config) (before : List Item) (item : Item) (space : AddressSpace) (version : ℕ) (op : Op) → op_asked item.content ≡ read_as op
    → Stands config (before ++ item ∷ []) (space_after config space (op_asked item.content)) (version_after config space version (op_asked item.content))
    → Stands config (before ++ item ∷ []) (space_after config space op) (version_after config space version op)
stands_after config before item space version op asked stands =
    subst (λ (s : AddressSpace). Stands config (before ++ item ∷ []) s (version_after config space version op))
    (ap (space_after config space) asked ∙ reads_space config space op)
    (subst (λ (v : ℕ). Stands config (before ++ item ∷ []) (space_after config space (op_asked item.content)) v)
    (ap (version_after config space version) asked ∙ reads_version config space version op) stands)

tails : (f : Item → Op) (item : Item) (items : List Item) (line : TraceLine) (lines : List TraceLine)
    → map f (item ∷ items) ≡ asked (line ∷ lines) → map f items ≡ asked lines
tails f item items line lines same = cc

-- items that are placed one after another, and were asked what lines ask, are those of the lines, once they have their callers
placed_items : (config : Config) (trace lines : List TraceLine) (items before : List Item) (space : AddressSpace) (version : ℕ)
    → Stands config before space version
    → map (λ (item : Item). op_asked item.content) items ≡ asked lines
    → ((place : ℕ) (item : Item) → slice_get items place ≡ Some item → IsPlaced config [] (before ++ take place items) item)
    → labelled trace lines items ≡ items_from config trace space version lines
placed_items config trace [] [] before space version stands same each = refl
placed_items config trace [] (item ∷ items) before space version stands same each = absurd (cc)
placed_items config trace (line ∷ lines) [] before space version stands same each = absurd (cc)
placed_items config trace (line ∷ lines) (item ∷ items) before space version stands same each =
    let op : op_asked item.content ≡ read_as line.op = cc in
    let here : IsPlaced config [] before item = subst (λ (b : List Item). IsPlaced config [] b item) (append-nil before) (each 0 item refl) in
    let answer : item.content ≡ answer_of config space (op_asked item.content) =
    right_is_answer config (journal_of before) space item.content stands.reached here.right in
    let now : item.version ≡ version_after config space version (op_asked item.content) =
    here.version ∙ ap (λ (n : ℕ). n + (if is_call item.content then 1 else 0)) stands.counted
    ∙ ap (λ (c : Content). version + (if is_call c then 1 else 0)) answer ∙ sym (next_version config space version (op_asked item.content)) in
    let next : Stands config (before ++ item ∷ []) (space_after config space line.op) (version_after config space version line.op) =
    stands_after config before item space version line.op op (stands_next config before item space version stands here) in
    ap (λ (c : Content). record { caller = caller_of trace line.thread; version = item.version; content = c } ∷ labelled trace lines items)
    (answer ∙ ap (answer_of config space) op ∙ reads_answer config space line.op)
    ∙ ap
    (λ (v : ℕ). record { caller = caller_of trace line.thread; version = v; content = answer_of config space line.op } ∷ labelled trace lines items)
    (now ∙ ap (version_after config space version) op ∙ reads_version config space version line.op)
    ∙ ap
    (λ
    (l : List Item). record {
      caller = caller_of trace line.thread;
      version = version_after config space version line.op;
      content = answer_of config space line.op;
    } ∷ l)
    (placed_items config trace lines items (before ++ item ∷ []) (space_after config space line.op) (version_after config space version line.op) next
    (tails (λ (i : Item). op_asked i.content) item items line lines same)
    (λ place other found. subst (λ (b : List Item). IsPlaced config [] b other) (sym (append_assoc before (item ∷ []) (take place items)))
    (each (suc place) other found)))

-- and their journal leads to the address space after the lines
placed_space : (config : Config) (lines : List TraceLine) (items before : List Item) (space : AddressSpace) (version : ℕ)
    → Stands config before space version
    → map (λ (item : Item). op_asked item.content) items ≡ asked lines
    → ((place : ℕ) (item : Item) → slice_get items place ≡ Some item → IsPlaced config [] (before ++ take place items) item)
    → after config (journal_of (before ++ items)) ≡ space_after_all config space lines
placed_space config [] [] before space version stands same each =
    ap (λ (b : List Item). after config (journal_of b)) (append-nil before) ∙ stands.reached
placed_space config [] (item ∷ items) before space version stands same each = absurd (cc)
placed_space config (line ∷ lines) [] before space version stands same each = absurd (cc)
placed_space config (line ∷ lines) (item ∷ items) before space version stands same each =
    let op : op_asked item.content ≡ read_as line.op = cc in
    let here : IsPlaced config [] before item = subst (λ (b : List Item). IsPlaced config [] b item) (append-nil before) (each 0 item refl) in
    let next : Stands config (before ++ item ∷ []) (space_after config space line.op) (version_after config space version line.op) =
    stands_after config before item space version line.op op (stands_next config before item space version stands here) in
    ap (λ (b : List Item). after config (journal_of b)) (sym (append_assoc before (item ∷ []) items))
    ∙ placed_space config lines items (before ++ item ∷ []) (space_after config space line.op) (version_after config space version line.op) next
    (tails (λ (i : Item). op_asked i.content) item items line lines same)
    (λ place other found. subst (λ (b : List Item). IsPlaced config [] b other) (sym (append_assoc before (item ∷ []) (take place items)))
    (each (suc place) other found))

-- a run by one caller has no other logs
one_log : (config : Config) (journal : List Entry) (log : List Seen) → All (IsReadRightAfter config [] journal) log
    → (caller : ℕ) (other : List Seen) → slice_get (log ∷ []) caller ≡ Some other → All (IsReadRightAfter config [] journal) other
one_log config journal log right zero other found =
    let is : log ≡ other = cc in subst (λ (l : List Seen). All (IsReadRightAfter config [] journal) l) is right
one_log config journal log right (suc caller) other found = absurd (cc)

serial_gathered : (config : Config) (lines : List TraceLine) (journal : List Entry) (log : List Seen) → IsSerialRun config lines journal log
    → IsGathered config [] journal (log ∷ [])
serial_gathered config lines journal log run = record {
  legal = legal_from_opening config journal run.legal;
  made = run.made;
  right = one_log config journal log (right_from_opening config journal log run.right);
  small = small_items 1 journal (log ∷ []) (omega arith) (omega arith) run.others;
}

all_own : (items : List Item) → All (λ item. item.caller < 1) items → items_of items 0 ≡ items
unfolding items_of
all_own [] all = refl
all_own (item ∷ items) all =
    let low : item.caller < 1 = All-head (λ (item : Item). item.caller < 1) item items all in
    let rest : List Item = filter (λ (x : Item). nat_eq x.caller 0) items in
    cond-true (nat_eq item.caller 0) (item ∷ rest) rest (eq-eqb item.caller 0 (omega arith))
    ∙ ap (λ (l : List Item). item ∷ l) (all_own items (All-tail (λ (item : Item). item.caller < 1) item items all))

-- and its history is what that caller did
serial_own : (config : Config) (lines : List TraceLine) (journal : List Entry) (log : List Seen) → IsSerialRun config lines journal log
    → history_of journal (log ∷ []) ≡ own_of 0 journal log
unfolding history_of own_of logs_items
serial_own config lines journal log run =
    ap (λ (l : List Item). gather (entry_items 0 journal ++ l)) (append-nil (log_items 0 log))
    ∙ ap (λ (l : List Item). gather (l ++ log_items 0 log)) (sym (all_own (entry_items 0 journal) (entries_below 1 0 journal run.others)))

serial_asked : (config : Config) (lines : List TraceLine) (journal : List Entry) (log : List Seen) → IsSerialRun config lines journal log
    → map (λ (item : Item). op_asked item.content) (history_of journal (log ∷ [])) ≡ asked lines
unfolding ops_of
serial_asked config lines journal log run =
    ap (λ (l : List Item). map (λ (item : Item). op_asked item.content) l) (serial_own config lines journal log run) ∙ run.done

-- its journal leads to the address space after all lines
pub serial_run_space : (config : Config) (lines : List TraceLine) (journal : List Entry) (log : List Seen) → IsSerialRun config lines journal log
    → after config journal ≡ space_after_all config (opening config) lines
serial_run_space config lines journal log run =
    let gathered : IsGathered config [] journal (log ∷ []) = serial_gathered config lines journal log run in
    ap (after config) (sym (history_journal journal (log ∷ []) gathered.small))
    ∙ placed_space config lines (history_of journal (log ∷ [])) [] (opening config) 0 (opening_stands config)
    (serial_asked config lines journal log run) (placed config [] journal (log ∷ []) gathered)

-- with the callers of its lines it is the history of the trace in the order of the lines
pub label_is_serial : (config : Config) (lines : List TraceLine) (journal : List Entry) (log : List Seen) → IsSerialRun config lines journal log
    → label_of lines journal log ≡ serial_history config lines
unfolding label_of serial_history
label_is_serial config lines journal log run =
    let items : List Item = history_of journal (log ∷ []) in
    ap gather (placed_items config lines lines items [] (opening config) 0 (opening_stands config) (serial_asked config lines journal log run)
    (placed config [] journal (log ∷ []) (serial_gathered config lines journal log run)))
