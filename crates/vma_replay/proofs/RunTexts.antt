-- Serves `closed_family`: the history of a closed run is legal, and ends with its list.
use Rattle.std.proofs.Common.{◌≡◌, ◌<◌, ◌^◌, ◌∙◌, refl, sym, ap, subst, nat_eq, List, [], ◌∷◌, ◌++◌, append-nil, length, map, filter, slice_get, unwrap_or, All, arith}
use Rattle.std.specs.Prelude.{Vec}
use Rattle.std.specs.declared.alloc.Global.{Global}
use Rattle.std.proofs.lemmas.List.{length-map}
use Rattle.std.proofs.lemmas.Bool.{eq-eqb, cond-true}
use Rattle.std.proofs.lemmas.List.Elements.{All-head, All-tail}
use Rattle.mm_types.specs.declared.call.Entry.{Entry}
use Rattle.mm_types.specs.declared.call.Seen.{Seen}
use Rattle.mm_types.specs.declared.config.Config.{Config}
use Rattle.trace_reader.specs.declared.trace.Trace.{Trace}
use Rattle.trace_reader.specs.declared.trace.TraceLine.{TraceLine}
use Rattle.trace_reader.specs.Values.{IsTraceValue}
use Rattle.area_rules.specs.Tables.{AddressSpace}
use Rattle.lock_core.specs.Facts.{list_after}
use Rattle.history.specs.declared.items.Item.{Item}
use Rattle.history.specs.Histories.{items_of, journal_of, gather, serial_history, IsLegalHistory}
use Rattle.history.specs.Runs.{entry_items, log_items, logs_items, history_of, own_of}
use Rattle.history.specs.Labels.{label_of, IsSerialRun}
use Rattle.history.proofs.Calls.{values_ask}
use Rattle.history.proofs.Finished.{history_is_legal, run_journal}
use Rattle.history.proofs.Labels.{label_is_serial, serial_run_space}
use Rattle.history.proofs.Legal.{entries_below}
use Rattle.history.proofs.SerialOrder.{serial_is_history, serial_space}
use Rattle.mm_space.specs.Closing.{ClosedView}
use Rattle.vma_replay.specs.declared.words.Mode.{Mode}
use Rattle.vma_replay.specs.declared.words.Mode.TheVariants as modes
use Rattle.vma_replay.specs.Replaying.{IsLegalRun, IsRunOf, history_of_run}
use Rattle.history.specs.CallerPlaces.{callers_of}
use Rattle.vma_drive.proofs.NamesShared.{few_callers}

-- where all are of the first caller, they are its own
all_own : (items : List Item) → All (λ item. item.caller < 1) items → items_of items 0 ≡ items
unfolding items_of
all_own [] all = refl
all_own (item ∷ items) all =
    let low : item.caller < 1 = All-head (λ (item : Item). item.caller < 1) item items all in
    let rest : List Item = filter (λ (x : Item). nat_eq x.caller 0) items in
    cond-true (nat_eq item.caller 0) (item ∷ rest) rest (eq-eqb item.caller 0 (omega arith))
    ∙ ap (λ (l : List Item). item ∷ l) (all_own items (All-tail (λ (item : Item). item.caller < 1) item items all))

-- what the one caller of a serial run did is its history
pub serial_own : (config : Config) (lines : List TraceLine) (journal : List Entry) (log : List Seen) → IsSerialRun config lines journal log
    → history_of journal (log ∷ []) ≡ own_of 0 journal log
unfolding history_of own_of logs_items
serial_own config lines journal log run =
    ap (λ (l : List Item). gather (entry_items 0 journal ++ l)) (append-nil (log_items 0 log))
    ∙ ap (λ (l : List Item). gather (l ++ log_items 0 log)) (sym (all_own (entry_items 0 journal) (entries_below 1 0 journal run.others)))

-- the one log is the first
pub first_log : (logs : List (List Seen)) (log : List Seen) → logs ≡ log ∷ [] → unwrap_or (slice_get logs 0) [] ≡ log
first_log logs log is = ap (λ (l : List (List Seen)). unwrap_or (slice_get l 0) []) is

-- a serial run stands for the history of the trace in the order of its lines
pub serial_is : (trace : Trace) (run : ClosedView) → IsRunOf modes.Serial trace run
    → history_of_run modes.Serial trace run ≡ serial_history trace.config trace.lines
serial_is trace run is =
    ap (λ (l : List Seen). label_of trace.lines run.journal l) (first_log run.logs is.0 is.1)
    ∙ label_is_serial trace.config trace.lines run.journal is.0 is.2

-- the lines of a trace, run in their order, are a legal history
serial_legal : (trace : Trace) → IsTraceValue trace → IsLegalHistory trace.config [] trace.lines (serial_history trace.config trace.lines)
serial_legal trace value = serial_is_history trace.config trace.lines (values_ask trace.lines value.lines) value.numbered value.named

pub legal_of_run : (mode : Mode) (trace : Trace) (run : ClosedView) → IsTraceValue trace → IsRunOf mode trace run
    → IsLegalHistory trace.config [] trace.lines (history_of_run mode trace run)
legal_of_run modes.Threads trace run value is = history_is_legal trace.config [] trace.lines (callers_of trace.lines) run.journal run.logs is
    (omega (arith, few_callers trace.lines)) value.numbered value.named
legal_of_run modes.Serial trace run value is =
    subst (λ (l : List Item). IsLegalHistory trace.config [] trace.lines l) (sym (serial_is trace run is)) (serial_legal trace value)

pub list_of_run : (mode : Mode) (trace : Trace) (run : ClosedView) → IsRunOf mode trace run → run.list ≡ list_after trace.config run.journal
    → run.list ≡ list_after trace.config (journal_of (history_of_run mode trace run))
list_of_run modes.Threads trace run is list =
    list ∙ ap (list_after trace.config) (sym (run_journal trace.config [] trace.lines (callers_of trace.lines) run.journal run.logs is
    (omega (arith, few_callers trace.lines))))
list_of_run modes.Serial trace run is list =
    list ∙ ap (λ (s : AddressSpace). s.areas) (serial_run_space trace.config trace.lines run.journal is.0 is.2
    ∙ sym (serial_space trace.config trace.lines))
    ∙ ap (λ (l : List Item). list_after trace.config (journal_of l)) (sym (serial_is trace run is))

pub run_is_legal : (mode : Mode) (trace : Trace) (run : ClosedView) → IsTraceValue trace → IsRunOf mode trace run
    → run.list ≡ list_after trace.config run.journal → IsLegalRun mode trace run
run_is_legal mode trace run value is list = record {
  run_is = is;
  legal = legal_of_run mode trace run value is;
  list = list_of_run mode trace run is list;
}

-- the logs of a run are few
pub few_logs : (lines : List TraceLine) (shown : List (Vec Seen Global)) (logs : List (List Seen)) → map (λ log. log.items) shown ≡ logs
    → length logs ≡ callers_of lines → length shown < 2 ^ 32
few_logs lines shown logs same all = omega (arith, few_callers lines, sym (length-map shown (λ (log : Vec Seen Global). log.items)) ∙ ap length same)
