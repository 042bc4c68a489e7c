-- Serves the functions that run a trace: a run in a space with the limit of areas that is made for its calls is one in its trace's own
-- configuration.
use Rattle.std.proofs.Common.{cond, Bool, true, false, inl, inr, ℕ, zero, suc, ◌≡◌, ◌≢◌, ◌+◌, ◌<◌, ◌≤◌, ◌∙◌, refl, sym, ap, subst, nat_eq, List, [], ◌∷◌, ◌++◌, length, length-append, take, get_or, All, Some, arith}
use Rattle.std.specs.Prelude.{Result, Ok, Err, IfOk, None}
use Rattle.std.proofs.lemmas.Bool.{cases_lt, eq-eqb}
use Rattle.std.proofs.lemmas.List.{length-map, length-take}
use Rattle.std.proofs.lemmas.List.Elements.{All-nil, All-cons, All-weaker}
use Rattle.std.proofs.lemmas.Option.{slice_get-get_or}
use Rattle.mm_types.specs.declared.call.Call.TheVariants.{Touch}
use Rattle.mm_types.specs.declared.call.Entry.{Entry}
use Rattle.mm_types.specs.declared.call.Seen.{Seen}
use Rattle.mm_types.specs.declared.config.Config.{Config}
use Rattle.mm_types.specs.Config.{IsValidConfig}
use Rattle.trace_reader.specs.declared.trace.Op.{Op}
use Rattle.trace_reader.specs.declared.trace.Op.TheVariants as ops
use Rattle.trace_reader.specs.declared.trace.TraceLine.{TraceLine}
use Rattle.area_rules.specs.Journals.{calls_by, IsReadRight}
use Rattle.area_rules.specs.Steps.{after}
use Rattle.area_rules.specs.Tables.{AddressSpace}
use Rattle.area_rules.specs.Limits.{with_areas, config_for}
use Rattle.area_rules.proofs.SameJournals.{after_for, legal_for, right_for}
use Rattle.area_rules.proofs.SameSteps.{grows_same}
use Rattle.history.specs.declared.items.Item.{Item}
use Rattle.history.specs.Histories.{lines_of, items_of, gather, goes_first, call_made, asks_for, op_asked, read_as}
use Rattle.history.specs.Runs.{own_of, ops_of, asked, entry_items, log_items, IsReadRightAfter, IsRun}
use Rattle.history.proofs.Legal.{entries_length}
use Rattle.history.proofs.SerialOrder.{insert_item}
use Rattle.history.proofs.Steps.{entries_none, entries_append, items_append}
use Rattle.history.proofs.ThreadCounts.{items_within}
use Rattle.lock_core.specs.Facts.{list_after}
use Rattle.mm_space.specs.Closing.{ClosedView}
use Rattle.vma_drive.specs.Alone.{RanAlone}

-- ---- how many entries a run makes

length-insert_item : (item : Item) (items : List Item) → length (insert_item item items) ≡ length items + 1
length-insert_item item [] = omega arith
length-insert_item item (first ∷ items) = longer (goes_first item first) (insert_item item items) (length-insert_item item items)
  where
    longer : (goes : Bool) (rest : List Item) → length rest ≡ length items + 1
        → length (cond goes (item ∷ first ∷ items) (first ∷ rest)) ≡ length (first ∷ items) + 1
    longer true rest one = omega arith
    longer false rest one = omega arith

length-gather : (items : List Item) → length (gather items) ≡ length items
length-gather [] = refl
length-gather (item ∷ items) = omega (arith, length-insert_item item (gather items), length-gather items)

-- the entries of a caller are among what it did
entries_among : (by : ℕ) (journal : List Entry) (log : List Seen) (lines : List TraceLine) → ops_of (own_of by journal log) ≡ asked lines
    → length (items_of (entry_items 0 journal) by) ≤ length lines
unfolding own_of ops_of
entries_among by journal log lines did = omega (
  arith,
  ap length did,
  length-map (own_of by journal log) (λ (item : Item). op_asked item.content),
  length-map lines (λ (line : TraceLine). read_as line.op),
  length-gather (items_of (entry_items 0 journal) by ++ log_items by log),
  length-append (items_of (entry_items 0 journal) by) (log_items by log),
)

-- entries of a caller that has none
none_of : (by : ℕ) (entry : Entry) (journal : List Entry) → calls_by by (entry ∷ journal) ≡ []
    → (entry.caller ≢ by) × (calls_by by journal ≡ [])
none_of by entry journal none = by_test (nat_eq entry.caller by) refl none
  where
    by_test : (own : Bool) → nat_eq entry.caller by ≡ own → cond own (entry ∷ calls_by by journal) (calls_by by journal) ≡ []
        → (entry.caller ≢ by) × (calls_by by journal ≡ [])
    by_test true own none = absurd (cc)
    by_test false own none = (λ same. let is = eq-eqb entry.caller by same in cc, none)

-- where no caller from a number on has an entry, each entry's caller is below it
callers_below : (callers version : ℕ) (journal : List Entry) → ((by : ℕ) → callers ≤ by → calls_by by journal ≡ [])
    → All (λ item. item.caller < callers) (entry_items version journal)
unfolding entry_items
callers_below callers version [] others = All-nil (λ (item : Item). item.caller < callers)
callers_below callers version (entry ∷ journal) others =
    All-cons (λ (item : Item). item.caller < callers) _ (entry_items (version + 1) journal)
    (elim (cases_lt entry.caller callers) [
      | inl within ↦ within
      | inr past ↦ absurd ((none_of entry.caller entry journal (others entry.caller past)).0 refl)
    ])
    (callers_below callers (version + 1) journal (λ by past. (none_of by entry journal (others by past)).1))

-- and so all are of the first
all_first : (version : ℕ) (journal : List Entry) → ((by : ℕ) → 1 ≤ by → calls_by by journal ≡ [])
    → length (items_of (entry_items version journal) 0) ≡ length journal
unfolding items_of entry_items
all_first version [] others = refl
all_first version (entry ∷ journal) others =
    let rest = all_first (version + 1) journal (λ by past. (none_of by entry journal (others by past)).1) in
    rw (eq-eqb entry.caller 0 (zeroth entry.caller (λ past. (none_of entry.caller entry journal (others entry.caller past)).0 refl))) (omega (arith, rest))
  where
    zeroth : (caller : ℕ) → (1 ≤ caller → ⊥) → caller ≡ 0
    zeroth zero none = refl
    zeroth (suc caller) none = absurd (none (omega arith))

-- a run of one pass has at most an entry for each line, behind those from before
alone_length : (config : Config) (before : List Entry) (lines : List TraceLine) (run : ClosedView) (ran : RanAlone config before lines run)
    → length (before ++ ran.own) ≤ length before + length lines
alone_length config before lines run ran = omega (
  arith,
  length-append before ran.own,
  entries_among 0 (before ++ ran.own) ran.log lines ran.done,
  ap (λ (l : List Item). length (items_of l 0)) (entries_append 0 before ran.own),
  ap length (items_append 0 (entry_items 0 before) (entry_items (0 + length before) ran.own)),
  length-append (items_of (entry_items 0 before) 0) (items_of (entry_items (0 + length before) ran.own) 0),
  all_first (0 + length before) ran.own ran.others,
)

-- and one of many callers too
run_length : (config : Config) (lines : List TraceLine) (callers : ℕ) (journal : List Entry) (logs : List (List Seen))
    → IsRun config [] lines callers journal logs → length journal ≤ length lines
run_length config lines callers journal logs run = omega (
  arith,
  entries_length 0 journal,
  items_within lines (entry_items 0 journal) callers (callers_below callers 0 journal run.others) (λ by. elim (cases_lt by callers) [
    | inl within ↦
        let log : List Seen = get_or logs by [] in
        entries_among by journal log (lines_of lines by) (run.done by log (slice_get-get_or logs by [] (omega (arith, within, run.all))))
    | inr past ↦ omega (arith, ap length (entries_none 0 by journal (run.others by past)))
  ]),
)

-- ---- with the limit for so many calls, and with the trace's own

call_same : (areas : ℕ) (config : Config) (space : AddressSpace) (op : Op) → call_made (with_areas areas config) space op ≡ call_made config space op
unfolding call_made
call_same areas config space (ops.Call call) = refl
call_same areas config space (ops.Fault page access) =
    ap (λ (grow : Bool). cond grow (Some (Touch page access)) None) (grows_same areas config space.areas page.0 access)
call_same areas config space ops.Maps = refl
call_same areas config space (ops.Fork child) = refl

module _ (calls : ℕ) (config : Config) (valid : IsValidConfig config) (few : calls ≤ 3000000000) where
  alone_for : (before : List Entry) (lines : List TraceLine) (run : ClosedView) → length before + length lines ≤ calls
      → RanAlone (config_for calls config) before lines run → RanAlone config before lines run
  alone_for before lines run fits ran =
      let within : length (before ++ ran.own) ≤ calls = omega (arith, alone_length (config_for calls config) before lines run ran, fits) in
      record {
        log = ran.log;
        own = ran.own;
        logs = ran.logs;
        journal = ran.journal;
        legal = (legal_for calls config valid few (before ++ ran.own) within).0 ran.legal;
        grown = ran.grown;
        right = All-weaker (IsReadRight (config_for calls config) (before ++ ran.own)) (IsReadRight config (before ++ ran.own))
            (λ read right. (right_for calls config valid few (before ++ ran.own) read within).0 right) ran.log ran.right;
        later = ran.later;
        done = ran.done;
        others = ran.others;
        list = ran.list ∙ ap (λ (s : AddressSpace). s.areas)
            (after_for calls config valid few run.journal (subst (λ (l : List Entry). length l ≤ calls) (sym ran.journal) within));
      }

  pub alone_result : {E : Type 0} (other : Config) (start before : List Entry) (lines : List TraceLine) (result : Result ClosedView E)
      → other ≡ config_for calls config → start ≡ before → length before + length lines ≤ calls → IfOk result (RanAlone other start lines)
      → IfOk result (RanAlone config before lines)
  alone_result other start before lines (Ok run) same starts fits ran = alone_for before lines run fits
      (subst (λ (c : Config). RanAlone c before lines run) same (subst (λ (b : List Entry). RanAlone other b lines run) starts ran))
  alone_result other start before lines (Err e) same starts fits ran = tt

  call_for : (journal : List Entry) (op : Op) → length journal ≤ calls
      → call_made (config_for calls config) (after (config_for calls config) journal) op ≡ call_made config (after config journal) op
  call_for journal op within =
      ap (λ (s : AddressSpace). call_made (config_for calls config) s op) (after_for calls config valid few journal within)
      ∙ call_same (config_for calls config).areas config (after config journal) op

  run_for : (lines : List TraceLine) (callers : ℕ) (journal : List Entry) (logs : List (List Seen)) → length lines ≤ calls
      → IsRun (config_for calls config) [] lines callers journal logs → IsRun config [] lines callers journal logs
  run_for lines callers journal logs fits run =
      let within : length journal ≤ calls = omega (arith, run_length (config_for calls config) lines callers journal logs run, fits) in
      record {
        legal = record {
          replies = ((legal_for calls config valid few journal within).0 (record { replies = run.legal.replies })).replies;
        };
        made = λ place entry found.
            sym (call_for (take place journal) (asks_for entry.call) (omega (arith, within, length-take place journal))) ∙ run.made place entry found;
        all = run.all;
        right = λ caller log found. All-weaker (IsReadRightAfter (config_for calls config) [] journal) (IsReadRightAfter config [] journal)
            (λ read right.
            let same = (right_for calls config valid few journal read within).0 (record { right = right.right; within = right.within }) in
            record { right = same.right; within = same.within }) log (run.right caller log found);
        done = run.done;
        told = run.told;
        others = run.others;
        no_lines = run.no_lines;
      }

  list_for : (lines : List TraceLine) (callers : ℕ) (run : ClosedView) → length lines ≤ calls
      → IsRun (config_for calls config) [] lines callers run.journal run.logs → run.list ≡ list_after (config_for calls config) run.journal
      → run.list ≡ list_after config run.journal
  list_for lines callers run fits ran list = list ∙ ap (λ (s : AddressSpace). s.areas)
      (after_for calls config valid few run.journal
      (omega (arith, run_length (config_for calls config) lines callers run.journal run.logs ran, fits)))

  pub run_result : {E : Type 0} (other : Config) (lines : List TraceLine) (callers : ℕ) (result : Result ClosedView E)
      → other ≡ config_for calls config → length lines ≤ calls → IfOk result (λ run. IsRun other [] lines callers run.journal run.logs)
      → IfOk result (λ run. run.list ≡ list_after other run.journal)
      → IfOk result (λ run. IsRun config [] lines callers run.journal run.logs)
      × IfOk result (λ run. run.list ≡ list_after config run.journal)
  run_result other lines callers (Ok run) same fits ran list =
      let ran_so = subst (λ (c : Config). IsRun c [] lines callers run.journal run.logs) same ran in (
        run_for lines callers run.journal run.logs fits ran_so,
        list_for lines callers run fits ran_so (subst (λ (c : Config). run.list ≡ list_after c run.journal) same list),
      )
  run_result other lines callers (Err e) same fits ran list = (tt, tt)
