-- Serves `closed_child` and the runs of children: what a child begins with, and what its run is.
use Rattle.std.proofs.Common.{ℕ, zero, suc, ◌≡◌, ◌+◌, ◌<◌, ◌≤◌, ◌∙◌, refl, sym, ap, subst, List, [], ◌∷◌, ◌++◌, length, get_or, map, take, take-take, slice_get, Some, Result, Ok, Err, All, arith}
use Rattle.std.specs.Prelude.{IfOk, Vec}
use Rattle.std.specs.Option.{option_map}
use Rattle.std.specs.declared.alloc.Global.{Global}
use Rattle.std.proofs.lemmas.List.{length-map, length-take, take-map, take_more}
use Rattle.std.proofs.lemmas.List.Elements.{All-map}
use Rattle.std.proofs.lemmas.Option.{get_or_from_slice_get, slice_get-get_or, slice_get-map, slice_get_within}
use Rattle.mm_types.specs.Config.{IsValidConfig}
use Rattle.mm_types.specs.declared.call.Entry.{Entry}
use Rattle.mm_types.specs.declared.call.Seen.{Seen}
use Rattle.mm_types.specs.declared.config.Config.{Config}
use Rattle.trace_reader.specs.declared.trace.Trace.{Trace}
use Rattle.trace_reader.specs.declared.trace.TraceLine.{TraceLine}
use Rattle.trace_reader.specs.Values.{IsTraceValue}
use Rattle.area_rules.specs.Tables.{AddressSpace}
use Rattle.area_rules.specs.Steps.{step, after, IsLegalJournal}
use Rattle.area_rules.specs.Journals.{version_of}
use Rattle.lock_core.specs.Facts.{list_after}
use Rattle.history.specs.Histories.{IsLegalHistory}
use Rattle.mm_space.specs.Closing.{ClosedView}
use Rattle.mm_space.specs.Names.{AreStrangers}
use Rattle.mm_fork.specs.Children.{as_inherited, inherited, child_history_of, child_trace, IsChildRun}
use Rattle.history.specs.SpaceLines.{child_lines}
use Rattle.mm_fork.proofs.ChildRuns.{child_is_legal}
use Rattle.mm_fork.proofs.Places.{mapped_from}
use Rattle.mm_fork.proofs.Spaces.{inherited_space}
use Rattle.history.proofs.OneSpace.{child_is_trace, child_is_alone, child_lines_name_none}
use Rattle.vma_drive.specs.Sharing.{AreOfOneThread, NameNoLine}
use Rattle.vma_replay.specs.declared.forks.Fork.{Fork}
use Rattle.vma_replay.specs.Internal.Families.{IsParentJournal, IsForkOf, AreRunsOfChildren}
use Rattle.vma_replay.specs.Replaying.{IsRunOfChild}

-- what stands in the front of a list stands in the list
got_taken : {X : Type 0} (count : ℕ) (xs : List X) (place : ℕ) (x : X) → slice_get (take count xs) place ≡ Some x → slice_get xs place ≡ Some x
got_taken zero xs place x found = absurd (cc)
got_taken (suc count) [] place x found = found
got_taken (suc count) (y ∷ ys) zero x found = found
got_taken (suc count) (y ∷ ys) (suc place) x found = got_taken count ys place x found

-- ---- what a child begins with

-- the space after some of what a child inherits is that after as much of its parent's journal
space_at : (config : Config) (journal : List Entry) (version place : ℕ) → place < version
    → after config (take place (inherited journal version)) ≡ after config (take place journal)
space_at config journal version place within =
    ap (after config) (take-map as_inherited place (take version journal)
    ∙ ap (map as_inherited) (take-take place version journal (omega arith)))
    ∙ inherited_space config journal place

-- it is a legal journal
inherited_legal : (config : Config) (journal : List Entry) (version : ℕ) → IsLegalJournal config journal → IsLegalJournal config (inherited journal version)
inherited_legal config journal version legal = record {
  replies = λ place entry found.
      let from = mapped_from as_inherited (take version journal) place entry found in
      let within : place < version =
      omega (arith, slice_get_within (take version journal) place from.0 from.1, length-take version journal) in
      ap (λ (e : Entry). e.reply) (sym from.2) ∙ legal.replies place from.0 (got_taken version journal place from.0 from.1)
      ∙ ap (λ (s : AddressSpace). (step config s from.0.call).reply) (sym (space_at config journal version place within))
      ∙ ap (λ (e : Entry). (step config (after config (take place (inherited journal version))) e.call).reply) from.2;
}

-- of callers of no child
inherited_strangers : (journal : List Entry) (version : ℕ) → AreStrangers (inherited journal version)
inherited_strangers journal version =
    All-map (λ (entry : Entry). 64 ≤ entry.caller) as_inherited (take version journal) (λ i d within. omega arith)

-- as many entries as the version tells
pub inherited_count : (journal : List Entry) (version : ℕ) → version ≤ length journal → length (inherited journal version) ≡ version
inherited_count journal version within = omega (arith, length-map (take version journal) as_inherited, length-take version journal)

-- what the run of a child asks for, of its lines and what it begins with
pub record CanRun (config : Config) (own : List TraceLine) (before : List Entry) : Type 0 where
  pub valid : IsValidConfig config
  pub few : length before + length own ≤ 16777216
  pub legal : IsLegalJournal config before
  pub strangers : AreStrangers before
  pub one_thread : AreOfOneThread own
  pub alone : NameNoLine own

can_run_at : (trace : Trace) (parent : List Entry) (fork : Fork) → IsTraceValue trace → IsParentJournal trace.config parent → IsForkOf trace.lines parent fork
    → CanRun trace.config (child_lines trace.lines fork.child) (inherited parent fork.version)
can_run_at trace parent fork value bears forks =
    let own : IsTraceValue (child_trace trace fork.child) = child_is_trace trace fork.child value forks.child in
    record {
      valid = value.config;
      few = omega (arith, own.few, inherited_count parent fork.version forks.within, forks.within, bears.few);
      legal = inherited_legal trace.config parent fork.version bears.legal;
      strangers = inherited_strangers parent fork.version;
      one_thread = (fork.child, child_is_alone trace fork.child);
      alone = child_lines_name_none trace fork.child value forks.child;
    }

pub can_run : (trace : Trace) (parent : List Entry) (fork : Fork) (own : List TraceLine) (before : List Entry) → IsTraceValue trace
    → IsParentJournal trace.config parent → IsForkOf trace.lines parent fork → own ≡ child_lines trace.lines fork.child
    → before ≡ inherited parent fork.version → CanRun trace.config own before
can_run trace parent fork own before value bears forks is begun =
    subst (λ (o : List TraceLine). CanRun trace.config o before) (sym is)
    (subst (λ (b : List Entry). CanRun trace.config (child_lines trace.lines fork.child) b) (sym begun) (can_run_at trace parent fork value bears forks))

-- ---- what its run is

-- a run of these lines behind these entries, as `run_child` makes it
pub record RanChild (config : Config) (own : List TraceLine) (before : List Entry) (run : ClosedView) : Type 0 where
  pub made : List Entry
  pub journal : run.journal ≡ before ++ made
  pub run_is : IsChildRun config before own 1 made run.logs
  pub list : run.list ≡ list_after config run.journal

ran_at : (trace : Trace) (parent : List Entry) (fork : Fork) (run : ClosedView) → IsTraceValue trace → IsForkOf trace.lines parent fork
    → RanChild trace.config (child_lines trace.lines fork.child) (inherited parent fork.version) run → IsRunOfChild trace parent fork run
ran_at trace parent fork run value forks ran =
    let before : List Entry = inherited parent fork.version in
    let lines : List TraceLine = child_lines trace.lines fork.child in
    let own : IsTraceValue (child_trace trace fork.child) = child_is_trace trace fork.child value forks.child in
    let legal : IsLegalHistory trace.config before lines (child_history_of (length before) (before ++ ran.made) run.logs) =
    child_is_legal trace.config before lines 1 ran.made run.logs ran.run_is (omega arith) own.numbered own.named in
    record {
      within = forks.within;
      own = ran.made;
      journal = ran.journal;
      run_is = ran.run_is;
      legal = subst (λ (v : ℕ). IsLegalHistory trace.config before lines (child_history_of v run.journal run.logs))
          (inherited_count parent fork.version forks.within)
          (subst (λ (j : List Entry). IsLegalHistory trace.config before lines (child_history_of (length before) j run.logs)) (sym ran.journal) legal);
      list = ran.list;
    }

pub ran_child : (trace : Trace) (parent : List Entry) (fork : Fork) (own : List TraceLine) (before : List Entry) (run : ClosedView)
    → IsTraceValue trace → IsForkOf trace.lines parent fork → own ≡ child_lines trace.lines fork.child → before ≡ inherited parent fork.version
    → RanChild trace.config own before run → IsRunOfChild trace parent fork run
ran_child trace parent fork own before run value forks is begun ran =
    ran_at trace parent fork run value forks
    (subst (λ (b : List Entry). RanChild trace.config (child_lines trace.lines fork.child) b run) begun
    (subst (λ (o : List TraceLine). RanChild trace.config o before run) is ran))

-- so it is of whatever the run results in
pub ran_result : {E : Type 0} (trace : Trace) (parent : List Entry) (fork : Fork) (own : List TraceLine) (before : List Entry)
    (result : Result ClosedView E)
    → IsTraceValue trace → IsForkOf trace.lines parent fork → own ≡ child_lines trace.lines fork.child → before ≡ inherited parent fork.version
    → IfOk result (λ run. (made : List Entry) × (run.journal ≡ before ++ made) × IsChildRun trace.config before own 1 made run.logs)
    → IfOk result (λ run. run.list ≡ list_after trace.config run.journal) → IfOk result (IsRunOfChild trace parent fork)
ran_result trace parent fork own before (Ok run) value forks is begun ran list =
    ran_child trace parent fork own before run value forks is begun (record { made = ran.0; journal = ran.1; run_is = ran.2; list = list })
ran_result trace parent fork own before (Err error) value forks is begun ran list = tt

-- each of its reads is from the fork on
pub reads_later : (trace : Trace) (parent : List Entry) (fork : Fork) (run : ClosedView) (shown : List (Vec Seen Global))
    → IsRunOfChild trace parent fork run → map (λ log. log.items) shown ≡ run.logs
    → All (λ log. All (λ read. fork.version ≤ version_of read) log.items) shown
reads_later trace parent fork run shown is same = λ k d within.
    let log : List Seen = (get_or shown k d).items in
    let found : slice_get run.logs k ≡ Some log =
    ap (λ (l : List (List Seen)). slice_get l k) (sym same) ∙ slice_get-map (λ (log : Vec Seen Global). log.items) shown k
    ∙ ap (option_map (λ (log : Vec Seen Global). log.items)) (slice_get-get_or shown k d within) in
    subst (λ (v : ℕ). All (λ (read : Seen). v ≤ version_of read) log) (inherited_count parent fork.version is.within) (is.run_is.later k log found)

-- ---- runs of children

pub runs_more : (trace : Trace) (parent : List Entry) (forks : List Fork) (runs : List ClosedView) (fork : Fork) (run : ClosedView)
    → AreRunsOfChildren trace parent forks runs → IsRunOfChild trace parent fork run
    → AreRunsOfChildren trace parent (forks ++ fork ∷ []) (runs ++ run ∷ [])
runs_more trace parent [] [] fork run are is = (is, tt)
runs_more trace parent [] (other ∷ runs) fork run are is = absurd are
runs_more trace parent (first ∷ forks) [] fork run are is = absurd are
runs_more trace parent (first ∷ forks) (other ∷ runs) fork run are is = (are.0, runs_more trace parent forks runs fork run are.1 is)

-- one run more
pub more_children : (trace : Trace) (parent : List Entry) (forks : List Fork) (index : ℕ) (d : Fork) (old new : List ClosedView)
    (child : ClosedView) → index < length forks → new ≡ old ++ child ∷ []
    → AreRunsOfChildren trace parent (take index forks) old → IsRunOfChild trace parent (get_or forks index d) child
    → AreRunsOfChildren trace parent (take (index + 1) forks) new
more_children trace parent forks index d old new child within pushed are is =
    subst (λ (l : List ClosedView). AreRunsOfChildren trace parent (take (index + 1) forks) l) (sym pushed)
    (subst (λ (l : List Fork). AreRunsOfChildren trace parent l (old ++ child ∷ [])) (sym (take_more forks index d within))
    (runs_more trace parent (take index forks) old (get_or forks index d) child are is))

-- a run for each fork, each of its own
pub children_are : (trace : Trace) (parent : List Entry) (forks : List Fork) (runs : List ClosedView) → length runs ≡ length forks
    → ((place : ℕ) (fork : Fork) (run : ClosedView) → slice_get forks place ≡ Some fork → slice_get runs place ≡ Some run
    → IsRunOfChild trace parent fork run)
    → AreRunsOfChildren trace parent forks runs
children_are trace parent [] [] many each = tt
children_are trace parent [] (run ∷ runs) many each = absurd (omega (arith, many))
children_are trace parent (fork ∷ forks) [] many each = absurd (omega (arith, many))
children_are trace parent (fork ∷ forks) (run ∷ runs) many each = (
  each 0 fork run refl refl,
  children_are trace parent forks runs (omega (arith, many)) (λ place other found is ended. each (suc place) other found is ended),
)

-- what a worker ended with: a run of its fork, or an error
abbrev pub Ended : {E : Type 0} → Trace → List Entry → List Fork → ℕ → Result ClosedView E → Type 0
Ended trace parent forks place result = IfOk result (λ run. (fork : Fork) → slice_get forks place ≡ Some fork → IsRunOfChild trace parent fork run)

-- workers of which none ended with an error
pub all_ended : {E : Type 0} (trace : Trace) (parent : List Entry) (forks : List Fork) (runs : List ClosedView) (results : List (Result ClosedView E))
    → results ≡ map (λ run. Ok run) runs → length results ≡ length forks
    → ((place : ℕ) (d : Result ClosedView E) → place < length forks → Ended trace parent forks place (get_or results place d))
    → AreRunsOfChildren trace parent forks runs
all_ended {E} trace parent forks runs results same many each =
    let ok : ClosedView → Result ClosedView E = λ run. Ok run in
    let count : length runs ≡ length forks = sym (length-map runs ok) ∙ ap (λ (l : List (Result ClosedView E)). length l) (sym same) ∙ many in
    children_are trace parent forks runs count
    (λ place fork run is found.
    let there : slice_get results place ≡ Some (ok run) =
    ap (λ (l : List (Result ClosedView E)). slice_get l place) same ∙ slice_get-map ok runs place ∙ ap (option_map ok) found in
    let ended : Ended trace parent forks place (ok run) =
    subst (Ended trace parent forks place) (get_or_from_slice_get results place (ok run) (ok run) there)
    (each place (ok run) (slice_get_within forks place fork is)) in
    ended fork is)

pub ended_result : {E F : Type 0} (trace : Trace) (parent : List Entry) (forks : List Fork) (results : List (Result ClosedView E))
    (gathered : Result (Vec ClosedView Global) F) → length results ≡ length forks
    → ((place : ℕ) (d : Result ClosedView E) → place < length forks → Ended trace parent forks place (get_or results place d))
    → IfOk gathered (λ runs. results ≡ map (λ run. Ok run) runs.items)
    → IfOk gathered (λ runs. AreRunsOfChildren trace parent forks runs.items)
ended_result trace parent forks results (Ok runs) many each same = all_ended trace parent forks runs.items results same many each
ended_result trace parent forks results (Err error) many each same = tt

-- there are as many as forks, and each is of its fork
pub runs_count : (trace : Trace) (parent : List Entry) (forks : List Fork) (runs : List ClosedView) → AreRunsOfChildren trace parent forks runs
    → length runs ≡ length forks
runs_count trace parent [] [] are = refl
runs_count trace parent [] (run ∷ runs) are = absurd are
runs_count trace parent (fork ∷ forks) [] are = absurd are
runs_count trace parent (fork ∷ forks) (run ∷ runs) are = ap (λ (n : ℕ). suc n) (runs_count trace parent forks runs are.1)

pub run_at : (trace : Trace) (parent : List Entry) (forks : List Fork) (runs : List ClosedView) (place : ℕ) (fork : Fork) (run : ClosedView)
    → AreRunsOfChildren trace parent forks runs → slice_get forks place ≡ Some fork → slice_get runs place ≡ Some run
    → IsRunOfChild trace parent fork run
run_at trace parent [] runs place fork run are found there = absurd (cc)
run_at trace parent (first ∷ forks) [] place fork run are found there = absurd are
run_at trace parent (first ∷ forks) (other ∷ runs) zero fork run are found there =
    let one : first ≡ fork = cc in
    let two : other ≡ run = cc in
    subst (λ (f : Fork). IsRunOfChild trace parent f run) one (subst (λ (r : ClosedView). IsRunOfChild trace parent first r) two are.0)
run_at trace parent (first ∷ forks) (other ∷ runs) (suc place) fork run are found there = run_at trace parent forks runs place fork run are.1 found there
