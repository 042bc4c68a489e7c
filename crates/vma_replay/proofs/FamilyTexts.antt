-- Serves `printing.rt` and `family_given`: the texts of a parent and of its children.
use Rattle.std.proofs.Common.{ℕ, ◌≡◌, ◌+◌, ◌-◌, ◌<◌, ◌∙◌, refl, sym, ap, subst, List, [], ◌∷◌, ◌++◌, append_assoc, length, take, drop, zip, flat_map, slice_get, get_or, nat_lt, false, Some, arith}
use Rattle.std.proofs.lemmas.List.{drop_more, length-drop, take_all}
use Rattle.std.proofs.lemmas.Option.{get_or_from_slice_get, slice_get-get_or, slice_get_read, slice_get_within}
use Rattle.std.proofs.lemmas.Bool.{lt-ltb}
use Rattle.mm_types.specs.declared.call.Entry.{Entry}
use Rattle.mm_types.specs.declared.area.Record.{Record}
use Rattle.trace_reader.specs.declared.trace.Trace.{Trace}
use Rattle.trace_reader.specs.declared.trace.TraceLine.{TraceLine}
use Rattle.trace_reader.specs.Values.{IsTraceValue}
use Rattle.lock_core.specs.Facts.{list_after}
use Rattle.history.specs.declared.items.Item.{Item}
use Rattle.history.specs.Histories.{journal_of}
use Rattle.mm_space.specs.Closing.{ClosedView}
use Rattle.history.specs.Parents.{parent_lines, parent_trace}
use Rattle.mm_fork.specs.Children.{inherited, child_history_of}
use Rattle.history.specs.SpaceLines.{child_lines}
use Rattle.mm_fork.proofs.ChildRuns.{child_journal}
use Rattle.history.proofs.OneSpace.{parent_is_trace}
use Rattle.vma_replay.specs.declared.forks.Fork.{Fork}
use Rattle.vma_replay.specs.declared.words.Mode.{Mode}
use Rattle.vma_replay.specs.declared.words.Mode.TheVariants as modes
use Rattle.output.specs.Output.{listed_text, output_text, serial_output}
use Rattle.vma_replay.specs.ChildTexts.{child_line, child_text}
use Rattle.vma_replay.specs.Forks.{forks_of}
use Rattle.vma_replay.specs.Internal.Families.{AreRunsOfChildren, IsFamily, text_of_child, text_of_children, text_of_family}
use Rattle.vma_replay.specs.Internal.Giving.{BeginsAsSerial, GivesAnOutput}
use Rattle.vma_replay.specs.Replaying.{IsRunOf, IsRunOfChild, history_of_run, text_of_run}
use Rattle.vma_replay.proofs.ChildSpaces.{inherited_count, run_at, runs_count}
use Rattle.vma_replay.proofs.RunTexts.{list_of_run, run_is_legal, serial_is}

-- the journal of a child's history is its own
pub child_made : (trace : Trace) (parent : List Entry) (fork : Fork) (run : ClosedView) → (is : IsRunOfChild trace parent fork run)
    → journal_of (child_history_of fork.version run.journal run.logs) ≡ is.own
child_made trace parent fork run is =
    let before : List Entry = inherited parent fork.version in
    ap (λ (v : ℕ). journal_of (child_history_of v run.journal run.logs)) (sym (inherited_count parent fork.version is.within))
    ∙ ap (λ (j : List Entry). journal_of (child_history_of (length before) j run.logs)) is.journal
    ∙ child_journal trace.config before (child_lines trace.lines fork.child) 1 is.own run.logs is.run_is (omega arith)

-- so its text ends with the list of its run
child_told : (trace : Trace) (parent : List Entry) (fork : Fork) (run : ClosedView) → IsRunOfChild trace parent fork run
    → text_of_child trace fork run ≡ child_text trace.config (child_lines trace.lines fork.child) fork (inherited parent fork.version)
    (child_history_of fork.version run.journal run.logs)
unfolding child_text
child_told trace parent fork run is =
    let before : List Entry = inherited parent fork.version in
    let items : List Item = child_history_of fork.version run.journal run.logs in
    let whole : run.journal ≡ before ++ journal_of items = is.journal ∙ ap (λ (own : List Entry). before ++ own) (sym (child_made trace parent fork run is)) in
    ap (λ (areas : List Record). child_line fork ++ listed_text trace.config.files (child_lines trace.lines fork.child) items areas)
    (is.list ∙ ap (list_after trace.config) whole)

children_told : (trace : Trace) (parent : List Entry) (forks : List Fork) (runs : List ClosedView) → AreRunsOfChildren trace parent forks runs
    → text_of_children trace forks runs ≡ flat_map (text_of_run trace parent) (zip forks runs)
children_told trace parent [] [] are = refl
children_told trace parent [] (run ∷ runs) are = absurd are
children_told trace parent (fork ∷ forks) [] are = absurd are
children_told trace parent (fork ∷ forks) (run ∷ runs) are =
    ap (λ (t : List ℕ). t ++ text_of_children trace forks runs) (child_told trace parent fork run are.0)
    ∙ ap (λ (t : List ℕ). text_of_run trace parent (fork, run) ++ t) (children_told trace parent forks runs are.1)

-- the parent's text ends with the list of its run
parent_told : (mode : Mode) (trace : Trace) (run : ClosedView) → IsRunOf mode trace run → run.list ≡ list_after trace.config run.journal
    → listed_text trace.config.files trace.lines (history_of_run mode trace run) run.list
    ≡ output_text trace.config trace.lines (history_of_run mode trace run)
unfolding output_text
parent_told mode trace run is list =
    ap (listed_text trace.config.files trace.lines (history_of_run mode trace run)) (list_of_run mode trace run is list)

begins_serial : (mode : Mode) (trace : Trace) (parent : ClosedView) (rest : List ℕ) → IsRunOf mode (parent_trace trace) parent
    → BeginsAsSerial mode trace (output_text trace.config (parent_lines trace.lines) (history_of_run mode (parent_trace trace) parent) ++ rest)
unfolding serial_output
begins_serial modes.Threads trace parent rest is = tt
begins_serial modes.Serial trace parent rest is =
    (rest, ap (λ (items : List Item). output_text trace.config (parent_lines trace.lines) items ++ rest) (serial_is (parent_trace trace) parent is))

-- a family gives its text
family_at : (mode : Mode) (trace : Trace) (parent : ClosedView) (children : List ClosedView) → IsTraceValue trace → IsRunOf mode (parent_trace trace) parent
    → parent.list ≡ list_after trace.config parent.journal
    → AreRunsOfChildren trace parent.journal (forks_of (parent_lines trace.lines) (history_of_run mode (parent_trace trace) parent)) children
    → GivesAnOutput mode trace (parent ∷ children)
    (text_of_family trace (history_of_run mode (parent_trace trace) parent)
    (forks_of (parent_lines trace.lines) (history_of_run mode (parent_trace trace) parent)) (parent ∷ children))
family_at mode trace parent children value is list are =
    let items : List Item = history_of_run mode (parent_trace trace) parent in
    let forks : List Fork = forks_of (parent_lines trace.lines) items in
    let first : List ℕ = output_text trace.config (parent_lines trace.lines) items in
    let rest : List ℕ = flat_map (text_of_run trace parent.journal) (zip forks children) in
    let told : listed_text trace.config.files (parent_lines trace.lines) items parent.list ≡ first =
    parent_told mode (parent_trace trace) parent is list in
    let whole : text_of_family trace items forks (parent ∷ children) ≡ first ++ rest =
    ap (λ (t : List ℕ). t ++ text_of_children trace forks children) told
    ∙ ap (λ (t : List ℕ). first ++ t) (children_told trace parent.journal forks children are) in (
      record {
        parent = parent;
        children = children;
        runs_are = refl;
        parent_is = run_is_legal mode (parent_trace trace) parent (parent_is_trace trace value) is list;
        children_are = are;
        text_is = whole;
      },
      subst (BeginsAsSerial mode trace) (sym whole) (begins_serial mode trace parent rest is),
    )

pub family_gives : (mode : Mode) (trace : Trace) (history : List Item) (forks : List Fork) (runs : List ClosedView) → IsTraceValue trace
    → IsFamily mode trace history forks runs → GivesAnOutput mode trace runs (text_of_family trace history forks runs)
family_gives mode trace history forks runs value family =
    let parent : ClosedView = family.parent in
    let items : List Item = history_of_run mode (parent_trace trace) parent in
    let all : List Fork = forks_of (parent_lines trace.lines) items in
    let same : forks ≡ all = family.forks_are ∙ ap (forks_of (parent_lines trace.lines)) family.history_is in
    let given : GivesAnOutput mode trace (parent ∷ family.children) (text_of_family trace items all (parent ∷ family.children)) =
    family_at mode trace parent family.children value family.parent_is family.list
    (subst (λ (f : List Fork). AreRunsOfChildren trace parent.journal f family.children) same family.children_are) in
    subst (λ (h : List Item). GivesAnOutput mode trace runs (text_of_family trace h forks runs)) (sym family.history_is)
    (subst (λ (f : List Fork). GivesAnOutput mode trace runs (text_of_family trace items f runs)) (sym same)
    (subst (λ (r : List ClosedView). GivesAnOutput mode trace r (text_of_family trace items all r)) (sym family.runs_are) given))

-- ---- one child more

-- the texts so far and those of the other children are those of all
pub record ToldChildren (trace : Trace) (forks : List Fork) (runs : List ClosedView) (place : ℕ) (text : List ℕ) : Type 0 where
  pub told : text ++ text_of_children trace (drop place forks) (drop place runs) ≡ text_of_children trace forks runs

pub children_more : (trace : Trace) (forks : List Fork) (runs : List ClosedView) (place : ℕ) (text : List ℕ) (d : Fork) (run : ClosedView)
    → ToldChildren trace forks runs place text → place < length forks → slice_get runs place ≡ Some run
    → ToldChildren trace forks runs (place + 1) (text ++ text_of_child trace (get_or forks place d) run)
children_more trace forks runs place text d run so_far within found =
    let fork : Fork = get_or forks place d in
    let one : drop place forks ≡ fork ∷ drop (place + 1) forks = drop_more forks place d within in
    let two : drop place runs ≡ run ∷ drop (place + 1) runs =
    drop_more runs place run (slice_get_within runs place run found)
    ∙ ap (λ (r : ClosedView). r ∷ drop (place + 1) runs) (get_or_from_slice_get runs place run run found) in
    record {
      told = append_assoc text (text_of_child trace fork run) (text_of_children trace (drop (place + 1) forks) (drop (place + 1) runs))
          ∙ ap (λ (l : List Fork). text ++ text_of_children trace l (run ∷ drop (place + 1) runs)) (sym one)
          ∙ ap (λ (l : List ClosedView). text ++ text_of_children trace (drop place forks) l) (sym two) ∙ so_far.told;
    }

-- there is a run at the place of each fork, which is of its child
pub found_at : (trace : Trace) (parent : List Entry) (forks : List Fork) (runs : List ClosedView) (place : ℕ) (run : ClosedView)
    → AreRunsOfChildren trace parent forks runs → place < length forks → run ≡ get_or runs place run → slice_get runs place ≡ Some run
found_at trace parent forks runs place run are within is =
    slice_get_read runs (length runs) place run refl (omega (arith, runs_count trace parent forks runs are)) is

pub child_at : (trace : Trace) (parent : List Entry) (forks : List Fork) (runs : List ClosedView) (place : ℕ) (d : Fork) (run : ClosedView)
    → AreRunsOfChildren trace parent forks runs → place < length forks → run ≡ get_or runs place run
    → (before : List Entry) × IsRunOfChild trace before (get_or forks place d) run
child_at trace parent forks runs place d run are within is = (
  parent,
  run_at trace parent forks runs place (get_or forks place d) run are (slice_get-get_or forks place d within)
      (found_at trace parent forks runs place run are within is),
)

pub none_missing : (trace : Trace) (parent : List Entry) (forks : List Fork) (runs : List ClosedView) (place : ℕ)
    → AreRunsOfChildren trace parent forks runs → place < length forks → false ≡ nat_lt place (length runs) → ⊥
none_missing trace parent forks runs place are within past =
    let inside : place < length runs = omega (arith, runs_count trace parent forks runs are) in
    cc (past, lt-ltb place (length runs) inside)

-- ---- the text of a family, by what is printed

pub family_whole : (mode : Mode) (trace : Trace) (history shown : List Item) (forks seen : List Fork) (runs rest : List ClosedView)
    (lines : List TraceLine) (areas : List Record) (found : ClosedView) → IsFamily mode trace history forks runs
    → lines ≡ parent_lines trace.lines → shown ≡ history → found ≡ get_or runs 0 found → areas ≡ found.list → seen ≡ forks
    → rest ≡ take (length runs - 1) (drop 1 runs)
    → listed_text trace.config.files lines shown areas ++ text_of_children trace seen rest ≡ text_of_family trace history forks runs
family_whole mode trace history shown forks seen runs rest lines areas found family own same first list showing left =
    let begun : runs ≡ family.parent ∷ family.children = family.runs_are in
    let one : found ≡ family.parent = first ∙ ap (λ (l : List ClosedView). get_or l 0 found) begun in
    let two : rest ≡ family.children =
    left ∙ take_all (length runs - 1) (drop 1 runs) (omega (arith, length-drop 1 runs)) ∙ ap (drop 1) begun in
    ap (λ (l : List TraceLine). listed_text trace.config.files l shown areas ++ text_of_children trace seen rest) own
    ∙ ap (λ (l : List Item). listed_text trace.config.files (parent_lines trace.lines) l areas ++ text_of_children trace seen rest) same
    ∙ ap (λ (l : List Record). listed_text trace.config.files (parent_lines trace.lines) history l ++ text_of_children trace seen rest)
    (list ∙ ap (λ (r : ClosedView). r.list) one)
    ∙ ap (λ (l : List Fork). listed_text trace.config.files (parent_lines trace.lines) history family.parent.list ++ text_of_children trace l rest)
    showing
    ∙ ap (λ (l : List ClosedView). listed_text trace.config.files (parent_lines trace.lines) history family.parent.list ++ text_of_children trace forks l)
    two
    ∙ ap (text_of_family trace history forks) (sym begun)
