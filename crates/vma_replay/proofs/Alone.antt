-- Serves `in_turn.rt`: the text of a run that has no children.
use Rattle.std.proofs.Common.{ℕ, ◌≡◌, ◌∙◌, refl, sym, ap, subst, Bool, false, List, [], ◌∷◌, ◌++◌, append-nil, get_or, All, arith}
use Rattle.std.specs.Prelude.{Contains, is_some}
use Rattle.std.specs.List.{list_any}
use Rattle.std.proofs.lemmas.List.Elements.{All-head}
use Rattle.io_edge.specs.Edge.{SinkView}
use Rattle.mm_types.specs.declared.area.Record.{Record}
use Rattle.mm_types.specs.declared.call.Entry.{Entry}
use Rattle.mm_types.specs.declared.files.FileRow.{FileRow}
use Rattle.trace_reader.specs.declared.trace.Trace.{Trace}
use Rattle.trace_reader.specs.declared.trace.TraceLine.{TraceLine}
use Rattle.trace_reader.specs.Values.{IsTraceValue, child_of, children_of}
use Rattle.lock_core.specs.Facts.{list_after}
use Rattle.history.specs.declared.items.Item.{Item}
use Rattle.history.specs.Labels.{labelled}
use Rattle.history.specs.Parents.{parent_lines, parent_trace}
use Rattle.history.proofs.OneSpace.{all_of_parent, no_children}
use Rattle.mm_space.specs.Closing.{ClosedView}
use Rattle.output.specs.Output.{item_text, listed_text, maps_text, told_by}
use Rattle.vma_replay.specs.Forks.{forks_of}
use Rattle.vma_replay.specs.Internal.Families.{IsFamily, IsForkOf}
use Rattle.output.specs.Giving.{IsCutOff, Prints}
use Rattle.vma_replay.specs.Internal.Giving.{GivesAnOutput}
use Rattle.output.specs.Telling.{told_in_turn}
use Rattle.vma_replay.specs.Replaying.{IsRunOf, history_of_run}
use Rattle.vma_replay.specs.declared.forks.Fork.{Fork}
use Rattle.output.specs.declared.error.PrintError.{PrintError}
use Rattle.vma_replay.specs.declared.words.Mode.{Mode}
use Rattle.vma_replay.proofs.FamilyTexts.{family_gives}
use Rattle.output.proofs.InTurn.{told_of_lines}
use Rattle.vma_replay.proofs.Parents.{family_made, found_right, own_parent}
use Rattle.output.proofs.Pieces.{cut_more}

-- where no line forks there is no fork
none_forks : (lines : List TraceLine) (journal : List Entry) (forks : List Fork) → children_of lines ≡ [] → All (IsForkOf lines journal) forks → [] ≡ forks
none_forks lines journal [] none all = refl
none_forks lines journal (fork ∷ forks) none all =
    let one : IsForkOf lines journal fork = All-head (IsForkOf lines journal) fork forks all in
    let found : Contains [] fork.child = subst (λ (l : List ℕ). Contains l fork.child) none one.child in absurd (omega (arith, found.1))

-- where no line forks the trace is its parent's: so its run is the parent's, and so is the history of it
pub alone_run : (mode : Mode) (trace : Trace) (run : ClosedView) → list_any (λ line. is_some (child_of line.op)) trace.lines ≡ false
    → IsRunOf mode trace run → IsRunOf mode (parent_trace trace) run
alone_run mode trace run none is = subst (λ (t : Trace). IsRunOf mode t run) (own_parent trace trace.lines false refl (sym none) refl) is

pub own_run : (mode : Mode) (trace : Trace) (run : ClosedView) → list_any (λ line. is_some (child_of line.op)) trace.lines ≡ false
    → IsRunOf mode (parent_trace trace) run → IsRunOf mode trace run
own_run mode trace run none is = subst (λ (t : Trace). IsRunOf mode t run) (sym (own_parent trace trace.lines false refl (sym none) refl)) is

pub alone_history : (mode : Mode) (trace : Trace) (run : ClosedView) (history : List Item)
    → list_any (λ line. is_some (child_of line.op)) trace.lines ≡ false → history ≡ history_of_run mode (parent_trace trace) run
    → history ≡ history_of_run mode trace run
alone_history mode trace run history none is =
    is ∙ ap (λ (t : Trace). history_of_run mode t run) (sym (own_parent trace trace.lines false refl (sym none) refl))

-- what is printed of a history is the text of the run that it is of
pub run_listed : (mode : Mode) (trace : Trace) (run : ClosedView) (lines : List TraceLine) (history items : List Item) (shown : List Record)
    → lines ≡ trace.lines → history ≡ history_of_run mode trace run → items ≡ history → shown ≡ run.list
    → listed_text trace.config.files lines items shown
    ≡ listed_text trace.config.files trace.lines (history_of_run mode trace run) run.list
run_listed mode trace run lines history items shown of_trace made same list =
    ap (λ (l : List TraceLine). listed_text trace.config.files l items shown) of_trace
    ∙ ap (λ (i : List Item). listed_text trace.config.files trace.lines i shown) (same ∙ made)
    ∙ ap (λ (r : List Record). listed_text trace.config.files trace.lines (history_of_run mode trace run) r) list

-- the text of a run with no children is what the trace gives
pub alone_gives : (mode : Mode) (trace : Trace) (run : ClosedView) → IsTraceValue trace
    → list_any (λ line. is_some (child_of line.op)) trace.lines ≡ false → IsRunOf mode trace run → run.list ≡ list_after trace.config run.journal
    → GivesAnOutput mode trace (run ∷ []) (listed_text trace.config.files trace.lines (history_of_run mode trace run) run.list)
alone_gives mode trace run value none is list =
    let lines : trace.lines ≡ parent_lines trace.lines = sym (all_of_parent trace.lines none) in
    let items : List Item = history_of_run mode trace run in
    let parent : IsRunOf mode (parent_trace trace) run = alone_run mode trace run none is in
    let made : items ≡ history_of_run mode (parent_trace trace) run =
    ap (λ (t : Trace). history_of_run mode t run) (own_parent trace trace.lines false refl (sym none) refl) in
    let found : List Fork = forks_of trace.lines items in
    let no_forks : [] ≡ found = none_forks trace.lines run.journal found (no_children trace.lines none)
    (found_right trace mode run trace.lines items items found value parent lines made refl refl) in
    let family : IsFamily mode trace items [] (run ∷ []) =
    family_made trace mode run trace.lines items items [] [] (run ∷ []) parent list lines made refl no_forks refl ([], refl, tt) in
    let text : listed_text trace.config.files (parent_lines trace.lines) items run.list ++ []
    ≡ listed_text trace.config.files trace.lines items run.list =
    append-nil (listed_text trace.config.files (parent_lines trace.lines) items run.list)
    ∙ ap (λ (l : List TraceLine). listed_text trace.config.files l items run.list) (all_of_parent trace.lines none) in
    subst (GivesAnOutput mode trace (run ∷ [])) text (family_gives mode trace items [] (run ∷ []) value family)

-- what was done line by line, and the list after it, are the text of a run
pub turns_told : (files : List FileRow) (lines : List TraceLine) (turns items : List Item) (areas shown : List Record) → labelled lines lines turns ≡ items
    → shown ≡ areas → told_in_turn (item_text files) lines turns ++ maps_text files shown ≡ listed_text files lines items areas
unfolding listed_text
turns_told files lines turns items areas shown is same =
    ap (λ (t : List ℕ). t ++ maps_text files shown) (sym (told_of_lines files lines turns))
    ∙ ap (λ (l : List Item). told_by (item_text files) lines [] l ++ maps_text files shown) is
    ∙ ap (λ (l : List Record). told_by (item_text files) lines [] items ++ maps_text files l) same

-- into an empty piece
pub cut_empty : (old new : SinkView) (held text : List ℕ) (error : PrintError) → held ≡ [] → IsCutOff old new held text error → IsCutOff old new [] text error
cut_empty old new held text error none cut = subst (λ (h : List ℕ). IsCutOff old new h text error) none cut

pub prints_empty : (old new : SinkView) (held holds text : List ℕ) → held ≡ [] → Prints old new held holds text → Prints old new [] holds text
prints_empty old new held holds text none printed = subst (λ (h : List ℕ). Prints old new h holds text) none printed

pub none_fork : (trace : Trace) (lines : List TraceLine) (some : Bool) → lines ≡ trace.lines → some ≡ list_any (λ line. is_some (child_of line.op)) lines
    → some ≡ false → list_any (λ line. is_some (child_of line.op)) trace.lines ≡ false
none_fork trace lines some same is none = ap (λ (l : List TraceLine). list_any (λ line. is_some (child_of line.op)) l) (sym same) ∙ sym is ∙ none

-- the same of the only run of a list
pub only_gives : (mode : Mode) (trace : Trace) (run found : ClosedView) (runs : List ClosedView) → IsTraceValue trace
    → list_any (λ line. is_some (child_of line.op)) trace.lines ≡ false → IsRunOf mode trace run → run.list ≡ list_after trace.config run.journal
    → runs ≡ run ∷ [] → found ≡ get_or runs 0 found
    → GivesAnOutput mode trace runs (listed_text trace.config.files trace.lines (history_of_run mode trace found) found.list)
only_gives mode trace run found runs value none is list all first =
    let same : found ≡ run = first ∙ ap (λ (l : List ClosedView). get_or l 0 found) all in
    subst (λ (r : List ClosedView). GivesAnOutput mode trace r
    (listed_text trace.config.files trace.lines (history_of_run mode trace found) found.list)) (sym (all ∙ ap (λ (v : ClosedView). v ∷ []) (sym same)))
    (subst (λ (v : ClosedView). GivesAnOutput mode trace (v ∷ []) (listed_text trace.config.files trace.lines (history_of_run mode trace v) v.list))
    (sym same) (alone_gives mode trace run value none is list))

-- where what was done is told line by line
pub run_told : (mode : Mode) (trace : Trace) (run : ClosedView) (lines : List TraceLine) (turns : List Item) (shown : List Record) → lines ≡ trace.lines
    → labelled trace.lines trace.lines turns ≡ history_of_run mode trace run → shown ≡ run.list
    → told_in_turn (item_text trace.config.files) lines turns ++ maps_text trace.config.files shown
    ≡ listed_text trace.config.files trace.lines (history_of_run mode trace run) run.list
run_told mode trace run lines turns shown of_trace is same =
    ap (λ (l : List TraceLine). told_in_turn (item_text trace.config.files) l turns ++ maps_text trace.config.files shown) of_trace
    ∙ turns_told trace.config.files trace.lines turns (history_of_run mode trace run) run.list shown is same

pub cut_whole : (old new : SinkView) (held first second whole : List ℕ) (error : PrintError) → first ++ second ≡ whole → IsCutOff old new held first error
    → IsCutOff old new held whole error
cut_whole old new held first second whole error all cut =
    subst (λ (t : List ℕ). IsCutOff old new held t error) all (cut_more old new held first second error cut)
