-- For `serial_outputs_are_equal`: in `serial` the parent's history, and so its forks, are the same in each run, and so are its children's.
use Rattle.std.proofs.Common.{ℕ, ◌≡◌, ◌∙◌, refl, sym, ap, subst, List, [], ◌∷◌, ◌++◌, zip, flat_map}
use Rattle.std.specs.List.{AllZip}
use Rattle.mm_types.specs.declared.call.Entry.{Entry}
use Rattle.trace_reader.specs.declared.trace.Trace.{Trace}
use Rattle.trace_reader.specs.declared.trace.TraceLine.{TraceLine}
use Rattle.history.specs.declared.items.Item.{Item}
use Rattle.mm_space.specs.Closing.{ClosedView}
use Rattle.history.specs.Parents.{parent_lines, parent_trace}
use Rattle.mm_fork.specs.Children.{inherited, child_history_of}
use Rattle.history.specs.SpaceLines.{child_lines}
use Rattle.mm_fork.proofs.Alike.{same_history}
use Rattle.vma_replay.specs.declared.forks.Fork.{Fork}
use Rattle.vma_replay.specs.declared.words.Mode.TheVariants as modes
use Rattle.output.specs.Output.{output_text}
use Rattle.vma_replay.specs.ChildTexts.{child_text}
use Rattle.vma_replay.specs.Forks.{forks_of}
use Rattle.vma_replay.specs.Replaying.{GivesRuns, IsRunOfChild, history_of_run, text_of_run}
use Rattle.vma_replay.proofs.RunTexts.{serial_is}
use Rattle.vma_replay.proofs.SerialRuns.{same_journal}

-- a child of the same journal has the same text
child_alike : (trace : Trace) (parent : List Entry) (fork : Fork) (run other : ClosedView) → IsRunOfChild trace parent fork run
    → IsRunOfChild trace parent fork other → text_of_run trace parent (fork, run) ≡ text_of_run trace parent (fork, other)
child_alike trace parent fork run other one two =
    let before : List Entry = inherited parent fork.version in
    let same : child_history_of fork.version run.journal run.logs ≡ child_history_of fork.version other.journal other.logs =
    same_history trace.config before before trace.lines fork.child _ _ refl one.legal two.legal in
    ap (child_text trace.config (child_lines trace.lines fork.child) fork before) same

children_alike : (trace : Trace) (parent : List Entry) (forks : List Fork) (runs others : List ClosedView)
    → AllZip (IsRunOfChild trace parent) forks runs → AllZip (IsRunOfChild trace parent) forks others
    → flat_map (text_of_run trace parent) (zip forks runs) ≡ flat_map (text_of_run trace parent) (zip forks others)
children_alike trace parent [] runs others one two = refl
children_alike trace parent (fork ∷ forks) [] others one two = absurd one
children_alike trace parent (fork ∷ forks) (run ∷ runs) [] one two = absurd two
children_alike trace parent (fork ∷ forks) (run ∷ runs) (other ∷ others) one two =
    ap (λ (t : List ℕ). t ++ flat_map (text_of_run trace parent) (zip forks runs)) (child_alike trace parent fork run other one.0 two.0)
    ∙ ap (λ (t : List ℕ). text_of_run trace parent (fork, other) ++ t) (children_alike trace parent forks runs others one.1 two.1)

pub outputs_alike : (trace : Trace) (runs others : List ClosedView) (text other : List ℕ)
    → GivesRuns modes.Serial trace runs text → GivesRuns modes.Serial trace others other → text ≡ other
outputs_alike trace runs others text other one two =
    let lines : List TraceLine = parent_lines trace.lines in
    let mine = one.parent_is.run_is in
    let theirs = two.parent_is.run_is in
    let items : history_of_run modes.Serial (parent_trace trace) one.parent ≡ history_of_run modes.Serial (parent_trace trace) two.parent =
    serial_is (parent_trace trace) one.parent mine ∙ sym (serial_is (parent_trace trace) two.parent theirs) in
    let journals : one.parent.journal ≡ two.parent.journal =
    same_journal trace.config lines one.parent.journal two.parent.journal mine.0 theirs.0 mine.2 theirs.2 in
    let first : List Item → List ℕ = output_text trace.config lines in
    let rest : List Entry → List Item → List ClosedView → List ℕ =
    λ j l c. flat_map (text_of_run trace j) (zip (forks_of lines l) c) in
    let are : List Entry → List Item → Type 0 = λ j l. AllZip (IsRunOfChild trace j) (forks_of lines l) one.children in
    let my_items : List Item = history_of_run modes.Serial (parent_trace trace) one.parent in
    let their_items : List Item = history_of_run modes.Serial (parent_trace trace) two.parent in
    let children : are two.parent.journal their_items =
    subst (λ (l : List Item). are two.parent.journal l) items (subst (λ (j : List Entry). are j my_items) journals one.children_are) in
    one.text_is ∙ ap (λ (l : List Item). first l ++ rest one.parent.journal my_items one.children) items
    ∙ ap (λ (j : List Entry). first their_items ++ rest j my_items one.children) journals
    ∙ ap (λ (l : List Item). first their_items ++ rest two.parent.journal l one.children) items
    ∙ ap (λ (t : List ℕ). first their_items ++ t)
    (children_alike trace two.parent.journal (forks_of lines their_items) one.children two.children children two.children_are)
    ∙ sym two.text_is
