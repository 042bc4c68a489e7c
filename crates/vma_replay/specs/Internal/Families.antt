-- The closed runs of a parent and of its children, and what their text is made of.
use Rattle.std.specs.Prelude.{ℕ, ◌≡◌, ◌≤◌, ◌<◌, List, [], ◌∷◌, ◌++◌, length, All, Contains}
use Rattle.std.specs.List.{AllZip}
use Rattle.mm_types.specs.declared.call.Entry.{Entry}
use Rattle.mm_types.specs.declared.config.Config.{Config}
use Rattle.trace_reader.specs.declared.limits.TheConstants.{MOST_LINES}
use Rattle.trace_reader.specs.declared.trace.Trace.{Trace}
use Rattle.trace_reader.specs.declared.trace.TraceLine.{TraceLine}
use Rattle.trace_reader.specs.Values.{children_of}
use Rattle.area_rules.specs.Steps.{IsLegalJournal}
use Rattle.lock_core.specs.Facts.{list_after}
use Rattle.history.specs.declared.callers.TheConstants.{MOST_THREADS}
use Rattle.history.specs.declared.items.Item.{Item}
use Rattle.mm_space.specs.Closing.{ClosedView}
use Rattle.history.specs.Parents.{parent_lines, parent_trace}
use Rattle.mm_fork.specs.Children.{child_history_of}
use Rattle.history.specs.SpaceLines.{child_lines}
use Rattle.vma_replay.specs.declared.forks.Fork.{Fork}
use Rattle.vma_replay.specs.declared.words.Mode.{Mode}
use Rattle.output.specs.Output.{listed_text}
use Rattle.vma_replay.specs.ChildTexts.{child_line}
use Rattle.vma_replay.specs.Forks.{forks_of}
use Rattle.vma_replay.specs.Replaying.{IsRunOf, IsRunOfChild, history_of_run}

-- the journal of a parent, from which children can begin: it is legal, of the callers of a trace, and no longer than a trace
pub record IsParentJournal (config : Config) (journal : List Entry) : Type 0 where
  pub legal : IsLegalJournal config journal
  pub callers : All (λ entry. entry.caller < MOST_THREADS) journal
  pub few : length journal ≤ MOST_LINES

-- a fork of a line of a trace, whose parent had this journal
pub record IsForkOf (lines : List TraceLine) (journal : List Entry) (fork : Fork) : Type 0 where
  pub child : Contains (children_of lines) fork.child
  pub within : fork.version ≤ length journal

-- closed runs of the children of a trace, one for each fork
abbrev pub AreRunsOfChildren : Trace → List Entry → List Fork → List ClosedView → Type 0
AreRunsOfChildren trace parent forks runs = AllZip (IsRunOfChild trace parent) forks runs

-- the text of a child, by its closed run
abbrev pub text_of_child : Trace → Fork → ClosedView → List ℕ
text_of_child trace fork run = child_line fork ++ listed_text trace.config.files (child_lines trace.lines fork.child)
    (child_history_of fork.version run.journal run.logs) run.list

-- the texts of children, one after another
abbrev pub text_of_children : Trace → List Fork → List ClosedView → List ℕ
text_of_children trace (fork ∷ forks) (run ∷ runs) = text_of_child trace fork run ++ text_of_children trace forks runs
text_of_children trace [] runs = []
text_of_children trace (fork ∷ forks) [] = []

-- The closed runs of a trace in a mode, the parent's first, with the history and the forks of the parent's.
pub record IsFamily (mode : Mode) (trace : Trace) (history : List Item) (forks : List Fork) (runs : List ClosedView) : Type 0 where
  pub parent : ClosedView
  pub children : List ClosedView
  pub runs_are : runs ≡ parent ∷ children
  pub parent_is : IsRunOf mode (parent_trace trace) parent
  pub list : parent.list ≡ list_after trace.config parent.journal
  pub history_is : history ≡ history_of_run mode (parent_trace trace) parent
  pub forks_are : forks ≡ forks_of (parent_lines trace.lines) history
  pub children_are : AreRunsOfChildren trace parent.journal forks children

-- their text, by the lists that they left
abbrev pub text_of_family : Trace → List Item → List Fork → List ClosedView → List ℕ
text_of_family trace history forks [] = []
text_of_family trace history forks (parent ∷ children) =
    listed_text trace.config.files (parent_lines trace.lines) history parent.list ++ text_of_children trace forks children
