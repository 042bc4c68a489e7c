-- The proof of `closed_family`: the parent's history is legal, and its forks are those of its children.
use Rattle.std.proofs.Common.{◌≡◌, ◌∙◌, ap, List, [], ◌∷◌, ◌++◌, All, subst, sym}
use Rattle.history.specs.Parents.{parent_trace}
use Rattle.history.proofs.OneSpace.{parent_is_trace}
use Rattle.mm_space.specs.Closing.{ClosedView}
use Rattle.mm_types.specs.declared.call.Entry.{Entry}
use Rattle.vma_replay.specs.Internal.Families.{AreRunsOfChildren, IsForkOf, IsParentJournal}
use Rattle.vma_replay.proofs.Parents.{bears, family_made, found_right, legal_items}
use Rattle.vma_replay.proofs.families.closed_family.Goals as goal

pub forks_of-requires : goal.forks_of-requires
forks_of-requires g c =
    legal_items c.args.mode (parent_trace c.args.trace.now) c.in_ok-run.run' c.args.lines.now c.in_ok-history.history c.items.result.now
    (parent_is_trace c.args.trace.now c.requires.trace) c.in_ok-run.ensures.run c.requires.lines c.in_ok-history.ensures c.items.ensures

pub children_runs-requires-clause-parent : goal.children_runs-requires-clause-parent
children_runs-requires-clause-parent g c lifetimes outlives =
    subst (IsParentJournal c.args.trace.now.config) (sym c.journal.ensures)
    (bears c.args.mode c.args.trace.now c.in_ok-run.run' c.requires.trace c.in_ok-run.ensures.run)

pub children_runs-requires-clause-forks : goal.children_runs-requires-clause-forks
children_runs-requires-clause-forks g c lifetimes outlives =
    subst (λ (journal : List Entry). All (IsForkOf c.args.trace.now.lines journal) c.as_slice.result.now) (sym c.journal.ensures)
    (found_right c.args.trace.now c.args.mode c.in_ok-run.run' c.args.lines.now c.in_ok-history.history c.items.result.now _ c.requires.trace
    c.in_ok-run.ensures.run c.requires.lines c.in_ok-history.ensures c.items.ensures (c.as_slice.ensures.value ∙ c.in_ok-forks.ensures))

pub returns : goal.returns
returns g c =
    let all : c.append.new.self.items ≡ c.in_ok-run.run' ∷ c.in_ok-children.children.items = c.in_ok-append.ensures.items
    ∙ ap (λ (l : List ClosedView). l ++ c.in_ok-children.children.items) (c.push_reserved.ensures.items
    ∙ ap (λ (l : List ClosedView). l ++ c.in_ok-run.run' ∷ []) c.in_ok-runs.ensures.items) in
    family_made c.args.trace.now c.args.mode c.in_ok-run.run' c.args.lines.now c.in_ok-history.history c.items.result.now c.in_ok-forks.forks.items
    c.as_slice.result.now _ c.in_ok-run.ensures.run c.in_ok-run.ensures.list c.requires.lines c.in_ok-history.ensures c.items.ensures
    c.in_ok-forks.ensures c.as_slice.ensures.value (
      c.in_ok-children.children.items,
      all,
      subst (λ (journal : List Entry). AreRunsOfChildren c.args.trace.now journal c.as_slice.result.now c.in_ok-children.children.items) c.journal.ensures
          c.in_ok-children.ensures,
    )
