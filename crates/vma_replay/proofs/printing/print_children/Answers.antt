-- The proof of `print_children`: at the next child; and there is a run for it.
use Rattle.std.proofs.Common.{[], refl}
use Rattle.vma_replay.proofs.FamilyTexts.{child_at, children_more, found_at, none_missing}
use Rattle.output.proofs.Pieces.{at_error, cut_at, prints_none, prints_then}
use Rattle.vma_replay.proofs.printing.print_children.Goals as goal
use Rattle.vma_replay.proofs.printing.print_children.Goals.{in-Some+in_ok-print_child, in_default}

pub loop-place-init : goal.loop-place-init
loop-place-init g c = ([], prints_none _ _ c.requires.held, record { told = refl })

pub print_child-requires-clause-child : goal.print_child-requires-clause-child
print_child-requires-clause-child g c = c.requires.forks c.loop-place.place _ c.loop-place-test.true

pub print_child-requires-clause-run : goal.print_child-requires-clause-run
print_child-requires-clause-run g c =
    child_at c.args.trace.now c.requires.runs.0 c.args.forks.now c.args.runs.now c.loop-place.place _ c.in-Some.run'.now c.requires.runs.1
    c.loop-place-test.true c.in-Some.ensures.lookup.1

pub returns-in_err-print_child : goal.returns-in_err-print_child
returns-in_err-print_child g c = at_error _ _ _ _ c.from_residual.ensures.1
    (cut_at _ _ _ _ _ _ _ _ _ _ c.loop-place.invariant.1
    (children_more c.args.trace.now c.args.forks.now c.args.runs.now c.loop-place.place c.loop-place.invariant.0 _ c.in-Some.run'.now
    c.loop-place.invariant.2 c.loop-place-test.true
    (found_at c.args.trace.now c.requires.runs.0 c.args.forks.now c.args.runs.now c.loop-place.place c.in-Some.run'.now c.requires.runs.1
    c.loop-place-test.true c.in-Some.ensures.lookup.1)).told c.in_err-print_child.ensures)

pub loop-place-preserved : goal.loop-place-preserved
loop-place-preserved g c = elim c.match-get.branch [
  | in-Some+in_ok-print_child w ↦ rw (w.sink-is, w.piece-is) (
    _,
    prints_then _ _ _ _ _ _ _ _ c.loop-place.invariant.1 w.in_ok-print_child.ensures,
    children_more c.args.trace.now c.args.forks.now c.args.runs.now c.loop-place.place c.loop-place.invariant.0 _ w.in-Some.run'.now
        c.loop-place.invariant.2 c.loop-place-test.true
        (found_at c.args.trace.now c.requires.runs.0 c.args.forks.now c.args.runs.now c.loop-place.place w.in-Some.run'.now c.requires.runs.1
        c.loop-place-test.true w.in-Some.ensures.lookup.1),
  )
  | in_default w ↦ absurd (none_missing c.args.trace.now c.requires.runs.0 c.args.forks.now c.args.runs.now c.loop-place.place c.requires.runs.1
      c.loop-place-test.true w.in_default.ensures.lookup.0)
]
