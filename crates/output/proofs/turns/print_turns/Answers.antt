-- The proof of `print_turns`: before the first line, at the next, and after the last.
use Rattle.std.proofs.Common.{refl, []}
use Rattle.output.proofs.InTurn.{told_more, told_to_the_end, told_to_the_last}
use Rattle.output.proofs.Pieces.{at_error, cut_at, prints_as, prints_none, prints_then}
use Rattle.output.proofs.Fitting.{lacks_at, pushes_as, pushes_none, pushes_then}
use Rattle.output.proofs.turns.print_turns.Goals as goal

pub loop-line-init : goal.loop-line-init
loop-line-init g c = ([], prints_none _ _ c.requires.held, refl, pushes_none _ _)

pub loop-line-preserved : goal.loop-line-preserved
loop-line-preserved g c = (
  _,
  prints_then _ _ _ _ _ _ _ _ c.loop-line.invariant.1 c.in_ok-print_turn.ensures.printing,
  told_more _ _ _ _ _ _ _ _ _ c.loop-line-test.true c.in-Some.ensures c.loop-line.invariant.2,
  pushes_then _ _ _ _ _ _ _ _ c.loop-line.invariant.3 c.in_ok-print_turn.ensures.fits,
)

pub returns-in_default-clause-printing : goal.returns-in_default-clause-printing
returns-in_default-clause-printing g c = prints_as _ _ _ _ _ _ (told_to_the_last _ _ _ _ _ c.in_default.ensures.0 c.loop-line.invariant.2) c.loop-line.invariant.1

pub returns-in_err-print_turn-clause-printing : goal.returns-in_err-print_turn-clause-printing
returns-in_err-print_turn-clause-printing g c = at_error _ _ _ _ c.from_residual.ensures.1
    (cut_at _ _ _ _ _ _ _ _ _ _ c.loop-line.invariant.1
    (told_more _ _ _ _ _ _ _ _ _ c.loop-line-test.true c.in-Some.ensures c.loop-line.invariant.2) c.in_err-print_turn.ensures.printing)

pub returns-clause-printing : goal.returns-clause-printing
returns-clause-printing g c = prints_as _ _ _ _ _ _ (told_to_the_end _ _ _ _ _ _ c.loop-line-test.false c.loop-line.invariant.2) c.loop-line.invariant.1

pub returns-in_default-clause-fits : goal.returns-in_default-clause-fits
returns-in_default-clause-fits g c = pushes_as _ _ _ _ _ _ (told_to_the_last _ _ _ _ _ c.in_default.ensures.0 c.loop-line.invariant.2) c.loop-line.invariant.3

pub returns-in_err-print_turn-clause-fits : goal.returns-in_err-print_turn-clause-fits
returns-in_err-print_turn-clause-fits g c = at_error _ _ _ _ c.from_residual.ensures.1
    (lacks_at _ _ _ _ _ _ _ _ c.loop-line.invariant.3
    (told_more _ _ _ _ _ _ _ _ _ c.loop-line-test.true c.in-Some.ensures c.loop-line.invariant.2) c.in_err-print_turn.ensures.fits)

pub returns-clause-fits : goal.returns-clause-fits
returns-clause-fits g c = pushes_as _ _ _ _ _ _ (told_to_the_end _ _ _ _ _ _ c.loop-line-test.false c.loop-line.invariant.2) c.loop-line.invariant.3
