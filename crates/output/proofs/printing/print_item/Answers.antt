-- The proof of `print_item`: its start was appended, and then what happened was printed.
use Rattle.std.proofs.Common.{refl}
use Rattle.output.proofs.Pieces.{at_error, cut_none, printing_after}
use Rattle.output.proofs.Fitting.{lacks_first, lacks_room, pushes_text, pushing_then}
use Rattle.output.proofs.printing.print_item.Goals as goal

pub returns-in_err-push_start-clause-printing : goal.returns-in_err-push_start-clause-printing
returns-in_err-push_start-clause-printing g c = at_error _ _ _ _ c.from_residual.ensures.1 (cut_none _ _ _ _ refl)

pub returns-clause-printing : goal.returns-clause-printing
returns-clause-printing g c = printing_after _ _ _ _ _ _ _ _ c.in_ok-push_start.ensures.ok c.print_result.ensures.printing

pub returns-in_err-push_start-clause-fits : goal.returns-in_err-push_start-clause-fits
returns-in_err-push_start-clause-fits g c = at_error _ _ _ _ c.from_residual.ensures.1
    (lacks_first _ _ _ _ _ refl (lacks_room _ _ _ _ c.args.piece.now.ok.0 c.in_err-push_start.ensures.room))

pub returns-clause-fits : goal.returns-clause-fits
returns-clause-fits g c = pushing_then _ _ _ _ _ _ _ _ _
    (pushes_text _ _ _ _ _ c.in_ok-push_start.ensures.ok c.in_ok-push_start.ensures.capacity) c.print_result.ensures.fits
