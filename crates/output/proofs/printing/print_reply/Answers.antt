-- The proof of `print_reply`: the reply is appended and the line ended.
use Rattle.output.proofs.Pieces.{at_error, printing_after}
use Rattle.std.proofs.Common.{refl}
use Rattle.output.proofs.Fitting.{lacks_first, lacks_room, pushes_text, pushing_then}
use Rattle.output.proofs.printing.print_reply.Goals as goal

pub returns-clause-printing : goal.returns-clause-printing
returns-clause-printing g c = printing_after _ _ _ _ _ _ _ _ c.in_ok-push_reply.ensures.ok c.end_line.ensures.printing

pub returns-in_err-push_reply-clause-fits : goal.returns-in_err-push_reply-clause-fits
returns-in_err-push_reply-clause-fits g c = at_error _ _ _ _ c.from_residual.ensures.1
    (lacks_first _ _ _ _ _ refl (lacks_room _ _ _ _ c.args.piece.now.ok.0 c.in_err-push_reply.ensures.room))

pub returns-clause-fits : goal.returns-clause-fits
returns-clause-fits g c = pushing_then _ _ _ _ _ _ _ _ _
    (pushes_text _ _ _ _ _ c.in_ok-push_reply.ensures.ok c.in_ok-push_reply.ensures.capacity) c.end_line.ensures.fits
