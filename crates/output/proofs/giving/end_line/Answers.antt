-- The proof of `end_line`: the newline was appended, and then what is full was given.
use Rattle.std.proofs.Common.{refl}
use Rattle.output.proofs.Pieces.{at_error, cut_none, printing_pushed}
use Rattle.output.proofs.Fitting.{lacks_room, pushing_pushed}
use Rattle.output.proofs.giving.end_line.Goals as goal

pub returns-in_err-extend_from_slice-clause-printing : goal.returns-in_err-extend_from_slice-clause-printing
returns-in_err-extend_from_slice-clause-printing g c = at_error _ _ _ _ c.from_residual.ensures.1 (cut_none _ _ _ _ refl)

pub returns-clause-printing : goal.returns-clause-printing
returns-clause-printing g c = printing_pushed _ _ _ _ _ _ _ c.in_ok-extend_from_slice.ensures.items c.give_full.ensures.printing

pub returns-in_err-extend_from_slice-clause-fits : goal.returns-in_err-extend_from_slice-clause-fits
returns-in_err-extend_from_slice-clause-fits g c = at_error _ _ _ _ c.from_residual.ensures.1
    (lacks_room _ _ _ _ c.args.piece.now.ok.0 c.in_err-extend_from_slice.ensures.full)

pub returns-clause-fits : goal.returns-clause-fits
returns-clause-fits g c = pushing_pushed _ _ _ _ _ _ _ _ c.in_ok-extend_from_slice.ensures.items
    c.in_ok-extend_from_slice.ensures.capacity c.give_full.ensures.fits
