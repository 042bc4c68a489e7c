-- The proof of `print_areas`: the child and the number of areas were appended, or the list was printed.
use Rattle.std.proofs.Common.{refl}
use Rattle.history.specs.declared.items.Content.TheVariants as contents
use Rattle.output.proofs.InTurn.{areas_told}
use Rattle.output.proofs.Outputs.{forked_is}
use Rattle.output.proofs.Pieces.{at_error, printing_as, printing_pushed}
use Rattle.output.proofs.Fitting.{lacks_as, lacks_room, pushing_as, pushing_pushed}
use Rattle.output.proofs.printing.print_areas.Goals as goal

pub returns-in_ok-push_forked-in-Fork-clause-printing : goal.returns-in_ok-push_forked-in-Fork-clause-printing
returns-in_ok-push_forked-in-Fork-clause-printing g c = printing_as _ _ _ _ _ _ _
    (forked_is c.args.files.now c.args.op (contents.List c.args.areas.now) c.in-Fork.child c.args.areas.now c.args.areas.now c.in-Fork.is refl refl)
    (printing_pushed _ _ _ _ _ _ _ c.in_ok-push_forked-in-Fork.ensures.ok c.give_full.ensures.printing)

pub returns-in-Call-clause-printing : goal.returns-in-Call-clause-printing
returns-in-Call-clause-printing g c = printing_as _ _ _ _ _ _ _
    (areas_told c.args.files.now c.args.op c.args.areas.now c.in-Call.is) c.print_maps.ensures.printing

pub returns-in_ok-push_forked-in-Fork-clause-fits : goal.returns-in_ok-push_forked-in-Fork-clause-fits
returns-in_ok-push_forked-in-Fork-clause-fits g c = pushing_as _ _ _ _ _ _ _
    (forked_is c.args.files.now c.args.op (contents.List c.args.areas.now) c.in-Fork.child c.args.areas.now c.args.areas.now c.in-Fork.is refl refl)
    (pushing_pushed _ _ _ _ _ _ _ _ c.in_ok-push_forked-in-Fork.ensures.ok c.in_ok-push_forked-in-Fork.ensures.capacity c.give_full.ensures.fits)

pub returns-in_err-push_forked-in-Fork-clause-fits : goal.returns-in_err-push_forked-in-Fork-clause-fits
returns-in_err-push_forked-in-Fork-clause-fits g c = at_error _ _ _ _ c.from_residual.ensures.1
    (lacks_as _ _ _ _
    (forked_is c.args.files.now c.args.op (contents.List c.args.areas.now) c.in-Fork.child c.args.areas.now c.args.areas.now c.in-Fork.is refl refl)
    (lacks_room _ _ _ _ c.args.piece.now.ok.0 c.in_err-push_forked-in-Fork.ensures.room))

pub returns-in-Call-clause-fits : goal.returns-in-Call-clause-fits
returns-in-Call-clause-fits g c = pushing_as _ _ _ _ _ _ _
    (areas_told c.args.files.now c.args.op c.args.areas.now c.in-Call.is) c.print_maps.ensures.fits
