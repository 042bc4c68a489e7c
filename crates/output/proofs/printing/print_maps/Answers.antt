-- The proof of `print_maps`: the line of the count was appended, and then the lines of the areas were printed.
use Rattle.std.proofs.Common.{◌++◌, codes, decimal, length, refl}
use Rattle.mm_types.specs.MapsText.{list_text}
use Rattle.output.proofs.Pieces.{at_error, cut_first_of, cut_none, cut_pushed, printing_as, printing_then, prints_pushed}
use Rattle.output.proofs.Outputs.{maps_is}
use Rattle.output.proofs.Fitting.{lacks_first, lacks_pushed, lacks_room, pushes_pushed, pushing_as, pushing_then}
use Rattle.output.proofs.printing.print_maps.Goals as goal

pub returns-in_err-push_count-clause-printing : goal.returns-in_err-push_count-clause-printing
returns-in_err-push_count-clause-printing g c = at_error _ _ _ _ c.from_residual.ensures.1 (cut_none _ _ _ _ refl)

pub returns-clause-printing : goal.returns-clause-printing
returns-clause-printing g c = printing_as _ _ _ _ _ _ _ (maps_is c.args.files.now c.args.areas.now)
    (printing_then _ _ _ _ _ _ _ _ _ (prints_pushed _ _ _ _ _ _ c.in_ok-push_count.ensures.ok c.in_ok-give_full.ensures.printing) c.print_list.ensures.printing)

pub returns-in_err-give_full-clause-printing : goal.returns-in_err-give_full-clause-printing
returns-in_err-give_full-clause-printing g c = at_error _ _ _ _ c.from_residual-in_err-give_full.ensures.1
    (cut_first_of _ _ _ _ _ _ _ (maps_is c.args.files.now c.args.areas.now)
    (cut_pushed _ _ _ _ _ _ c.in_ok-push_count.ensures.ok c.in_err-give_full.ensures.printing))

pub returns-in_err-push_count-clause-fits : goal.returns-in_err-push_count-clause-fits
returns-in_err-push_count-clause-fits g c = at_error _ _ _ _ c.from_residual.ensures.1
    (lacks_first _ _ (codes "maps " ++ (decimal (length c.args.areas.now) ++ codes "\n")) (list_text c.args.files.now c.args.areas.now) _
    (maps_is c.args.files.now c.args.areas.now)
    (lacks_room _ _ _ _ c.args.piece.now.ok.0 c.in_err-push_count.ensures.room))

pub returns-in_err-give_full-clause-fits : goal.returns-in_err-give_full-clause-fits
returns-in_err-give_full-clause-fits g c = at_error _ _ _ _ c.from_residual-in_err-give_full.ensures.1
    (lacks_first _ _ _ _ _ (maps_is c.args.files.now c.args.areas.now)
    (lacks_pushed _ _ _ _ _ c.in_ok-push_count.ensures.ok c.in_ok-push_count.ensures.capacity c.in_err-give_full.ensures.fits))

pub returns-clause-fits : goal.returns-clause-fits
returns-clause-fits g c = pushing_as _ _ _ _ _ _ _ (maps_is c.args.files.now c.args.areas.now)
    (pushing_then _ _ _ _ _ _ _ _ _
    (pushes_pushed _ _ _ _ _ _ _ c.in_ok-push_count.ensures.ok c.in_ok-push_count.ensures.capacity c.in_ok-give_full.ensures.fits)
    c.print_list.ensures.fits)
