-- The proof of `print_list`: before the first area, at the next, and after the last.
use Rattle.std.proofs.Common.{ap, refl, take_all, arith}
use Rattle.mm_types.specs.MapsText.{list_text}
use Rattle.output.proofs.Pieces.{at_error, cut_at, cut_before, cut_pushed, lines_more, lines_rest, lines_split, prints_as, prints_none, prints_pushed, prints_then}
use Rattle.output.proofs.Fitting.{lacks_at, lacks_pushed, lacks_room, pushes_as, pushes_none, pushes_pushed, pushes_then}
use Rattle.output.proofs.printing.print_list.Goals as goal

pub loop-area-init : goal.loop-area-init
loop-area-init g c = record { printed = prints_none _ _ c.requires.held; fits = pushes_none _ _ }

pub returns-in_err-push_line-clause-printing : goal.returns-in_err-push_line-clause-printing
returns-in_err-push_line-clause-printing g c = at_error _ _ _ _ c.from_residual.ensures.1
    (cut_before _ _ _ _ _ _ _ _ c.loop-area.invariant.printed (lines_split c.args.files.now c.args.areas.now c.loop-area.area-index) refl)

pub returns-in_err-give_full-clause-printing : goal.returns-in_err-give_full-clause-printing
returns-in_err-give_full-clause-printing g c = at_error _ _ _ _ c.from_residual-in_err-give_full.ensures.1
    (cut_at _ _ _ _ _ _ _ _ _ _ c.loop-area.invariant.printed
    (lines_rest c.args.files.now c.args.areas.now c.loop-area.area-index _ c.loop-area-test.true)
    (cut_pushed _ _ _ _ _ _ c.in_ok-push_line.ensures.ok c.in_err-give_full.ensures.printing))

pub loop-area-preserved : goal.loop-area-preserved
loop-area-preserved g c =
    let more = lines_more c.args.files.now c.args.areas.now c.loop-area.area-index _ c.loop-area-test.true in
    record {
      printed = prints_as _ _ _ _ _ _ more (prints_then _ _ _ _ _ _ _ _ c.loop-area.invariant.printed
          (prints_pushed _ _ _ _ _ _ c.in_ok-push_line.ensures.ok c.in_ok-give_full.ensures.printing));
      fits = pushes_as _ _ _ _ _ _ more (pushes_then _ _ _ _ _ _ _ _ c.loop-area.invariant.fits
          (pushes_pushed _ _ _ _ _ _ _ c.in_ok-push_line.ensures.ok c.in_ok-push_line.ensures.capacity c.in_ok-give_full.ensures.fits));
    }

pub returns-clause-printing : goal.returns-clause-printing
returns-clause-printing g c = prints_as _ _ _ _ _ _ (ap (list_text c.args.files.now) (take_all c.loop-area.area-index c.args.areas.now (omega arith))) c.loop-area.invariant.printed

pub returns-in_err-push_line-clause-fits : goal.returns-in_err-push_line-clause-fits
returns-in_err-push_line-clause-fits g c = at_error _ _ _ _ c.from_residual.ensures.1
    (lacks_at _ _ _ _ _ _ _ _ c.loop-area.invariant.fits
    (lines_rest c.args.files.now c.args.areas.now c.loop-area.area-index _ c.loop-area-test.true)
    (lacks_room _ _ _ _ c.loop-area.piece.ok.0 c.in_err-push_line.ensures.room))

pub returns-in_err-give_full-clause-fits : goal.returns-in_err-give_full-clause-fits
returns-in_err-give_full-clause-fits g c = at_error _ _ _ _ c.from_residual-in_err-give_full.ensures.1
    (lacks_at _ _ _ _ _ _ _ _ c.loop-area.invariant.fits
    (lines_rest c.args.files.now c.args.areas.now c.loop-area.area-index _ c.loop-area-test.true)
    (lacks_pushed _ _ _ _ _ c.in_ok-push_line.ensures.ok c.in_ok-push_line.ensures.capacity c.in_err-give_full.ensures.fits))

pub returns-clause-fits : goal.returns-clause-fits
returns-clause-fits g c = pushes_as _ _ _ _ _ _ (ap (list_text c.args.files.now) (take_all c.loop-area.area-index c.args.areas.now (omega arith)))
    c.loop-area.invariant.fits
