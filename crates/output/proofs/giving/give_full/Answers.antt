-- The proof of `give_full`: the whole pieces at the front are given, and the rest is kept.
use Rattle.std.proofs.Common.{◌-◌, ◌%◌, refl, arith}
use Rattle.output.proofs.Pieces.{at_error, cut_front, few_left, few_none, front_rest, prints_front, prints_none}
use Rattle.output.proofs.Fitting.{lacks_full, pushes_absurd, pushes_none}
use Rattle.output.proofs.giving.give_full.Goals as goal

pub returns-then-full-eq0-clause-printing : goal.returns-then-full-eq0-clause-printing
returns-then-full-eq0-clause-printing g c = prints_none _ _ (few_none c.len.result c.len-2.result _ (omega (arith, c.len.ensures, c.args.piece.now.ok.0))
    (omega (arith, c.len-2.ensures, c.args.piece.now.ok.0)) c.if-full-eq0.true)

pub returns-in_err-give_all-clause-printing : goal.returns-in_err-give_all-clause-printing
returns-in_err-give_all-clause-printing g c = at_error _ _ _ _ c.from_residual.ensures.1 (cut_front _ _ _ _ _ _
    (front_rest (c.len.result - c.len-2.result % 65536) _ c.deref.result.now _ c.deref.ensures.value refl) c.in_err-give_all.ensures)

pub returns-clause-printing : goal.returns-clause-printing
returns-clause-printing g c = prints_front _ _ _ _ _ (front_rest _ _ _ _ c.deref.ensures.value c.drop_front.ensures)
    (few_left c.len.result c.len-2.result c.args.piece.now.items _ (omega (arith, c.len.ensures, c.args.piece.now.ok.0))
    (omega (arith, c.len-2.ensures, c.args.piece.now.ok.0)) c.drop_front.ensures) c.in_ok-give_all.ensures

pub returns-then-full-eq0-clause-fits : goal.returns-then-full-eq0-clause-fits
returns-then-full-eq0-clause-fits g c = pushes_none _ _

pub returns-in_err-give_all-clause-fits : goal.returns-in_err-give_all-clause-fits
returns-in_err-give_all-clause-fits g c = at_error _ _ _ _ c.from_residual.ensures.1
    (lacks_full _ c.len.result c.len-2.result _ (omega (arith, c.len.ensures, c.args.piece.now.ok.0))
    (omega (arith, c.len-2.ensures, c.args.piece.now.ok.0)) (omega (arith, c.if-full-eq0.false)))

pub returns-clause-fits : goal.returns-clause-fits
returns-clause-fits g c = pushes_absurd _ _ _ _ _
    (lacks_full _ c.len.result c.len-2.result _ (omega (arith, c.len.ensures, c.args.piece.now.ok.0))
    (omega (arith, c.len-2.ensures, c.args.piece.now.ok.0)) (omega (arith, c.if-full-eq0.false)))
