-- For `has_hole`: its goals.
use Rattle.std.proofs.Common.{◌<◌, sym, arith}
use Rattle.area_list.proofs.Ordered.{ends_above}
use Rattle.area_model.proofs.Holes.{no_hole, hole_at, mapped_up_to}
use Rattle.area_model.proofs.mseal_table.has_hole.Goals as goal

pub returns-in_default : goal.returns-in_default
returns-in_default c = sym (hole_at c.args.span c.args.areas.now c.loop-page.page c.loop-page.invariant.above c.loop-page-test.true
    (sym c.in_default.ensures) c.loop-page.invariant.all)

pub loop-page-smaller : goal.loop-page-smaller
loop-page-smaller c =
    let further : c.loop-page.page < c.in-Some.area.now.span.hi = ends_above c.args.areas.now c.loop-page.page c.in-Some.area.now (sym c.in-Some.ensures) in
    omega (arith, c.loop-page-test.true)

pub loop-page-preserved : goal.loop-page-preserved
loop-page-preserved c =
    let further : c.loop-page.page < c.in-Some.area.now.span.hi = ends_above c.args.areas.now c.loop-page.page c.in-Some.area.now (sym c.in-Some.ensures) in record {
      above = omega (arith, c.loop-page.invariant.above);
      all = mapped_up_to c.args.areas.now c.args.span.lo c.loop-page.page c.in-Some.area.now c.requires.valid c.requires.ordered
          (sym c.in-Some.ensures) c.loop-page.invariant.all;
    }

pub returns : goal.returns
returns c = sym (no_hole c.args.span c.args.areas.now
    (λ page from below. c.loop-page.invariant.all page from (omega (arith, c.loop-page-test.false))))
