-- For `has_hole` of scans.rt: its goals.
use Rattle.std.proofs.Common.{◌<◌, List, sym, arith}
use Rattle.mm_types.specs.declared.area.Record.{Record}
use Rattle.area_list.proofs.Ordered.{ends_above}
use Rattle.split_merge.proofs.Scanning.{hole_at, no_hole, mapped_up_to}
use Rattle.split_merge.proofs.scans.has_hole.Goals as goal

pub returns-in_default : goal.returns-in_default
returns-in_default g c = let areas : List Record = g.A.Areas.list c.args.areas.now in
    sym (hole_at c.args.span areas c.loop-page.page c.loop-page.invariant.above c.loop-page-test.true (sym c.in_default.ensures))

pub loop-page-smaller : goal.loop-page-smaller
loop-page-smaller g c = let areas : List Record = g.A.Areas.list c.args.areas.now in
    let further : c.loop-page.page < c.in-Some.area.span.hi = ends_above areas c.loop-page.page c.in-Some.area (sym c.in-Some.ensures) in
    omega (arith, c.loop-page-test.true)

pub loop-page-preserved : goal.loop-page-preserved
loop-page-preserved g c = let areas : List Record = g.A.Areas.list c.args.areas.now in
    let further : c.loop-page.page < c.in-Some.area.span.hi = ends_above areas c.loop-page.page c.in-Some.area (sym c.in-Some.ensures) in record {
      above = omega (arith, c.loop-page.invariant.above);
      mapped = mapped_up_to areas c.args.span.lo c.loop-page.page c.in-Some.area c.requires.valid c.requires.ordered (sym c.in-Some.ensures)
          c.loop-page.invariant.mapped;
    }

pub returns : goal.returns
returns g c = let areas : List Record = g.A.Areas.list c.args.areas.now in
    sym (no_hole c.args.span areas (λ page from below. c.loop-page.invariant.mapped page from (omega (arith, c.loop-page-test.false))))
