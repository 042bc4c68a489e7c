-- For `stop_of` of stops.rt: its goals.
use Rattle.std.proofs.Common.{◌<◌, ◌∙◌, List, sym, false, arith}
use Rattle.mm_types.specs.declared.area.Record.{Record}
use Rattle.area_list.specs.Areas.{area_at}
use Rattle.area_list.proofs.Ordered.{ends_above}
use Rattle.area_rules.proofs.Stopping.{stop_at_end, stop_before, may_not_unmapped, may_by_area, may_up_to}
use Rattle.split_merge.proofs.Stopping.{error_unmapped, error_denied, error_none}
use Rattle.split_merge.proofs.stops.stop_of.Goals as goal

pub returns-in_default-clause-page : goal.returns-in_default-clause-page
returns-in_default-clause-page g c = let areas : List Record = g.A.Areas.list c.args.areas.now in
    sym (stop_before c.args.prot c.args.span areas c.loop-page.page c.loop-page.invariant.above c.loop-page-test.true
    (may_not_unmapped c.args.prot (area_at areas c.loop-page.page) (sym c.in_default.ensures)) c.loop-page.invariant.all)

pub returns-in_default-clause-error : goal.returns-in_default-clause-error
returns-in_default-clause-error g c = let areas : List Record = g.A.Areas.list c.args.areas.now in
    error_unmapped c.args.span c.loop-page.page (area_at areas c.loop-page.page) c.loop-page-test.true (sym c.in_default.ensures)

pub returns-then-not-holds_all-clause-page : goal.returns-then-not-holds_all-clause-page
returns-then-not-holds_all-clause-page g c = let areas : List Record = g.A.Areas.list c.args.areas.now in
    sym (stop_before c.args.prot c.args.span areas c.loop-page.page c.loop-page.invariant.above c.loop-page-test.true
    (may_by_area c.args.prot (area_at areas c.loop-page.page) c.in-Some.area false (sym c.in-Some.ensures)
    (sym c.holds_all.ensures ∙ c.if-not-holds_all.true))
    c.loop-page.invariant.all)

pub returns-then-not-holds_all-clause-error : goal.returns-then-not-holds_all-clause-error
returns-then-not-holds_all-clause-error g c = let areas : List Record = g.A.Areas.list c.args.areas.now in
    error_denied c.args.span c.loop-page.page (area_at areas c.loop-page.page) c.in-Some.area c.loop-page-test.true (sym c.in-Some.ensures)

pub loop-page-smaller : goal.loop-page-smaller
loop-page-smaller g c = let areas : List Record = g.A.Areas.list c.args.areas.now in
    let further : c.loop-page.page < c.in-Some.area.span.hi = ends_above areas c.loop-page.page c.in-Some.area (sym c.in-Some.ensures) in
    omega (arith, c.loop-page-test.true)

pub loop-page-preserved : goal.loop-page-preserved
loop-page-preserved g c = let areas : List Record = g.A.Areas.list c.args.areas.now in
    let further : c.loop-page.page < c.in-Some.area.span.hi = ends_above areas c.loop-page.page c.in-Some.area (sym c.in-Some.ensures) in record {
      above = omega (arith, c.loop-page.invariant.above);
      all = may_up_to c.args.prot areas c.args.span.lo c.loop-page.page c.in-Some.area c.requires.valid c.requires.ordered
          (sym c.in-Some.ensures) (sym c.holds_all.ensures ∙ c.if-not-holds_all.false) c.loop-page.invariant.all;
    }

pub returns-clause-page : goal.returns-clause-page
returns-clause-page g c = let areas : List Record = g.A.Areas.list c.args.areas.now in
    sym (stop_at_end c.args.prot c.args.span areas (λ page from below. c.loop-page.invariant.all page from (omega (arith, c.loop-page-test.false))))

pub returns-clause-error : goal.returns-clause-error
returns-clause-error g c = error_none c.args.span (area_at (g.A.Areas.list c.args.areas.now) c.args.span.hi)
