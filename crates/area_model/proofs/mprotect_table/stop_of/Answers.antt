-- For `stop_of`: its goals.
use Rattle.std.proofs.Common.{◌<◌, ◌∙◌, sym, false, arith}
use Rattle.area_list.specs.Areas.{area_at}
use Rattle.area_list.proofs.Ordered.{ends_above}
use Rattle.area_rules.proofs.Stopping.{stop_at_end, stop_before, may_not_unmapped, may_by_area, may_up_to}
use Rattle.area_model.proofs.mprotect_table.stop_of.Goals as goal

pub returns-in_default : goal.returns-in_default
returns-in_default c = sym (stop_before c.args.prot c.args.range c.args.areas.now c.loop-page.page c.loop-page.invariant.above c.loop-page-test.true
    (may_not_unmapped c.args.prot (area_at c.args.areas.now c.loop-page.page) (sym c.in_default.ensures)) c.loop-page.invariant.all)

pub returns-then-not-holds_all : goal.returns-then-not-holds_all
returns-then-not-holds_all c = sym (stop_before c.args.prot c.args.range c.args.areas.now c.loop-page.page c.loop-page.invariant.above c.loop-page-test.true
    (may_by_area c.args.prot (area_at c.args.areas.now c.loop-page.page) c.in-Some.area.now false (sym c.in-Some.ensures)
    (sym c.holds_all.ensures ∙ c.if-not-holds_all.true))
    c.loop-page.invariant.all)

pub loop-page-smaller : goal.loop-page-smaller
loop-page-smaller c =
    let further : c.loop-page.page < c.in-Some.area.now.span.hi = ends_above c.args.areas.now c.loop-page.page c.in-Some.area.now (sym c.in-Some.ensures) in
    omega (arith, c.loop-page-test.true)

pub loop-page-preserved : goal.loop-page-preserved
loop-page-preserved c =
    let further : c.loop-page.page < c.in-Some.area.now.span.hi = ends_above c.args.areas.now c.loop-page.page c.in-Some.area.now (sym c.in-Some.ensures) in record {
      above = omega (arith, c.loop-page.invariant.above);
      all = may_up_to c.args.prot c.args.areas.now c.args.range.lo c.loop-page.page c.in-Some.area.now c.requires.valid c.requires.ordered
          (sym c.in-Some.ensures) (sym c.holds_all.ensures ∙ c.if-not-holds_all.false) c.loop-page.invariant.all;
    }

pub returns : goal.returns
returns c = sym (stop_at_end c.args.prot c.args.range c.args.areas.now
    (λ page from below. c.loop-page.invariant.all page from (omega (arith, c.loop-page-test.false))))
