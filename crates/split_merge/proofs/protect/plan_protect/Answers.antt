-- A new protection up to the stop.
use Rattle.std.proofs.Common.{List, arith}
use Rattle.mm_types.specs.declared.area.Record.{Record}
use Rattle.area_rules.proofs.ProtectLaws.{stop_is}
use Rattle.split_merge.proofs.Planning.{all_changes}
use Rattle.split_merge.proofs.Protecting.{makes_prefix, prefix_local}
use Rattle.split_merge.proofs.Spans.{one_in_order}
use Rattle.split_merge.proofs.protect.plan_protect.Goals as goal

pub plan_changes-requires-clause-spans : goal.plan_changes-requires-clause-spans
plan_changes-requires-clause-spans g c = let areas : List Record = g.A.Areas.list c.args.areas.now in
    one_in_order (record { lo = c.args.span.lo; hi = c.stop_of-stop.result.page })
    (omega (arith, (stop_is c.args.prot c.args.span areas (omega (arith, c.requires.some_pages))).begins, c.stop_of-stop.ensures.page))

pub returns-clause-makes : goal.returns-clause-makes
returns-clause-makes g c = let areas : List Record = g.A.Areas.list c.args.areas.now in
    makes_prefix _ c.args.prot c.args.span areas c.stop_of-stop.result.page c.plan_changes.new.plan.changes c.requires.list.canonical (omega (arith, c.requires.some_pages))
    c.stop_of-stop.ensures.page (all_changes c.args.plan.now c.plan_changes.new.plan _ c.requires.fresh.empty c.plan_changes.ensures)

pub returns-clause-local : goal.returns-clause-local
returns-clause-local g c = let areas : List Record = g.A.Areas.list c.args.areas.now in
    prefix_local _ c.args.prot c.args.span areas c.stop_of-stop.result.page c.plan_changes.new.plan.changes c.requires.list.canonical (omega (arith, c.requires.some_pages))
    c.stop_of-stop.ensures.page (all_changes c.args.plan.now c.plan_changes.new.plan _ c.requires.fresh.empty c.plan_changes.ensures)
