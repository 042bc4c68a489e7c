-- A move: what lies outside the hole and the new place, with the area in its place.
use Rattle.std.proofs.Common.{List}
use Rattle.mm_types.specs.declared.area.Record.{Record}
use Rattle.split_merge.proofs.Planning.{all_changes}
use Rattle.split_merge.proofs.Spans.{apart_spans, apart_in_order}
use Rattle.split_merge.proofs.Moving.{move_begins, move_makes, move_local}
use Rattle.split_merge.proofs.relocate.plan_move.Goals as goal

pub plan_changes-requires-clause-spans : goal.plan_changes-requires-clause-spans
plan_changes-requires-clause-spans g c = apart_in_order c.args.hole c.args.area.span c.in_order.result.0 c.in_order.result.1
    (apart_spans c.args.hole c.args.area.span c.in_order.result c.requires.some_pages c.requires.valid.some_pages c.requires.beside c.in_order.ensures)

pub plan_changes-requires-clause-new : goal.plan_changes-requires-clause-new
plan_changes-requires-clause-new g c = move_begins c.args.hole c.args.area c.in_order.result.0 c.in_order.result.1
    (apart_spans c.args.hole c.args.area.span c.in_order.result c.requires.some_pages c.requires.valid.some_pages c.requires.beside c.in_order.ensures)

pub returns-clause-makes : goal.returns-clause-makes
returns-clause-makes g c = let areas : List Record = g.A.Areas.list c.args.areas.now in
    move_makes _ c.args.hole c.args.area c.in_order.result.0 c.in_order.result.1 areas c.plan_changes.new.plan.changes c.requires.list.canonical
    (record { valid = c.requires.valid; below_end = c.requires.within }) c.requires.some_pages c.requires.beside
    (apart_spans c.args.hole c.args.area.span c.in_order.result c.requires.some_pages c.requires.valid.some_pages c.requires.beside c.in_order.ensures)
    (all_changes c.args.plan.now c.plan_changes.new.plan _ c.requires.fresh.empty c.plan_changes.ensures)

pub returns-clause-local : goal.returns-clause-local
returns-clause-local g c = let areas : List Record = g.A.Areas.list c.args.areas.now in
    move_local _ c.args.hole c.args.area.span c.in_order.result.0 c.in_order.result.1 c.args.area areas c.plan_changes.new.plan.changes c.requires.list.canonical
    (apart_spans c.args.hole c.args.area.span c.in_order.result c.requires.some_pages c.requires.valid.some_pages c.requires.beside c.in_order.ensures)
    (all_changes c.args.plan.now c.plan_changes.new.plan _ c.requires.fresh.empty c.plan_changes.ensures)
