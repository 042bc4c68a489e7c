-- For `has_sealed` of scans.rt: its goals.
use Rattle.std.proofs.Common.{List, length, sym, ap, ◌∙◌, arith}
use Rattle.mm_types.specs.declared.area.Record.{Record}
use Rattle.split_merge.proofs.Scanning.{none_sealed, sealed_from, sealed_next, sealed_here, sealed_past, sealed_end}
use Rattle.split_merge.proofs.Walking.{in_order, next_is}
use Rattle.split_merge.proofs.scans.has_sealed.Goals as goal

pub returns-then-not-may_be_sealed : goal.returns-then-not-may_be_sealed
returns-then-not-may_be_sealed g c = sym (none_sealed c.args.span (g.A.Areas.list c.args.areas.now) (c.may_be_sealed.ensures c.if-not-may_be_sealed.true))

pub loop-area-init : goal.loop-area-init
loop-area-init g c = record { from = omega arith; rest = sealed_from c.args.span (g.A.Areas.list c.args.areas.now) }

pub returns-then-span-area : goal.returns-then-span-area
returns-then-span-area g c = let areas : List Record = g.A.Areas.list c.args.areas.now in
    let next = next_is areas c.loop-area.page c.in-Some.area (in_order _ areas c.requires) (sym c.from.ensures ∙ c.in-Some.is) in
    sym (sealed_past c.args.span areas c.loop-area.page c.in-Some.area next (omega (arith, c.if-span-area.true))) ∙ c.loop-area.invariant.rest

pub returns-then-area : goal.returns-then-area
returns-then-area g c = let areas : List Record = g.A.Areas.list c.args.areas.now in
    let next = next_is areas c.loop-area.page c.in-Some.area (in_order _ areas c.requires) (sym c.from.ensures ∙ c.in-Some.is) in
    sym (sealed_here c.args.span areas c.loop-area.page c.in-Some.area next c.if-area.true c.loop-area.invariant.from (omega (arith, c.if-span-area.false)))
    ∙ c.loop-area.invariant.rest

pub loop-area-smaller : goal.loop-area-smaller
loop-area-smaller g c = let areas : List Record = g.A.Areas.list c.args.areas.now in
    let next = next_is areas c.loop-area.page c.in-Some.area (in_order _ areas c.requires) (sym c.from.ensures ∙ c.in-Some.is) in
    omega (arith, ap length next.rest)

pub loop-area-preserved : goal.loop-area-preserved
loop-area-preserved g c = let areas : List Record = g.A.Areas.list c.args.areas.now in
    let next = next_is areas c.loop-area.page c.in-Some.area (in_order _ areas c.requires) (sym c.from.ensures ∙ c.in-Some.is) in
    record {
      from = omega (arith, c.loop-area.invariant.from, next.above);
      rest = sym (sealed_next c.args.span areas c.loop-area.page c.in-Some.area next c.if-area.false) ∙ c.loop-area.invariant.rest;
    }

pub returns : goal.returns
returns g c = let areas : List Record = g.A.Areas.list c.args.areas.now in
    sym (sealed_end c.args.span areas c.loop-area.page (sym c.from.ensures ∙ c.in_default.is)) ∙ c.loop-area.invariant.rest
