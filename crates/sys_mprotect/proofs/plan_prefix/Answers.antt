-- For `plan_prefix` of lib.rt: its goals.
use Rattle.std.proofs.Common.{List, arith}
use Rattle.mm_types.specs.declared.area.Record.{Record}
use Rattle.sys_mprotect.proofs.Limits.{error_past, makes_past, error_across, makes_across, local_longer}
use Rattle.sys_mprotect.proofs.plan_prefix.Goals as goal

pub returns-then-limit-range-clause-error : goal.returns-then-limit-range-clause-error
returns-then-limit-range-clause-error g c = let areas : List Record = g.A.Areas.list c.args.areas.now in
    error_past (g.A.Areas.bounds c.args.areas.now).limit c.args.prot c.args.range areas c.requires.list.canonical (omega (arith, c.requires.limit)) c.requires.some_pages

pub returns-then-limit-range-clause-makes : goal.returns-then-limit-range-clause-makes
returns-then-limit-range-clause-makes g c = let areas : List Record = g.A.Areas.list c.args.areas.now in
    makes_past (g.A.Areas.bounds c.args.areas.now).limit c.args.prot c.args.range areas c.requires.list.canonical c.args.plan.now.changes
    (omega (arith, c.requires.limit)) c.requires.some_pages c.requires.fresh.empty

pub returns-then-limit-range-2-clause-error : goal.returns-then-limit-range-2-clause-error
returns-then-limit-range-2-clause-error g c = let areas : List Record = g.A.Areas.list c.args.areas.now in
    error_across (g.A.Areas.bounds c.args.areas.now).limit c.args.prot c.args.range areas c.requires.list.canonical c.min.result
    (omega (arith, c.requires.limit, c.min.ensures)) (omega (arith, c.requires.limit)) (omega (arith, c.requires.limit))
    c.or.result c.plan_protect-error.result c.or.ensures c.plan_protect-error.ensures.error

pub returns-then-limit-range-2-clause-makes : goal.returns-then-limit-range-2-clause-makes
returns-then-limit-range-2-clause-makes g c = let areas : List Record = g.A.Areas.list c.args.areas.now in
    makes_across (g.A.Areas.bounds c.args.areas.now).limit c.args.prot c.args.range areas c.requires.list.canonical c.min.result
    (omega (arith, c.requires.limit, c.min.ensures)) (omega (arith, c.requires.limit)) (omega (arith, c.requires.limit))
    c.plan_protect-error.new.plan.changes c.plan_protect-error.ensures.makes

pub returns-then-limit-range-2-clause-local : goal.returns-then-limit-range-2-clause-local
returns-then-limit-range-2-clause-local g c = local_longer c.args.range.lo c.min.result c.args.range.hi (g.A.Areas.list c.args.areas.now)
    c.plan_protect-error.new.plan.changes (omega (arith, c.min.ensures)) c.plan_protect-error.ensures.local
