-- For `plan_call`: the call by its table, with the seals.
use Rattle.std.proofs.Common.{refl, arith}
use Rattle.area_rules.specs.Tables.{space_of}
use Rattle.sys_calls.proofs.plans.plan_call.Goals as goal

pub returns-clause-planned : goal.returns-clause-planned
returns-clause-planned g c =
    let space = space_of (g.A.Areas.list c.args.areas.now) c.args.counters in
    c.guard.ensures.planned c.args.config.now space c.args.plan.now refl refl c.plan_unsealed-planned.ensures.planned

pub returns-clause-touch : goal.returns-clause-touch
returns-clause-touch g c page access is = omega (arith, c.guard.ensures.short, c.plan_unsealed-planned.ensures.touch page access is)
