-- For `plan_mremap`: it is refused, or done, as far as its tests come.
use Rattle.std.proofs.Common.{true, false, refl, ap, ◌∙◌}
use Rattle.mm_types.specs.declared.call.Errno.TheVariants.{Enomem}
use Rattle.split_merge.specs.Plans.{PlanView}
use Rattle.sys_mremap.proofs.Outcomes.{refused_call, done_call, refused_by_test, length_test, refused_without_change, refused_too_long, done_change, local_from_address}
use Rattle.sys_mremap.proofs.remapping.plan_mremap.Goals as goal

pub returns-in-Err-clause-planned : goal.returns-in-Err-clause-planned
returns-in-Err-clause-planned g c = let config = c.args.config.now in let areas = g.A.Areas.list c.args.areas.now in
    refused_call config areas c.of-args.result _ c.of-args.ensures c.requires.prepared c.requires.sound c.args.plan.now refl c.in-Err.errno
    (refused_by_test config areas c.of-args.result c.in-Err.errno c.in-Err.ensures) c.requires.prepared.fresh.empty

pub returns-in_default-clause-planned : goal.returns-in_default-clause-planned
returns-in_default-clause-planned g c = refused_call c.args.config.now (g.A.Areas.list c.args.areas.now) c.of-args.result _ c.of-args.ensures
    c.requires.prepared c.requires.sound c.plan_change.new.plan c.plan_change.ensures.room Enomem
    (refused_without_change c.in-Ok.ensures c.in_default.ensures.change.0) c.in_default.ensures.change.1

pub returns-then-is_too_long-clause-planned : goal.returns-then-is_too_long-clause-planned
returns-then-is_too_long-clause-planned g c =
    let made = c.in-Some.ensures.change in
    let long = length_test c.args.config.now.areas c.plan_change.new.plan.changes (g.A.Areas.list c.args.areas.now)
    made.0 c.is_too_long.result true made.2.makes.result c.is_too_long.ensures c.if-is_too_long.true in
    refused_call c.args.config.now (g.A.Areas.list c.args.areas.now) c.of-args.result _ c.of-args.ensures c.requires.prepared c.requires.sound
    c.clear.new.self (ap (λ (plan : PlanView). plan.room) c.clear.ensures ∙ c.plan_change.ensures.room) Enomem
    (refused_too_long c.in-Ok.ensures made.1 long) (ap (λ (plan : PlanView). plan.changes) c.clear.ensures)

pub returns-clause-planned : goal.returns-clause-planned
returns-clause-planned g c =
    let made = c.in-Some.ensures.change in
    let fits = length_test c.args.config.now.areas c.plan_change.new.plan.changes (g.A.Areas.list c.args.areas.now)
    made.0 c.is_too_long.result false made.2.makes.result c.is_too_long.ensures c.if-is_too_long.false in
    done_call c.args.config.now (g.A.Areas.list c.args.areas.now) c.of-args.result _ c.of-args.ensures c.requires.prepared c.requires.sound
    c.plan_change.new.plan c.plan_change.ensures.room made.0 c.in-Some.page c.requires.valid (done_change c.in-Ok.ensures made.1 fits) made.2.makes

pub returns-clause-local : goal.returns-clause-local
returns-clause-local g c addr is = local_from_address c.of-args.result _ c.plan_change.new.plan.changes (g.A.Areas.list c.args.areas.now)
    c.in-Some.page addr c.of-args.ensures is c.in-Some.ensures.change.2.local
