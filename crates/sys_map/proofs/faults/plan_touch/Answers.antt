-- For `plan_touch` of faults.rt: its goals.
use Rattle.std.proofs.Common.{refl, sym, ◌∙◌}
use Rattle.sys_map.proofs.TouchCases.{no_grower, denied_grower, grown_call}
use Rattle.sys_map.proofs.faults.plan_touch.Goals as goal

pub returns-in_default-clause-planned : goal.returns-in_default-clause-planned
returns-in_default-clause-planned g c =
    no_grower c.requires.prepared c.args.plan.now refl (g.A.Areas.list c.args.areas.now) c.requires.sound c.args.page.0 c.args.access
    (sym c.grower.ensures ∙ c.in_default.is) c.requires.prepared.fresh.empty

pub returns-then-not-permits-clause-planned : goal.returns-then-not-permits-clause-planned
returns-then-not-permits-clause-planned g c =
    denied_grower c.requires.prepared c.args.plan.now refl (g.A.Areas.list c.args.areas.now) c.requires.sound c.args.page.0 c.args.access c.in-Some.area
    (sym c.grower.ensures ∙ c.in-Some.is) (sym c.permits.ensures ∙ c.if-not-permits.true) c.requires.prepared.fresh.empty

pub returns-clause-planned : goal.returns-clause-planned
returns-clause-planned g c =
    grown_call c.requires.prepared c.plan_growth.new.plan c.plan_growth.ensures.room (g.A.Areas.list c.args.areas.now) c.requires.sound c.args.page.0 c.args.access
    c.in-Some.area c.grown_to.result c.grown_to.ensures c.requires.valid c.requires.private (sym c.grower.ensures ∙ c.in-Some.is)
    (sym c.permits.ensures ∙ c.if-not-permits.false) c.plan_growth.ensures.makes
