-- For `plan_unsealed`: each call by its own plan call.
use Rattle.std.proofs.Common.{refl}
use Rattle.area_rules.specs.Steps.{step_unsealed}
use Rattle.area_rules.specs.Tables.{space_of}
use Rattle.sys_calls.proofs.Counting.{kept_whole, break_whole}
use Rattle.sys_calls.proofs.Touched.{touch_one}
use Rattle.sys_calls.proofs.plans.plan_unsealed.Goals as goal

pub returns-in-Munmap-clause-planned : goal.returns-in-Munmap-clause-planned
returns-in-Munmap-clause-planned g c =
    kept_whole c.args.config.now (g.A.Areas.list c.args.areas.now) c.args.counters c.args.call.now c.plan_munmap-reply.result
    (λ args other. cc (c.in-Munmap.is)) (λ addr other. cc (c.in-Munmap.is)) (rw c.in-Munmap.is (unfold step_unsealed in c.plan_munmap-reply.ensures.planned c.args.counters))

pub returns-in-Mprotect-clause-planned : goal.returns-in-Mprotect-clause-planned
returns-in-Mprotect-clause-planned g c =
    kept_whole c.args.config.now (g.A.Areas.list c.args.areas.now) c.args.counters c.args.call.now c.plan_mprotect-reply.result
    (λ args other. cc (c.in-Mprotect.is)) (λ addr other. cc (c.in-Mprotect.is)) (rw c.in-Mprotect.is (unfold step_unsealed in c.plan_mprotect-reply.ensures.planned c.args.counters))

pub returns-in-Mremap-clause-planned : goal.returns-in-Mremap-clause-planned
returns-in-Mremap-clause-planned g c =
    kept_whole c.args.config.now (g.A.Areas.list c.args.areas.now) c.args.counters c.args.call.now c.plan_mremap-reply.result
    (λ args other. cc (c.in-Mremap.is)) (λ addr other. cc (c.in-Mremap.is)) (rw c.in-Mremap.is (unfold step_unsealed in c.plan_mremap-reply.ensures.planned c.args.counters))

pub returns-in-Touch-clause-planned : goal.returns-in-Touch-clause-planned
returns-in-Touch-clause-planned g c =
    kept_whole c.args.config.now (g.A.Areas.list c.args.areas.now) c.args.counters c.args.call.now c.plan_touch-reply.result
    (λ args other. cc (c.in-Touch.is)) (λ addr other. cc (c.in-Touch.is)) (rw c.in-Touch.is (unfold step_unsealed in c.plan_touch-reply.ensures.planned c.args.counters))

pub returns-in-Touch-clause-touch : goal.returns-in-Touch-clause-touch
returns-in-Touch-clause-touch g c page access is = let touched = c.plan_touch-reply.ensures in
    touch_one c.args.config.now (space_of (g.A.Areas.list c.args.areas.now) c.args.counters) c.in-Touch.page.0 c.in-Touch.access c.plan_touch-reply.result
    c.plan_touch-reply.new.plan.changes (touched.planned c.args.counters).reply touched.altered touched.refused

pub returns-in-Mseal-clause-planned : goal.returns-in-Mseal-clause-planned
returns-in-Mseal-clause-planned g c =
    kept_whole c.args.config.now (g.A.Areas.list c.args.areas.now) c.args.counters c.args.call.now c.plan_seal-reply.result
    (λ args other. cc (c.in-Mseal.is)) (λ addr other. cc (c.in-Mseal.is)) (rw c.in-Mseal.is (unfold step_unsealed in c.plan_seal-reply.ensures.planned c.args.counters))

pub returns-in-Brk-clause-planned : goal.returns-in-Brk-clause-planned
returns-in-Brk-clause-planned g c =
    rw c.in-Brk.is (break_whole c.args.config.now (g.A.Areas.list c.args.areas.now) c.args.counters c.in-Brk.addr c.plan_brk-reply.result c.with_break.result
    c.with_break.ensures (c.plan_brk-reply.ensures.moved c.args.counters refl) (c.plan_brk-reply.ensures.planned c.args.counters refl))
