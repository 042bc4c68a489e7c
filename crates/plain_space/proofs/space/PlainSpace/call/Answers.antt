-- The proof of `PlainSpace::call`: the plan makes the list of the step, and the space is kept.
use Rattle.std.proofs.Common.{◌<◌, ◌-◌, ◌^◌, subst, sym, ap, ◌∙◌, arith}
use Rattle.mm_types.specs.declared.call.Counters.{Counters}
use Rattle.area_rules.specs.Steps.{step, IsReady}
use Rattle.area_rules.specs.Tables.{space_of}
use Rattle.area_rules.proofs.Stepping.{step_objects}
use Rattle.split_merge.specs.Plans.{PlanView, IsPlannedFor}
use Rattle.plain_space.specs.Stored.{Stored}
use Rattle.plain_space.specs.declared.space.PlainSpace.TheInside.{Inside}
use Rattle.plain_space.specs.Kept.{IsPlain}
use Rattle.plain_space.specs.Plain.{PlainView}
use Rattle.sys_calls.proofs.Keeping.{IsKeptFor, kept_sound, kept_after, made_space}
use Rattle.plain_space.proofs.space.PlainSpace.call.Goals as goal

-- where its objects may be counted on, a call may be made
ready_now : (fields : Inside) → IsPlain fields → fields.counters.objects < 2 ^ 32 - 1 → IsReady fields.config.now (space_of fields.areas.list fields.counters)
ready_now fields kept room = record {
  valid = kept.valid;
  sound = kept_sound fields.config.now fields.areas.bounds fields.areas.most fields.areas.list kept.bounds kept.most kept.kept;
  counted = kept.counted;
  room = room;
  private = kept.private;
  bounded = kept.bounded;
}

pub plan_call-called-requires-clause-ready : goal.plan_call-called-requires-clause-ready
plan_call-called-requires-clause-ready c =
    ready_now c.self.inside c.self.invariant (subst (λ (v : PlainView). v.space.objects < 2 ^ 32 - 1) (sym c.self.view_is) c.requires.room)

pub invariant_of-self : goal.invariant_of-self
invariant_of-self c =
    let s = c.self.inside in
    let i = c.self.invariant in
    let called = c.plan_call-called.ensures.planned in
    let stored = c.apply.ensures in
    let ready = ready_now s i (subst (λ (v : PlainView). v.space.objects < 2 ^ 32 - 1) (sym c.self.view_is) c.requires.room) in
    let kept : IsKeptFor s.config.now (space_of c.apply.new.self.list c.plan_call-called.result.counters)
    = subst (IsKeptFor s.config.now) (sym (made_space c.apply.new.self.list c.plan_call-called.result.counters
    (step s.config.now (space_of s.areas.list s.counters) c.args.call.now).space (ap (λ (a : Stored). a.list) stored ∙ called.planned.makes.result) called.counters))
    (kept_after s.config.now (space_of s.areas.list s.counters) c.args.call.now ready i.files) in
    record {
      valid = i.valid;
      bounds = ap (λ (a : Stored). a.bounds) stored ∙ i.bounds;
      most = ap (λ (a : Stored). a.most) stored ∙ i.most;
      kept = subst (λ (a : Stored). IsPlannedFor a.bounds a.most a.list) (sym stored) called.planned.kept;
      files = kept.files;
      counted = kept.counted;
      private = kept.private;
      bounded = kept.bounded;
      fresh = record {
        empty = ap (λ (p : PlanView). p.changes) c.clear.ensures;
        room = omega (arith, ap (λ (p : PlanView). p.room) c.clear.ensures, called.planned.room, i.fresh.room);
      };
    }

pub returns-clause-space : goal.returns-clause-space
returns-clause-space c =
    let s = c.self.inside in
    let called = c.plan_call-called.ensures.planned in
    rw (← c.self.view_is) (made_space c.apply.new.self.list c.plan_call-called.result.counters (step s.config.now (space_of s.areas.list s.counters) c.args.call.now).space
    (ap (λ (a : Stored). a.list) c.apply.ensures ∙ called.planned.makes.result) called.counters)

pub returns-clause-objects : goal.returns-clause-objects
returns-clause-objects c =
    let s = c.self.inside in
    omega (
      arith,
      ap (λ (k : Counters). k.objects) c.plan_call-called.ensures.planned.counters,
      (step_objects s.config.now (space_of s.areas.list s.counters) c.args.call.now).1,
      ap (λ (v : PlainView). v.space.objects) c.self.view_is,
    )
