-- For `guard` of guarding.rt: its goals.
use Rattle.std.proofs.Common.{ap, sym, ◌∙◌}
use Rattle.split_merge.specs.Plans.{PlanView}
use Rattle.sys_seal.proofs.SealedOff.{sealed_call, unsealed_call}
use Rattle.sys_seal.proofs.guarding.guard.Goals as goal

pub returns-then-is_sealed_off-clause-planned : goal.returns-then-is_sealed_off-clause-planned
returns-then-is_sealed_off-clause-planned g c =
    sealed_call c.requires c.args.call.now c.args.before c.args.planned c.args.plan.now c.clear.new.self (ap (λ (p : PlanView). p.changes) c.clear.ensures)
    (ap (λ (p : PlanView). p.room) c.clear.ensures) (sym c.is_sealed_off.ensures ∙ c.if-is_sealed_off.true)

pub returns-clause-planned : goal.returns-clause-planned
returns-clause-planned g c config space fresh same counted p =
    unsealed_call c.args.call.now c.args.planned (sym c.is_sealed_off.ensures ∙ c.if-is_sealed_off.false)
    config space c.args.plan.now fresh same p
