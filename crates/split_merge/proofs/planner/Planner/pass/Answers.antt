-- An area that is passed over.
use Rattle.std.proofs.Common.{arith, ap, ◌∙◌}
use Rattle.split_merge.specs.declared.planner.Planner.{Planner}
use Rattle.split_merge.proofs.Steps.{pass_goes, reach_room, settle_room}
use Rattle.split_merge.proofs.planner.Planner.pass.Goals as goal

pub settle-requires : goal.settle-requires
settle-requires c = omega (
  arith,
  reach_room c.args.self.now c.reach.new.self c.args.area.now.span.lo c.args.plan.now c.reach.new.plan c.reach.ensures.planner c.reach.ensures.plan 0
      (omega (arith, c.requires)),
)

pub close-requires : goal.close-requires
close-requires c = omega (
  arith,
  settle_room c.reach.new.self c.settle.new.self c.reach.new.plan c.settle.new.plan 0 c.settle.ensures.planner c.settle.ensures.plan (omega (
    arith,
    reach_room c.args.self.now c.reach.new.self c.args.area.now.span.lo c.args.plan.now c.reach.new.plan c.reach.ensures.planner c.reach.ensures.plan 0
        (omega (arith, c.requires)),
  )),
)

pub returns-clause-along : goal.returns-clause-along
returns-clause-along c = pass_goes c.args.self.now c.reach.new.self c.settle.new.self c.args.area.now c.args.plan.now c.reach.new.plan c.settle.new.plan c.close.new.plan
    c.reach.ensures.planner c.reach.ensures.plan c.settle.ensures.planner c.settle.ensures.plan c.close.ensures

pub returns-clause-coming : goal.returns-clause-coming
returns-clause-coming c = ap (λ (p : Planner). p.coming) c.settle.ensures.planner ∙ ap (λ (p : Planner). p.coming) c.reach.ensures.planner
