-- A part.
use Rattle.std.proofs.Common.{arith}
use Rattle.split_merge.proofs.Steps.{come_to_goes, reach_room}
use Rattle.split_merge.proofs.planner.Planner.come_to.Goals as goal

pub lay-requires : goal.lay-requires
lay-requires c = omega (
  arith,
  reach_room c.args.self.now c.reach.new.self c.args.part.now.span.lo c.args.plan.now c.reach.new.plan c.reach.ensures.planner c.reach.ensures.plan 1 c.requires,
)

pub returns : goal.returns
returns c = come_to_goes c.args.self.now c.reach.new.self c.lay.new.self c.args.part.now c.args.plan.now c.reach.new.plan c.lay.new.plan
    c.reach.ensures.planner c.reach.ensures.plan c.lay.ensures.planner c.lay.ensures.plan
