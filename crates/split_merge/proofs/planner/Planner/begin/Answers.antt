-- The first page of an old area.
use Rattle.std.proofs.Common.{arith}
use Rattle.split_merge.proofs.Steps.{begin_goes, reach_room}
use Rattle.split_merge.proofs.planner.Planner.begin.Goals as goal

pub settle-requires : goal.settle-requires
settle-requires c = omega (
  arith,
  reach_room c.args.self.now c.reach.new.self c.args.area.now.span.lo c.args.plan.now c.reach.new.plan c.reach.ensures.planner c.reach.ensures.plan 1 c.requires,
)

pub returns : goal.returns
returns c = begin_goes c.args.self.now c.reach.new.self c.settle.new.self c.args.area.now c.args.plan.now c.reach.new.plan c.settle.new.plan
    c.reach.ensures.planner c.reach.ensures.plan c.settle.ensures.planner c.settle.ensures.plan
