-- The end of the list.
use Rattle.std.proofs.Common.{◌∙◌, arith}
use Rattle.split_merge.proofs.Steps.{last_room, same_room, settle_room}
use Rattle.split_merge.proofs.planner.Planner.finish.Goals as goal
use Rattle.split_merge.proofs.planner.Planner.finish.Goals.{in-Some, in_default}

pub settle-requires : goal.settle-requires
settle-requires c = elim c.match-self.branch [
  | in-Some w ↦ omega (
    arith,
    last_room c.args.self.now c.match-self.self w.in-Some.new c.args.plan.now c.match-self.plan w.in-Some.is
        (w.self-is ∙ w.lay.ensures.planner) (w.plan-is ∙ w.lay.ensures.plan) c.requires,
  )
  | in_default w ↦ omega (arith, same_room c.args.self.now c.match-self.self c.args.plan.now c.match-self.plan w.self-is w.plan-is c.requires)
]

pub close-requires : goal.close-requires
close-requires c = omega (
  arith,
  settle_room c.match-self.self c.settle.new.self c.match-self.plan c.settle.new.plan 0 c.settle.ensures.planner c.settle.ensures.plan
      (elim c.match-self.branch [
        | in-Some w ↦ omega (
          arith,
          last_room c.args.self.now c.match-self.self w.in-Some.new c.args.plan.now c.match-self.plan w.in-Some.is
              (w.self-is ∙ w.lay.ensures.planner) (w.plan-is ∙ w.lay.ensures.plan) c.requires,
        )
        | in_default w ↦ omega (arith, same_room c.args.self.now c.match-self.self c.args.plan.now c.match-self.plan w.self-is w.plan-is c.requires)
      ]),
)
