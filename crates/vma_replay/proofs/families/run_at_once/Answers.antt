-- The proof of `run_at_once`: each worker ran the child of its fork.
use Rattle.std.proofs.Common.{arith}
use Rattle.vma_replay.proofs.ChildSpaces.{ended_result}
use Rattle.vma_replay.proofs.families.run_at_once.Goals as goal

pub returns : goal.returns
returns g c =
    ended_result c.args.trace.now c.args.parent.now c.args.forks.now c.in_ok-ended.ended.items c.runs_of.result
    (omega (arith, c.in_ok-ended.ended.ok.0, c.in_ok-ended.ensures.len)) (λ place d within. (c.in_ok-ended.ensures.each place d within).1.met)
    c.runs_of.ensures
