-- The proof of `run_in_turn`: one run more behind those so far.
use Rattle.std.proofs.Common.{◌∙◌, arith}
use Rattle.vma_replay.proofs.ChildSpaces.{more_children}
use Rattle.vma_replay.proofs.families.run_in_turn.Goals as goal

pub loop-fork-preserved : goal.loop-fork-preserved
loop-fork-preserved g c = record {
  ran = more_children c.args.trace.now c.args.parent.now c.args.forks.now c.loop-fork.fork-index _ c.loop-fork.runs.items _ c.in_ok-child.child
      c.loop-fork-test.true c.push_reserved.ensures.items c.loop-fork.invariant.ran c.in_ok-child.ensures;
  count = omega (arith, c.push_reserved.ensures.len, c.loop-fork.invariant.count);
  room = c.push_reserved.ensures.capacity ∙ c.loop-fork.invariant.room;
}
