-- The proof of `closed_child`: what a child begins with is legal and of other callers, and its lines are of one thread and name no line.
use Rattle.std.proofs.Common.{◌∙◌}
use Rattle.vma_replay.proofs.ChildSpaces.{can_run, ran_result}
use Rattle.vma_replay.proofs.families.closed_child.Goals as goal

pub run_child-requires-clause-config : goal.run_child-requires-clause-config
run_child-requires-clause-config g c = (can_run c.args.trace.now c.args.parent.now c.args.fork.now c.in_ok-lines.lines c.as_slice.result.now
    c.requires.trace c.requires.parent c.requires.fork c.in_ok-lines.ensures (c.as_slice.ensures.value ∙ c.in_ok-before.ensures)).valid

pub run_child-requires-clause-few : goal.run_child-requires-clause-few
run_child-requires-clause-few g c = (can_run c.args.trace.now c.args.parent.now c.args.fork.now c.in_ok-lines.lines c.as_slice.result.now
    c.requires.trace c.requires.parent c.requires.fork c.in_ok-lines.ensures (c.as_slice.ensures.value ∙ c.in_ok-before.ensures)).few

pub run_child-requires-clause-legal : goal.run_child-requires-clause-legal
run_child-requires-clause-legal g c = (can_run c.args.trace.now c.args.parent.now c.args.fork.now c.in_ok-lines.lines c.as_slice.result.now
    c.requires.trace c.requires.parent c.requires.fork c.in_ok-lines.ensures (c.as_slice.ensures.value ∙ c.in_ok-before.ensures)).legal

pub run_child-requires-clause-strangers : goal.run_child-requires-clause-strangers
run_child-requires-clause-strangers g c = (can_run c.args.trace.now c.args.parent.now c.args.fork.now c.in_ok-lines.lines c.as_slice.result.now
    c.requires.trace c.requires.parent c.requires.fork c.in_ok-lines.ensures (c.as_slice.ensures.value ∙ c.in_ok-before.ensures)).strangers

pub run_child-requires-clause-own : goal.run_child-requires-clause-own
run_child-requires-clause-own g c = (can_run c.args.trace.now c.args.parent.now c.args.fork.now c.in_ok-lines.lines c.as_slice.result.now
    c.requires.trace c.requires.parent c.requires.fork c.in_ok-lines.ensures (c.as_slice.ensures.value ∙ c.in_ok-before.ensures)).one_thread

pub run_child-requires-clause-alone : goal.run_child-requires-clause-alone
run_child-requires-clause-alone g c = (can_run c.args.trace.now c.args.parent.now c.args.fork.now c.in_ok-lines.lines c.as_slice.result.now
    c.requires.trace c.requires.parent c.requires.fork c.in_ok-lines.ensures (c.as_slice.ensures.value ∙ c.in_ok-before.ensures)).alone

pub returns : goal.returns
returns g c = ran_result c.args.trace.now c.args.parent.now c.args.fork.now c.in_ok-lines.lines c.as_slice.result.now c.run_child.result
    c.requires.trace c.requires.fork c.in_ok-lines.ensures (c.as_slice.ensures.value ∙ c.in_ok-before.ensures)
    c.run_child.ensures.run c.run_child.ensures.list
