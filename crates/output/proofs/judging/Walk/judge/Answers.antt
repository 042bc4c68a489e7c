-- The proof of `Walk::judge`: at the next item, and where no line is left.
use Rattle.output.specs.Internal.Judging.{IsStopRight, trace_over}
use Rattle.output.proofs.Stopped.{err_is}
use Rattle.output.proofs.judging.Walk.judge.Goals as goal

pub loop-self-preserved : goal.loop-self-preserved
loop-self-preserved c = record {
  some = (c.loop-self.invariant.some.0, c.in_ok-item.ensures.ok c.loop-self.invariant.some.0 c.loop-self.invariant.some.1);
  kept = λ text walked. c.in_ok-item.ensures.ok text (c.loop-self.invariant.kept text walked);
}

pub returns-in_err-item-clause-bad : goal.returns-in_err-item-clause-bad
returns-in_err-item-clause-bad c = λ text walked.
    err_is _ c.in_err-item.field-0.0 (IsStopRight (trace_over c.args.config.now c.args.lines.now) text) c.from_residual.ensures.1
    (c.in_err-item.ensures.bad text (c.loop-self.invariant.kept text walked))

pub returns-clause-ok : goal.returns-clause-ok
returns-clause-ok c = λ text walked. c.end.ensures.ok text (c.loop-self.invariant.kept text walked)

pub returns-clause-bad : goal.returns-clause-bad
returns-clause-bad c = λ text walked. c.end.ensures.bad text (c.loop-self.invariant.kept text walked)
