-- The proof of `judge_output`: what the walk tells is what is judged.
use Rattle.std.proofs.Common.{List, subst}
use Rattle.std.specs.Prelude.{IfOk}
use Rattle.trace_reader.specs.declared.trace.TraceLine.{TraceLine}
use Rattle.output.specs.Judgements.{IsJudged}
use Rattle.output.specs.Internal.Judging.{trace_over}
use Rattle.output.proofs.Stopped.{judged_right}
use Rattle.output.proofs.judging.judge_output.Goals as goal

pub returns : goal.returns
returns c =
    subst (λ (lines : List TraceLine). IfOk c.judgement_of.result (IsJudged (trace_over c.args.trace.now.config lines) c.args.text.now))
    c.in_ok-lines.ensures.own
    (judged_right (trace_over c.args.trace.now.config c.in_ok-lines.lines) c.args.text.now c.judge.result c.judgement_of.result
    (c.judge.ensures.ok c.args.text.now c.in_ok-walk.ensures) (c.judge.ensures.bad c.args.text.now c.in_ok-walk.ensures) c.judgement_of.ensures)
