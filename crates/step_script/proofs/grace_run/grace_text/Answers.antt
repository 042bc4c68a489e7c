-- For `grace_text`: its goals.
use Rattle.std.proofs.Common.{arith}
use Rattle.step_script.proofs.GraceSteps.{one_printed, rest_fits}
use Rattle.step_script.proofs.grace_run.grace_text.Goals as goal

pub loop-line-preserved : goal.loop-line-preserved
loop-line-preserved c =
    let next = c.in-Some.ensures.steps in
    record {
      left = grind (arith, next);
      kept = c.in_ok-state-2.ensures.kept;
      events = rest_fits _ _ _ _ _ next.0 c.loop-line.invariant.events;
      text = one_printed _ _ _ _ _ _ _ _ next.0 c.loop-line.invariant.text c.in_ok-state-2.ensures.text c.in_ok-state-2.ensures.state;
    }
