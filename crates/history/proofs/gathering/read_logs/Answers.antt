-- For `read_logs`: its goals.
use Rattle.std.proofs.Common.{◌∙◌}
use Rattle.history.proofs.Merging.{logs_start, logs_pushed}
use Rattle.history.proofs.gathering.read_logs.Goals as goal

pub loop-caller-init : goal.loop-caller-init
loop-caller-init c = c.new-items.ensures.items ∙ logs_start

pub loop-caller-preserved : goal.loop-caller-preserved
loop-caller-preserved c =
    logs_pushed
    (λ log. log.items) c.args.logs.now c.loop-caller.caller c.index-logs-caller.result _ c.loop-caller.items.items c.push_log.new.items.items
    c.in_ok-push_log.ensures c.loop-caller.invariant c.as_slice.ensures.value c.index-logs-caller.is c.loop-caller-test.true
