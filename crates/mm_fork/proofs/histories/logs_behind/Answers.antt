-- For `logs_behind`: its goals.
use Rattle.std.proofs.Common.{◌∙◌, ap}
use Rattle.mm_fork.specs.Behind.{log_behind}
use Rattle.mm_fork.proofs.LogsBehind.{logs_more, logs_done}
use Rattle.mm_fork.proofs.histories.logs_behind.Goals as goal

pub loop-log-preserved : goal.loop-log-preserved
loop-log-preserved c =
    logs_more (λ log. log.items) c.args.version c.args.logs.now c.loop-log.log-index c.log-item.result c.in_ok-log_behind.field-0
    c.loop-log.behind.items c.push.new.self.items c.loop-log.invariant c.in_ok-push.ensures.items
    (c.in_ok-log_behind.ensures ∙ ap (log_behind c.args.version) c.as_slice.ensures.value) c.log-item.is c.loop-log-test.true

pub returns : goal.returns
returns c =
    logs_done (λ log. log.items) c.args.version c.args.logs.now c.loop-log.log-index c.loop-log.behind.items c.loop-log.invariant
    c.loop-log-test.false
