-- For `plain_trace`: its goals.
use Rattle.output.proofs.Forked.{plain_read}
use Rattle.output.proofs.input.plain_trace.Goals as goal

pub returns-clause-trace : goal.returns-clause-trace
returns-clause-trace c = plain_read c.args.bytes.now _ _ _ c.first_fork.ensures c.without_forks.ensures.trace
