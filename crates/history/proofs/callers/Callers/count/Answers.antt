-- For `Callers::count`: the threads below 64 that have a line.
use Rattle.std.proofs.Common.{◌∙◌, ap, arith}
use Rattle.history.specs.Threads.{busy_below}
use Rattle.history.proofs.ThreadCounts.{threads_below}
use Rattle.history.proofs.callers.Callers.count.Goals as goal

pub returns-clause-count : goal.returns-clause-count
returns-clause-count c = λ lines same. c.busy_below.ensures.count ∙ ap (busy_below 64) c.self.view_is ∙ threads_below 64 _ lines 64 (omega arith) same
