-- For `sort_by_caller_is_stable`: its goals.
use Rattle.history.proofs.SerialOrder.{sort_by_caller-from_filters, sort_by_caller-from_stable, sort_by_caller-from_threads}
use Rattle.history.proofs.laws.sort_by_caller_is_stable.Goals as goal

pub returns-clause-callers : goal.returns-clause-callers
returns-clause-callers c = sort_by_caller-from_filters

pub returns-clause-stable : goal.returns-clause-stable
returns-clause-stable c = sort_by_caller-from_stable

pub returns-clause-threads : goal.returns-clause-threads
returns-clause-threads c = sort_by_caller-from_threads
