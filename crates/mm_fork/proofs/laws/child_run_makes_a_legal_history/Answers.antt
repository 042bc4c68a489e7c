-- For `child_run_makes_a_legal_history`: its goals.
use Rattle.mm_fork.proofs.ChildRuns.{child_is_legal, child_journal}
use Rattle.mm_fork.proofs.laws.child_run_makes_a_legal_history.Goals as goal

pub returns-clause-legal : goal.returns-clause-legal
returns-clause-legal c = child_is_legal

pub returns-clause-journal : goal.returns-clause-journal
returns-clause-journal c = child_journal
