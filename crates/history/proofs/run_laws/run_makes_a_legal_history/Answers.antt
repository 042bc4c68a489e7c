-- For `run_makes_a_legal_history`: its goals.
use Rattle.history.proofs.Finished.{history_is_legal, run_journal}
use Rattle.history.proofs.run_laws.run_makes_a_legal_history.Goals as goal

pub returns-clause-history : goal.returns-clause-history
returns-clause-history c = history_is_legal

pub returns-clause-journal : goal.returns-clause-journal
returns-clause-journal c = run_journal
