-- For `journal_laws`: its goals.
use Rattle.area_rules.proofs.Journals.{after-nil, after-push, legal-push, legal_take}
use Rattle.area_rules.proofs.laws.journal_laws.Goals as goal

pub returns-clause-none : goal.returns-clause-none
returns-clause-none c = after-nil

pub returns-clause-more : goal.returns-clause-more
returns-clause-more c = after-push

pub returns-clause-legal_more : goal.returns-clause-legal_more
returns-clause-legal_more c = legal-push

pub returns-clause-legal_prefix : goal.returns-clause-legal_prefix
returns-clause-legal_prefix c = legal_take
