-- For `limit_is_not_reached`: its goals.
use Rattle.area_rules.proofs.SameJournals.{valid_for, after_for, step_for, legal_for, right_for}
use Rattle.area_rules.proofs.limit_laws.limit_is_not_reached.Goals as goal

pub returns-clause-valid : goal.returns-clause-valid
returns-clause-valid c = valid_for

pub returns-clause-after : goal.returns-clause-after
returns-clause-after c = λ calls config journal valid few. after_for calls config valid few journal

pub returns-clause-step : goal.returns-clause-step
returns-clause-step c = λ calls config journal call valid few. step_for calls config valid few journal call

pub returns-clause-legal : goal.returns-clause-legal
returns-clause-legal c = λ calls config journal valid few. legal_for calls config valid few journal

pub returns-clause-reads : goal.returns-clause-reads
returns-clause-reads c = λ calls config journal read valid few. right_for calls config valid few journal read
