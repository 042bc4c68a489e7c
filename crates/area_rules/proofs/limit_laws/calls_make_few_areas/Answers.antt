-- For `calls_make_few_areas`: its goals.
use Rattle.area_rules.proofs.SameJournals.{length-after}
use Rattle.area_rules.proofs.SameSteps.{length-step}
use Rattle.area_rules.proofs.limit_laws.calls_make_few_areas.Goals as goal

pub returns-clause-step : goal.returns-clause-step
returns-clause-step c = length-step

pub returns-clause-journal : goal.returns-clause-journal
returns-clause-journal c = length-after
