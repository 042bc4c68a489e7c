-- What `model_step` answers, as the definitions have it.
use Rattle.area_model.specs.declared.step.Stepped.{Stepped}
use Rattle.area_rules.specs.Tables.{Outcome, space_of}

-- what was answered, as an outcome
abbrev pub outcome_of : Stepped → Outcome
outcome_of stepped = record { space = space_of stepped.list stepped.counters; reply = stepped.reply }
