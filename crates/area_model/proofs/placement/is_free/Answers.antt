-- `is_free` looks at each area.
use Rattle.std.proofs.Common.{◌∙◌, sym}
use Rattle.area_rules.proofs.Placing.{free_each}
use Rattle.area_model.proofs.placement.is_free.Goals as goal

pub returns : goal.returns
returns c = c.is_each_clear.ensures ∙ sym (free_each c.args.areas.now c.args.pages c.args.start)
