-- For the law `clearings_rise`.
use Rattle.grace_core.proofs.Following.{clearings_rise}
use Rattle.grace_core.proofs.laws.clearings_rise.Goals as goal

pub returns : goal.returns
returns c = clearings_rise
