-- For the law `pins_turn`.
use Rattle.grace_core.proofs.Following.{pins_turn}
use Rattle.grace_core.proofs.laws.pins_turn.Goals as goal

pub returns : goal.returns
returns c = pins_turn
