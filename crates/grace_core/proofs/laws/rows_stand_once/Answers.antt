-- For the law `rows_stand_once`.
use Rattle.grace_core.proofs.Following.{rows_stand, stands_once}
use Rattle.grace_core.proofs.laws.rows_stand_once.Goals as goal

pub returns : goal.returns
returns c = record { one = rows_stand; only = stands_once }
