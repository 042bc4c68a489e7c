-- For the law `snapshots_stay`.
use Rattle.grace_core.proofs.Following.{snapshots_stay}
use Rattle.grace_core.proofs.laws.snapshots_stay.Goals as goal

pub returns : goal.returns
returns c = snapshots_stay
