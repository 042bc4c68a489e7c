-- For the law `rows_by_weight`.
use Rattle.lock_core.proofs.Permuting.{exactly_permuted}
use Rattle.lock_core.proofs.laws.rows_by_weight.Goals as goal

pub returns : goal.returns
returns c = exactly_permuted
