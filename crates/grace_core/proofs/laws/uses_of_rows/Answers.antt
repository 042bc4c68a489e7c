-- For the law `uses_of_rows`.
use Rattle.grace_core.proofs.Using.{uses_begin, uses_change}
use Rattle.grace_core.proofs.laws.uses_of_rows.Goals as goal

pub returns : goal.returns
returns c = record { begin = uses_begin; change = uses_change }
