-- For the law `rows_become_free`.
use Rattle.grace_core.proofs.Following.{rows_become_free, free_rows_stay}
use Rattle.grace_core.proofs.laws.rows_become_free.Goals as goal

pub returns : goal.returns
returns c = record { freed = rows_become_free; stay = free_rows_stay }
