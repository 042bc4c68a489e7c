-- For the law `sort_by_is_stable`.
use Rattle.mm_types.proofs.Sorting.{sort_by-from_stable}
use Rattle.mm_types.proofs.sorts.sort_by_is_stable.Goals as goal

pub returns : goal.returns
returns c = λ key old new. sort_by-from_stable key old new
