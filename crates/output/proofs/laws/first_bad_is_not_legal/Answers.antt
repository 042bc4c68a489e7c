-- The proof of `first_bad_is_not_legal`.
use Rattle.output.proofs.Judged.{bad_legal}
use Rattle.output.proofs.laws.first_bad_is_not_legal.Goals as goal

pub returns : goal.returns
returns c = bad_legal
