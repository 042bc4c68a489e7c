-- The proof of `refused_is_not_legal`: its goal.
use Rattle.history.proofs.Walking.{refused_legal}
use Rattle.history.proofs.laws.refused_is_not_legal.Goals as goal

pub returns : goal.returns
returns c = refused_legal
