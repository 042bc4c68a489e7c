-- The proof of `Given::of`: nothing was read yet.
use Rattle.std.proofs.Common.{refl}
use Rattle.output.proofs.Compared.{read_none}
use Rattle.output.proofs.given.Given.of.Goals as goal

pub returns-clause-read : goal.returns-clause-read
returns-clause-read c = read_none _ _ refl refl
