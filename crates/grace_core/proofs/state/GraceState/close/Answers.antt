-- A state keeps its facts: `GraceState::close`.
use Rattle.grace_core.proofs.Preserving.{kept_close}
use Rattle.grace_core.proofs.state.GraceState.close.Goals as goal

pub invariant_of-self : goal.invariant_of-self
invariant_of-self c = rw c.close.ensures (kept_close c.self.inside c.args.reader c.self.invariant)
