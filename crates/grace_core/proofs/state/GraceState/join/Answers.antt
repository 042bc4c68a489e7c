-- A state keeps its facts: `GraceState::join`.
use Rattle.grace_core.proofs.Preserving.{kept_join}
use Rattle.grace_core.proofs.state.GraceState.join.Goals as goal

pub invariant_of-self : goal.invariant_of-self
invariant_of-self c = rw c.join.ensures (kept_join c.self.inside c.args.second c.self.invariant (rw (← c.self.view_is) at c.requires.second_closed))
