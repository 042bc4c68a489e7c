-- A state keeps its facts: `GraceState::split`.
use Rattle.grace_core.proofs.Preserving.{kept_split}
use Rattle.grace_core.proofs.state.GraceState.split.Goals as goal

pub invariant_of-self-2 : goal.invariant_of-self-2
invariant_of-self-2 c = rw c.in_ok-split.ensures (kept_split c.self.inside c.self.invariant (rw (← c.self.view_is) at c.requires))
