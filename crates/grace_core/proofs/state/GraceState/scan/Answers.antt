-- A state keeps its facts: `GraceState::scan`.
use Rattle.grace_core.proofs.Preserving.{kept_scan}
use Rattle.grace_core.proofs.state.GraceState.scan.Goals as goal

pub invariant_of-self : goal.invariant_of-self
invariant_of-self c = rw c.scan.ensures (kept_scan c.self.inside c.args.reader c.self.invariant)
