-- A state keeps its facts: `GraceState::open`.
use Rattle.std.proofs.Common.{sym}
use Rattle.grace_core.proofs.Preserving.{kept_open}
use Rattle.grace_core.proofs.state.GraceState.open.Goals as goal

pub invariant_of-self : goal.invariant_of-self
invariant_of-self c = rw c.open.ensures (kept_open c.self.inside c.args.reader c.self.invariant (sym c.if-is_open.ensures))
