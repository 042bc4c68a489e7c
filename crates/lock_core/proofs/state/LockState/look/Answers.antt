-- A state keeps its facts: `LockState::look`.
use Rattle.lock_core.proofs.Preserving.{kept_look}
use Rattle.lock_core.proofs.state.LockState.look.Goals as goal

pub invariant_of-self : goal.invariant_of-self
invariant_of-self c = rw c.look.ensures (kept_look c.self.inside c.args.reader c.self.invariant)
