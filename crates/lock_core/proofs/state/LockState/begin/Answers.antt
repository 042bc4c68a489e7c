-- A state keeps its facts: `LockState::begin`.
use Rattle.std.proofs.Common.{sym}
use Rattle.lock_core.proofs.Preserving.{kept_begin}
use Rattle.lock_core.proofs.state.LockState.begin.Goals as goal

pub invariant_of-self : goal.invariant_of-self
invariant_of-self c = rw c.begin.ensures (kept_begin c.self.inside c.self.invariant (sym c.if-is_open.ensures))
