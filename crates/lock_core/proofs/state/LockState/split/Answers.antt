-- A state keeps its facts: `LockState::split`.
use Rattle.lock_core.proofs.Preserving.{kept_split}
use Rattle.lock_core.proofs.state.LockState.split.Goals as goal

pub invariant_of-self-2 : goal.invariant_of-self-2
invariant_of-self-2 c = rw c.in_ok-split.ensures (kept_split c.self.inside c.args.reader c.self.invariant)
