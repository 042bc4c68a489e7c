-- A state keeps its facts: `LockState::mark_slot`.
use Rattle.std.proofs.Common.{sym, arith}
use Rattle.lock_core.proofs.Preserving.{kept_mark}
use Rattle.lock_core.proofs.state.LockState.mark_slot.Goals as goal

pub invariant_of-self : goal.invariant_of-self
invariant_of-self c = rw c.mark.ensures
    (kept_mark c.self.inside c.args.slot.0 c.self.invariant (sym c.if-not-is_open.ensures) (omega arith))
