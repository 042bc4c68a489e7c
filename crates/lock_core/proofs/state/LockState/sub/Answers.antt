-- A state keeps its facts: `LockState::sub`.
use Rattle.std.proofs.Common.{◌∙◌, sym}
use Rattle.lock_core.proofs.Preserving.{kept_sub}
use Rattle.lock_core.proofs.state.LockState.sub.Goals as goal

pub invariant_of-self : goal.invariant_of-self
invariant_of-self c = rw c.sub.ensures
    (kept_sub c.self.inside c.args.reader (c.in-Some.slot, c.in-Some.field-0-1) c.self.invariant (sym c.held.ensures ∙ c.in-Some.is))
