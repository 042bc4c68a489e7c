-- A state keeps its facts: `LockState::join`.
use Rattle.std.proofs.Common.{◌∙◌, sym, ap}
use Rattle.std.specs.Option.{is_some}
use Rattle.lock_core.proofs.Preserving.{kept_join}
use Rattle.lock_core.proofs.state.LockState.join.Goals as goal

pub invariant_of-self : goal.invariant_of-self
invariant_of-self c = rw c.join.ensures
    (kept_join c.self.inside c.args.first c.args.second c.self.invariant (sym (c.if-is_some.ensures ∙ ap is_some c.held.ensures)) c.if-first-second.false)
