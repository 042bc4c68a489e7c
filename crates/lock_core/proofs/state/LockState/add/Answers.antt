-- A state keeps its facts: `LockState::add`.
use Rattle.std.proofs.Common.{◌∙◌, sym, ap}
use Rattle.std.specs.Option.{is_some}
use Rattle.lock_core.proofs.Preserving.{kept_add}
use Rattle.lock_core.proofs.state.LockState.add.Goals as goal

pub invariant_of-self : goal.invariant_of-self
invariant_of-self c = rw c.add.ensures
    (kept_add c.self.inside c.args.reader c.args.slot.0 c.self.invariant (sym c.if-lacks_reader.ensures) (sym c.if-lacks_slot.ensures)
    (sym (c.if-is_some.ensures ∙ ap is_some c.held.ensures)))
