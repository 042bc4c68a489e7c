-- A state keeps its facts: `LockState::store`.
use Rattle.std.proofs.Common.{◌∙◌, sym, ap}
use Rattle.lock_core.proofs.Preserving.{kept_store}
use Rattle.lock_core.proofs.state.LockState.store.Goals as goal

pub invariant_of-self : goal.invariant_of-self
invariant_of-self c = rw c.store.ensures
    (kept_store c.self.inside c.args.slot.0 c.args.field c.args.word c.self.invariant (sym c.if-not-is_open.ensures)
    (sym (ap (λ s. s.lock_seq) c.slot.ensures) ∙ c.if-slot-seq.false ∙ c.seq.ensures))
