-- A state keeps its facts: `GraceState::fill`.
use Rattle.std.proofs.Common.{◌∙◌, sym, ap}
use Rattle.grace_core.specs.Core.{is_free_row}
use Rattle.grace_core.proofs.Preserving.{kept_fill}
use Rattle.grace_core.proofs.state.GraceState.fill.Goals as goal

pub invariant_of-self : goal.invariant_of-self
invariant_of-self c = rw c.fill.ensures
    (kept_fill c.self.inside c.args.row.0 c.args.word c.self.invariant
    (ap (λ writer_state. is_free_row writer_state c.args.row.0) (sym c.writer_state.ensures) ∙ sym c.if-not-is_free.ensures))
