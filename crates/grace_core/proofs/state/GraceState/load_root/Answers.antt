-- A state keeps its facts: `GraceState::load_root`.
use Rattle.std.proofs.Common.{sym}
use Rattle.grace_core.proofs.Preserving.{kept_root}
use Rattle.grace_core.proofs.state.GraceState.load_root.Goals as goal

pub invariant_of-self-2 : goal.invariant_of-self-2
invariant_of-self-2 c = rw c.in_ok-root.ensures
    (kept_root c.self.inside c.args.reader c.self.invariant (sym c.if-not-is_open.ensures) (rw (← c.self.view_is) at c.requires))
