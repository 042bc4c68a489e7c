-- A state has its facts at first: `GraceState::new`.
use Rattle.grace_core.proofs.Preserving.{kept_opening}
use Rattle.grace_core.proofs.state.GraceState.new.Goals as goal

pub invariant_of-result : goal.invariant_of-result
invariant_of-result c = rw c.in_ok-protocol.ensures (kept_opening c.args.readers c.args.rows c.requires.readers c.requires.rows)
