-- The proof of `a_space_is_within_limits`.
use Rattle.live_session.proofs.Reached.{within_limits}
use Rattle.live_session.proofs.laws.a_space_is_within_limits.Goals as goal

pub returns : goal.returns
returns c = within_limits
