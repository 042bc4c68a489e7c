-- The proof of `session_gives_a_front`.
use Rattle.live_session.proofs.Prefixes.{session_text-begins}
use Rattle.live_session.proofs.laws.session_gives_a_front.Goals as goal

pub returns : goal.returns
returns c = session_text-begins
