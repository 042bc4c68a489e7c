-- The proof of `answers_stay`.
use Rattle.live_session.proofs.Prefixes.{answers-stay}
use Rattle.live_session.proofs.laws.answers_stay.Goals as goal

pub returns : goal.returns
returns c = answers-stay
