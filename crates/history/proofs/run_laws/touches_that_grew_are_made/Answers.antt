-- For `touches_that_grew_are_made`: its goal.
use Rattle.history.proofs.Touches.{touches_made}
use Rattle.history.proofs.run_laws.touches_that_grew_are_made.Goals as goal

pub returns : goal.returns
returns c = touches_made
