-- The proof of `Progress::unfinished`: what its loop keeps.
use Rattle.history.proofs.Advances.{AreAnswered}
use Rattle.history.proofs.progress.Progress.unfinished.Given as goal

abbrev pub invariant-loop-caller : goal.invariant-loop-caller
invariant-loop-caller l = AreAnswered l.self-inside l.caller
