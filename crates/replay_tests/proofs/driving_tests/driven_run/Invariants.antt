-- The proof of `driven_run`: the space has the name of what it was made of.
use Rattle.replay_tests.proofs.driving_tests.driven_run.Given as goal

abbrev pub ghosts-driven : goal.ghosts-driven
ghosts-driven g a = record { name = a.ready }
