-- The proof of `ordered_run`: the space has the name of what it was made of.
use Rattle.replay_tests.proofs.driving_tests.ordered_run.Given as goal

abbrev pub ghosts-ordered : goal.ghosts-ordered
ghosts-ordered g a = record { name = a.ready }
