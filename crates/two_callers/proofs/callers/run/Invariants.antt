-- For `run`: the space has the name of what it is opened with.
use Rattle.two_callers.proofs.callers.run.Given as goal

abbrev pub ghosts-share : goal.ghosts-share
ghosts-share g a = record { name = a.ready }
