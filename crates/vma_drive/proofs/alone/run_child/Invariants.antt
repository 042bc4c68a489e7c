-- The proof of `run_child`: the space has the name of what it was made of.
use Rattle.vma_drive.proofs.alone.run_child.Given as goal

abbrev pub ghosts-run_alone : goal.ghosts-run_alone
ghosts-run_alone g a = record { name = a.ready }
