-- The proof of `run_threads`: the space has the name of what it was made of.
use Rattle.vma_drive.proofs.running.run_threads.Given as goal

abbrev pub ghosts-run_passes : goal.ghosts-run_passes
ghosts-run_passes g a = record { name = a.ready }
