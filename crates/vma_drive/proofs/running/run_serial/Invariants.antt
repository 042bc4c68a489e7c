-- The proof of `run_serial`: the space has the name of what it was made of.
use Rattle.vma_drive.proofs.running.run_serial.Given as goal

abbrev pub ghosts-run_alone : goal.ghosts-run_alone
ghosts-run_alone g a = record { name = a.ready }
