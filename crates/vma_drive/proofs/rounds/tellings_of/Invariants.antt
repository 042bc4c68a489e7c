-- The proof of `tellings_of`: what its loop keeps.
use Rattle.vma_drive.proofs.AllTold.{ToldOf}
use Rattle.vma_drive.proofs.rounds.tellings_of.Given as goal

abbrev pub invariant-loop-place : goal.invariant-loop-place
invariant-loop-place l = ToldOf l.lines l.fn.rounds l.tellings.items l.place
