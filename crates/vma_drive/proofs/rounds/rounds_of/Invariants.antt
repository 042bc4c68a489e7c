-- The proof of `rounds_of`: what its loop keeps.
use Rattle.vma_drive.proofs.Rounding.{RoundedTo}
use Rattle.vma_drive.proofs.rounds.rounds_of.Given as goal

abbrev pub invariant-loop-line : goal.invariant-loop-line
invariant-loop-line l = RoundedTo l.lines l.rounds.items l.reached l.line-index
