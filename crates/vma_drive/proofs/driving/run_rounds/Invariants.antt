-- The proof of `run_rounds`: what its loop keeps.
use Rattle.vma_drive.specs.Internal.Rounds.{AtRound}
use Rattle.vma_drive.proofs.driving.run_rounds.Given as goal

abbrev pub invariant-loop-number : goal.invariant-loop-number
invariant-loop-number g l = AtRound g.N.SpaceName.name l.fn.lines l.fn.places l.fn.rounds l.fn.tellings l.passes l.owed l.number
