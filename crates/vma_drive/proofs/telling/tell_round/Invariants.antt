-- The proof of `tell_round`: what its loop keeps.
use Rattle.vma_drive.proofs.ToldFirst.{ToldTo}
use Rattle.vma_drive.proofs.telling.tell_round.Given as goal

abbrev pub invariant-loop-telling : goal.invariant-loop-telling
invariant-loop-telling g l = ToldTo g.N.SpaceName.name l.fn.tellings
    l.fn.passes l.passes l.fn.owed l.owed l.fn.round l.telling-index
