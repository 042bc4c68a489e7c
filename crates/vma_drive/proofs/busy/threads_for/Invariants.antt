-- The proof of `threads_for`: what its loop keeps.
use Rattle.vma_drive.specs.Internal.Rounds.{IsBusy}
use Rattle.vma_drive.proofs.Apart.{Closest}
use Rattle.std.proofs.Common.{length}
use Rattle.vma_drive.proofs.busy.threads_for.Given as goal

abbrev pub invariant-loop-caller : goal.invariant-loop-caller
invariant-loop-caller l = Closest (IsBusy l.fn.round.places.now l.fn.round.rounds.now l.fn.round.number l.fn.passes) (length l.fn.passes) l.caller l.closest l.last
