-- The proof of `run_own`: what its loop keeps.
use Rattle.std.proofs.Common.{get_or}
use Rattle.mm_space.specs.Names.{IsPassOf}
use Rattle.history.specs.Histories.{lines_of}
use Rattle.vma_drive.proofs.OwnLines.{RunTo}
use Rattle.vma_drive.proofs.working.run_own.Given as goal

abbrev pub invariant-loop-index : goal.invariant-loop-index
invariant-loop-index g l = record {
  pass : IsPassOf g.N.SpaceName.name l.pass;
  to : RunTo (lines_of l.fn.round.lines.now l.fn.caller) l.fn.round.rounds.now l.own l.fn.round.number (get_or l.fn.round.owed.now l.fn.caller 0) l.fn.pass l.pass l.index;
}
