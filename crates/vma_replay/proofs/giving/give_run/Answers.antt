-- The proof of `give_run`: the answer by what the run and its output result in.
use Rattle.vma_replay.proofs.Doing.{done_of}
use Rattle.vma_replay.proofs.giving.give_run.Goals as goal

pub returns : goal.returns
returns g c = done_of _ _ _ c.run_given.result _ _ c.run_given.ensures c.of.ensures
