-- The proof of `give_summary`: the answer by what the run and its summary result in.
use Rattle.vma_replay.proofs.Doing.{done_of}
use Rattle.vma_replay.proofs.generating.give_summary.Goals as goal

pub returns : goal.returns
returns g c = done_of _ _ _ c.summary_given.result _ _ c.summary_given.ensures c.of.ensures
