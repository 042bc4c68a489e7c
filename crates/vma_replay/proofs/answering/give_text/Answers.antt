-- The proof of `give_text`: a beginning of the text was given where giving it ended early.
use Rattle.std.proofs.Common.{[], Err, inr, refl}
use Rattle.vma_replay.specs.Internal.Giving.{GivesThis}
use Rattle.vma_replay.proofs.Doing.{done_of}
use Rattle.vma_replay.proofs.answering.give_text.Goals as goal

pub returns-in-Err : goal.returns-in-Err
returns-in-Err g c = done_of (GivesThis c.args.text.now) _ _ (Err c.from.result) c.from.result []
    (inr ([], c.args.text.now, (refl, refl), c.in-Err.error, c.from.ensures, c.in-Err.ensures)) (refl, refl)
