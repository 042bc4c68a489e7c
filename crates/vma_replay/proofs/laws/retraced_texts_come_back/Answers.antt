-- For `retraced_texts_come_back`.
use Rattle.vma_replay.proofs.Retraced.{comes_back}
use Rattle.vma_replay.proofs.laws.retraced_texts_come_back.Goals as goal

pub returns : goal.returns
returns c = comes_back
