-- For `serial_outputs_are_equal`.
use Rattle.vma_replay.proofs.Alike.{outputs_alike}
use Rattle.vma_replay.proofs.laws.serial_outputs_are_equal.Goals as goal

pub returns : goal.returns
returns c = outputs_alike
