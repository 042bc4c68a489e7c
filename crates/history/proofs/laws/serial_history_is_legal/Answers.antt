-- For `serial_history_is_legal`: its goals.
use Rattle.history.proofs.SerialOrder.{serial_is_history}
use Rattle.history.proofs.laws.serial_history_is_legal.Goals as goal

pub returns : goal.returns
returns c = serial_is_history
