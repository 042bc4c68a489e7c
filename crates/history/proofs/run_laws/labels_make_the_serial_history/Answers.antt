-- For `labels_make_the_serial_history`: its goal.
use Rattle.history.proofs.Labels.{label_is_serial}
use Rattle.history.proofs.run_laws.labels_make_the_serial_history.Goals as goal

pub returns : goal.returns
returns c = label_is_serial
