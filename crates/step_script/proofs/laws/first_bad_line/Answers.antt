-- For `first_bad_line`: its goals.
use Rattle.step_script.proofs.Scripts.{script_of-Err}
use Rattle.step_script.proofs.laws.first_bad_line.Goals as goal

pub returns : goal.returns
returns c = script_of-Err
