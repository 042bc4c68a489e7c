-- For `scripts_are_within`: its goals.
use Rattle.step_script.proofs.Scripts.{output-within}
use Rattle.step_script.proofs.laws.scripts_are_within.Goals as goal

pub returns : goal.returns
returns c = output-within
