-- For `front_is_enough`: its goals.
use Rattle.step_script.proofs.Scripts.{output-front}
use Rattle.step_script.proofs.laws.front_is_enough.Goals as goal

pub returns : goal.returns
returns c = output-front
