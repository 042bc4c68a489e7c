-- For `front_is_enough`: its goals.
use Rattle.output.proofs.Fronts.{input_of-front}
use Rattle.output.proofs.laws.front_is_enough.Goals as goal

pub returns : goal.returns
returns c = input_of-front
