-- For `inputs_are_within`: its goals.
use Rattle.output.proofs.Inputs.{input_within}
use Rattle.output.proofs.laws.inputs_are_within.Goals as goal

pub returns : goal.returns
returns c = input_within
