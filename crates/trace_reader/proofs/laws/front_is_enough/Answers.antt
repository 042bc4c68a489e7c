-- For `front_is_enough`: its goals.
use Rattle.trace_reader.proofs.Beginnings.{trace_of-front}
use Rattle.trace_reader.proofs.laws.front_is_enough.Goals as goal

pub returns : goal.returns
returns c = trace_of-front
