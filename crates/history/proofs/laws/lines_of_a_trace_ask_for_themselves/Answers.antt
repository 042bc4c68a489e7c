-- For `lines_of_a_trace_ask_for_themselves`: its goal.
use Rattle.history.proofs.Calls.{values_ask}
use Rattle.history.proofs.laws.lines_of_a_trace_ask_for_themselves.Goals as goal

pub returns : goal.returns
returns c = values_ask
