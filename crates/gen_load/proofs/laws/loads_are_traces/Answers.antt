-- For `loads_are_traces`: its goals.
use Rattle.gen_load.proofs.Readings.{trace_of-load, length-lines_after}
use Rattle.gen_load.proofs.laws.loads_are_traces.Goals as goal

pub returns-clause-read : goal.returns-clause-read
returns-clause-read c = trace_of-load

pub returns-clause-count : goal.returns-clause-count
returns-clause-count c count seed = length-lines_after 2 count seed
