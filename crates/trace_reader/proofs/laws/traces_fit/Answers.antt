-- For `traces_fit`: its goals.
use Rattle.trace_reader.proofs.Beginnings.{trace_within}
use Rattle.trace_reader.proofs.TraceValues.{trace_of-value}
use Rattle.trace_reader.proofs.laws.traces_fit.Goals as goal

pub returns-clause-value : goal.returns-clause-value
returns-clause-value c = trace_of-value

pub returns-clause-within : goal.returns-clause-within
returns-clause-within c = trace_within
