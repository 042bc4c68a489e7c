-- The proof of `parsed`: what is read is a trace.
use Rattle.trace_reader.proofs.TraceValues.{trace_of-value}
use Rattle.replay_tests.proofs.judging.parsed.Goals as goal

pub returns-in-Ok : goal.returns-in-Ok
returns-in-Ok c = trace_of-value _ _ c.in-Ok.ensures.trace
