-- For `first_bad_line`: its goal.
use Rattle.trace_reader.proofs.FirstBad.{trace_of-Err}
use Rattle.trace_reader.proofs.laws.first_bad_line.Goals as goal

pub returns : goal.returns
returns c = trace_of-Err
