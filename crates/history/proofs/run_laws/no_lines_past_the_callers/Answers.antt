-- For `no_lines_past_the_callers`: its goal.
use Rattle.history.proofs.ThreadCounts.{no_lines_past}
use Rattle.history.proofs.run_laws.no_lines_past_the_callers.Goals as goal

pub returns : goal.returns
returns c = no_lines_past
