-- For `callers_share_the_lines`: its goal.
use Rattle.history.proofs.ThreadCounts.{shared_lines}
use Rattle.history.proofs.run_laws.callers_share_the_lines.Goals as goal

pub returns : goal.returns
returns c = shared_lines
