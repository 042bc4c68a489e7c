-- For `linux_joins_no_more`: its goals.
use Rattle.linux_beside.proofs.JoinLemmas.{joins_on_the_left, joins_on_the_right}
use Rattle.linux_beside.proofs.joining.linux_joins_no_more.Goals as goal

pub returns-clause-left : goal.returns-clause-left
returns-clause-left c = joins_on_the_left

pub returns-clause-right : goal.returns-clause-right
returns-clause-right c = joins_on_the_right
