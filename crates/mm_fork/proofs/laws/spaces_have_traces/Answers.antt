-- For `spaces_have_traces`: its goals.
use Rattle.history.proofs.OneSpace.{parent_is_trace, child_is_trace, child_is_alone, child_lines_name_none}
use Rattle.mm_fork.proofs.laws.spaces_have_traces.Goals as goal

pub returns-clause-parent : goal.returns-clause-parent
returns-clause-parent c = parent_is_trace

pub returns-clause-child : goal.returns-clause-child
returns-clause-child c = child_is_trace

pub returns-clause-alone : goal.returns-clause-alone
returns-clause-alone c = child_is_alone

pub returns-clause-unnamed : goal.returns-clause-unnamed
returns-clause-unnamed c = child_lines_name_none
