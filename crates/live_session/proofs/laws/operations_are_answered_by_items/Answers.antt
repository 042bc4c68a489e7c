-- The proof of `operations_are_answered_by_items`.
use Rattle.live_session.proofs.Made.{gathered, lists_printed, operations_printed, space_made}
use Rattle.live_session.proofs.laws.operations_are_answered_by_items.Goals as goal

pub returns-clause-spaces : goal.returns-clause-spaces
returns-clause-spaces c = space_made

pub returns-clause-operations : goal.returns-clause-operations
returns-clause-operations c = operations_printed

pub returns-clause-lists : goal.returns-clause-lists
returns-clause-lists c = lists_printed

pub returns-clause-gathered : goal.returns-clause-gathered
returns-clause-gathered c = gathered
