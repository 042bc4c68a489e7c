-- The proof of `a_trace_is_answered_by_its_items`.
use Rattle.live_session.proofs.Whole.{serial_is_gathered, session_is_in_turn, session_is_serial}
use Rattle.live_session.proofs.laws.a_trace_is_answered_by_its_items.Goals as goal

pub returns-clause-session : goal.returns-clause-session
returns-clause-session c = session_is_in_turn

pub returns-clause-serial : goal.returns-clause-serial
returns-clause-serial c = serial_is_gathered

pub returns-clause-equal : goal.returns-clause-equal
returns-clause-equal c = session_is_serial
