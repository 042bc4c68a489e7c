-- The proof of `answer_spaces`: what its loop keeps, and that it ends.
use Rattle.std.proofs.Common.{◌-◌, ◌^◌}
use Rattle.io_edge.specs.Edge.{SinkView, SourceView}
use Rattle.live_session.specs.Sessions.{session_begun}
use Rattle.live_session.specs.Internal.Talking.{Talked}
use Rattle.live_session.proofs.conversing.answer_spaces.Given as goal

-- the spaces so far were answered
abbrev pub invariant-spaces : goal.invariant-spaces
invariant-spaces g l = (s : SourceView) (k : SinkView)
    → Talked s (g.S.Source.seen l.fn.source) k (g.K.Sink.seen l.fn.sink) l.fn.held l.fn.piece.items session_begun
    → Talked s (g.S.Source.seen l.source) k (g.K.Sink.seen l.sink) l.held l.piece.items session_begun

abbrev pub decreases-spaces : goal.decreases-spaces
decreases-spaces g l = 2 ^ 64 - l.held.turns
