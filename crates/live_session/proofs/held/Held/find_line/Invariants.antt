-- The proof of `find_line`: what its loop keeps, and that it ends.
use Rattle.std.proofs.Common.{◌≤◌, ◌-◌, ◌^◌}
use Rattle.io_edge.specs.Edge.{SinkView, SourceView}
use Rattle.live_session.specs.Sessions.{Session}
use Rattle.live_session.specs.Internal.Talking.{Talked}
use Rattle.live_session.proofs.held.Held.find_line.Given as goal

-- the session is as far as it was, and turns were only made
abbrev pub invariant-turns : goal.invariant-turns
invariant-turns g l = record {
  talked : (s : SourceView) (k : SinkView) (session : Session)
      → Talked s (g.S.Source.seen l.fn.source) k (g.K.Sink.seen l.fn.sink) l.fn.self l.fn.piece.items session
      → Talked s (g.S.Source.seen l.source) k (g.K.Sink.seen l.sink) l.self l.piece.items session;
  later : l.fn.self.turns ≤ l.self.turns;
}

abbrev pub decreases-turns : goal.decreases-turns
decreases-turns g l = 2 ^ 64 - l.self.turns
