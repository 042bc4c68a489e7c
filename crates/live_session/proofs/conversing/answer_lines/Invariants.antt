-- The proof of `answer_lines`: what its loop keeps, and that it ends.
use Rattle.std.proofs.Common.{◌≤◌, ◌-◌, ◌^◌, IsSome}
use Rattle.io_edge.specs.Edge.{SinkView, SourceView}
use Rattle.live_session.specs.Internal.Talking.{Talked, session_of}
use Rattle.live_session.proofs.conversing.answer_lines.Given as goal

-- the lines so far were answered, turns were only made, and a space that was open is
abbrev pub invariant-lines : goal.invariant-lines
invariant-lines g l = record {
  talked : (s : SourceView) (k : SinkView)
      → Talked s (g.S.Source.seen l.fn.source) k (g.K.Sink.seen l.fn.sink) l.fn.held l.fn.piece.items (session_of l.fn.says l.fn.space)
      → Talked s (g.S.Source.seen l.source) k (g.K.Sink.seen l.sink) l.held l.piece.items (session_of l.says l.space);
  later : l.fn.held.turns ≤ l.held.turns;
  stays : IsSome l.fn.space → IsSome l.space;
}

abbrev pub decreases-lines : goal.decreases-lines
decreases-lines g l = 2 ^ 64 - l.held.turns
