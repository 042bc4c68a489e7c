-- The proof of `converse`: it begins before the first read.
use Rattle.live_session.proofs.Lines.{talked_first}
use Rattle.live_session.proofs.conversing.converse.Goals as goal

pub answer_spaces-requires : goal.answer_spaces-requires
answer_spaces-requires g c = record {
  source = (g.S.Source.seen c.args.source.now);
  sink = (g.K.Sink.seen c.args.sink.now);
  talked = talked_first (g.S.Source.seen c.args.source.now) (g.K.Sink.seen c.args.sink.now) c.new-held.result c.new-piece.result.items c.new-held.ensures c.new-piece.ensures.items;
  source_room = c.requires.source_count_has_room;
  sink_room = c.requires.sink_count_has_room;
}

pub returns-in-Ok : goal.returns-in-Ok
returns-in-Ok g c = c.in-Ok.ensures (g.S.Source.seen c.args.source.now) (g.K.Sink.seen c.args.sink.now)
    (talked_first (g.S.Source.seen c.args.source.now) (g.K.Sink.seen c.args.sink.now) c.new-held.result c.new-piece.result.items c.new-held.ensures c.new-piece.ensures.items)

pub returns : goal.returns
returns g c = c.in-Err.ensures (g.S.Source.seen c.args.source.now) (g.K.Sink.seen c.args.sink.now)
    (talked_first (g.S.Source.seen c.args.source.now) (g.K.Sink.seen c.args.sink.now) c.new-held.result c.new-piece.result.items c.new-held.ensures c.new-piece.ensures.items)
