-- The proof of `answer_space`: it begins with nothing, and an operation opens it.
use Rattle.std.proofs.Common.{Ok, subst, sym}
use Rattle.trace_reader.specs.Reading.{so_far}
use Rattle.live_session.specs.declared.answering.Stop.{Stop}
use Rattle.live_session.specs.Sessions.{Session}
use Rattle.live_session.specs.Internal.Talking.{Ends, Talked, session_of}
use Rattle.live_session.proofs.Talks.{space_err}
use Rattle.live_session.proofs.Lines.{begun_is, unopened_talked}
use Rattle.live_session.proofs.conversing.answer_space.Goals as goal

pub returns-in_err-line-clause-ends : goal.returns-in_err-line-clause-ends
returns-in_err-line-clause-ends g c = λ s k t.
    space_err s (g.S.Source.seen c.answer_lines.new.source) k (g.K.Sink.seen c.answer_lines.new.sink) c.answer_lines.new.held c.answer_lines.new.piece.items c.from_residual.result _ c.from_residual.ensures.1
    (c.in_err-line.ensures.ends s k (subst (λ (x : Session). Talked s (g.S.Source.seen c.args.source.now) k (g.K.Sink.seen c.args.sink.now) c.args.held.now c.args.piece.now.items x) (sym (begun_is c.new-says.result.count (so_far c.new-says.result.builder) c.new-says.ensures.count c.new-says.ensures.lines)) t))

pub returns-in-Operation-clause-ends : goal.returns-in-Operation-clause-ends
returns-in-Operation-clause-ends g c = λ s k t.
    let ends = subst (λ (x : Stop). Ends s (g.S.Source.seen c.answer_lines.new.source) k (g.K.Sink.seen c.answer_lines.new.sink) c.answer_lines.new.held c.answer_lines.new.piece.items (session_of c.answer_lines.new.says c.answer_lines.new.space) (Ok x)) c.in-Operation.is
    (c.in_ok-line.ensures.ends s k (subst (λ (x : Session). Talked s (g.S.Source.seen c.args.source.now) k (g.K.Sink.seen c.args.sink.now) c.args.held.now c.args.piece.now.items x) (sym (begun_is c.new-says.result.count (so_far c.new-says.result.builder) c.new-says.ensures.count c.new-says.ensures.lines)) t)) in
    c.answer_opened.ensures.ends s k
    (unopened_talked s (g.S.Source.seen c.answer_lines.new.source) k (g.K.Sink.seen c.answer_lines.new.sink) c.answer_lines.new.held c.answer_lines.new.piece.items c.answer_lines.new.says.count (so_far c.answer_lines.new.says.builder)
    c.answer_lines.new.space c.in-Operation.line ends.1 ends.0)

pub returns-clause-ends : goal.returns-clause-ends
returns-clause-ends g c = λ s k t.
    subst (λ (x : Stop). Ends s (g.S.Source.seen c.answer_lines.new.source) k (g.K.Sink.seen c.answer_lines.new.sink) c.answer_lines.new.held c.answer_lines.new.piece.items (session_of c.answer_lines.new.says c.answer_lines.new.space) (Ok x)) c.in-End.is
    (c.in_ok-line.ensures.ends s k (subst (λ (x : Session). Talked s (g.S.Source.seen c.args.source.now) k (g.K.Sink.seen c.args.sink.now) c.args.held.now c.args.piece.now.items x) (sym (begun_is c.new-says.result.count (so_far c.new-says.result.builder) c.new-says.ensures.count c.new-says.ensures.lines)) t))
