-- The proof of `answer_spaces`: one space ends after another.
use Rattle.std.proofs.Common.{Bool, Ok, subst}
use Rattle.live_session.specs.Internal.Talking.{EndsSpace}
use Rattle.live_session.proofs.Lines.{status_err}
use Rattle.live_session.proofs.conversing.answer_spaces.Goals as goal

pub returns-in_err-answer_space : goal.returns-in_err-answer_space
returns-in_err-answer_space g c = λ s k t.
    status_err s (g.S.Source.seen c.answer_space.new.source) k (g.K.Sink.seen c.answer_space.new.sink) c.from_residual.result _ c.from_residual.ensures.1
    (c.in_err-answer_space.ensures.ends s k (c.spaces.invariant s k t))

pub returns : goal.returns
returns g c = λ s k t.
    subst (λ (b : Bool). EndsSpace s (g.S.Source.seen c.answer_space.new.source) k (g.K.Sink.seen c.answer_space.new.sink) c.answer_space.new.held
    c.answer_space.new.piece.items (Ok b)) c.if-branch.false (c.in_ok-answer_space.ensures.ends s k (c.spaces.invariant s k t))
