-- The proof of `answer_opened`: the operation opens the space, and its answer is the first of it.
use Rattle.std.proofs.Common.{◌≡◌, ◌<◌, ◌-◌, ◌^◌, ◌∙◌, true, false, Option, Ok, IsSome, ap, arith, refl, subst, sym}
use Rattle.mm_types.specs.declared.config.Config.{Config}
use Rattle.mm_types.specs.Config.{IsValidConfig}
use Rattle.area_rules.specs.Steps.{opening}
use Rattle.trace_reader.specs.Lines.{SoFar}
use Rattle.trace_reader.specs.Reading.{so_far}
use Rattle.live_session.specs.declared.answering.Stop.{Stop}
use Rattle.live_session.specs.Sessions.{Opened, opened_by}
use Rattle.live_session.specs.Internal.Talking.{Ends, session_of}
use Rattle.live_session.proofs.Reached.{opened_room}
use Rattle.live_session.proofs.Talks.{space_err, talked_no_memory}
use Rattle.live_session.proofs.Lines.{opened_config, opened_talked}
use Rattle.live_session.proofs.conversing.answer_opened.Goals as goal

-- the space that a configuration opens
abbrev opened_of : Config → Opened
opened_of config = record { config = config; space = opening config; version = 0 }

pub returns-in_err-config-clause-ends : goal.returns-in_err-config-clause-ends
returns-in_err-config-clause-ends g c = λ s k t.
    space_err s (g.S.Source.seen c.args.source.now) k (g.K.Sink.seen c.args.sink.now) c.args.held.now c.args.piece.now.items c.from_residual.result _ c.from_residual.ensures.1
    (talked_no_memory s (g.S.Source.seen c.args.source.now) k (g.K.Sink.seen c.args.sink.now) c.args.held.now _ _ t (omega (arith, c.requires.turns.0)))

pub open-requires : goal.open-requires
open-requires g c =
    let q = c.requires.talking in
    subst IsValidConfig (sym c.in_ok-config.ensures)
    (opened_config q.source (g.S.Source.seen c.args.source.now) q.sink (g.K.Sink.seen c.args.sink.now) c.args.held.now c.args.piece.now.items c.args.says.now.count (so_far c.args.says.now.builder) c.args.line.now
    q.talked c.requires.turns.1)

pub returns-in_err-live-clause-ends : goal.returns-in_err-live-clause-ends
returns-in_err-live-clause-ends g c = λ s k t.
    space_err s (g.S.Source.seen c.args.source.now) k (g.K.Sink.seen c.args.sink.now) c.args.held.now c.args.piece.now.items c.from_residual-in_err-live.result _ c.from_residual-in_err-live.ensures.1
    (talked_no_memory s (g.S.Source.seen c.args.source.now) k (g.K.Sink.seen c.args.sink.now) c.args.held.now _ _ t (omega (arith, c.requires.turns.0)))

pub operate-requires-clause-objects : goal.operate-requires-clause-objects
operate-requires-clause-objects g c =
    let q = c.requires.talking in
    let so : SoFar = so_far c.args.says.now.builder in
    let is : c.in_ok-live.live ≡ opened_by so = c.in_ok-live.ensures.opened ∙ ap opened_of c.in_ok-config.ensures in
    subst (λ (l : Opened). l.space.objects < 2 ^ 32 - 1) (sym is)
    (opened_room so (opened_config q.source (g.S.Source.seen c.args.source.now) q.sink (g.K.Sink.seen c.args.sink.now) c.args.held.now c.args.piece.now.items c.args.says.now.count so c.args.line.now
    q.talked c.requires.turns.1)).0

pub returns-in_err-operate-clause-ends : goal.returns-in_err-operate-clause-ends
returns-in_err-operate-clause-ends g c = λ s k t.
    space_err s (g.S.Source.seen c.args.source.now) k (g.K.Sink.seen c.args.sink.now) c.args.held.now c.operate.new.piece.items c.from_residual-in_err-operate.result _ c.from_residual-in_err-operate.ensures.1
    (talked_no_memory s (g.S.Source.seen c.args.source.now) k (g.K.Sink.seen c.args.sink.now) c.args.held.now _ _ t (omega (arith, c.requires.turns.0)))

pub returns-in_err-answer_lines-clause-ends : goal.returns-in_err-answer_lines-clause-ends
returns-in_err-answer_lines-clause-ends g c = λ s k t.
    let so : SoFar = so_far c.args.says.now.builder in
    let is : c.in_ok-live.live ≡ opened_by so = c.in_ok-live.ensures.opened ∙ ap opened_of c.in_ok-config.ensures in
    space_err s (g.S.Source.seen c.answer_lines.new.source) k (g.K.Sink.seen c.answer_lines.new.sink) c.answer_lines.new.held c.answer_lines.new.piece.items c.from_residual-in_err-answer_lines.result _
    c.from_residual-in_err-answer_lines.ensures.1
    (c.in_err-answer_lines.ensures.ends s k (opened_talked s (g.S.Source.seen c.args.source.now) k (g.K.Sink.seen c.args.sink.now) c.args.held.now c.args.piece.now.items c.operate.new.piece.items c.args.says.now.count so c.args.line.now
    c.in_ok-live.live c.operate.new.self is c.in_ok-operate.ensures.now c.in_ok-operate.ensures.text t))

pub returns-in-End-clause-ends : goal.returns-in-End-clause-ends
returns-in-End-clause-ends g c = λ s k t.
    let so : SoFar = so_far c.args.says.now.builder in
    let is : c.in_ok-live.live ≡ opened_by so = c.in_ok-live.ensures.opened ∙ ap opened_of c.in_ok-config.ensures in
    subst (λ (x : Stop). Ends s (g.S.Source.seen c.answer_lines.new.source) k (g.K.Sink.seen c.answer_lines.new.sink) c.answer_lines.new.held c.answer_lines.new.piece.items (session_of c.answer_lines.new.says c.answer_lines.new.space) (Ok x)) c.in-End.is
    (c.in_ok-answer_lines.ensures.ends s k (opened_talked s (g.S.Source.seen c.args.source.now) k (g.K.Sink.seen c.args.sink.now) c.args.held.now c.args.piece.now.items c.operate.new.piece.items c.args.says.now.count so c.args.line.now
    c.in_ok-live.live c.operate.new.self is c.in_ok-operate.ensures.now c.in_ok-operate.ensures.text t))

pub unreachable-requires : goal.unreachable-requires
unreachable-requires g c =
    let q = c.requires.talking in
    let so : SoFar = so_far c.args.says.now.builder in
    let is : c.in_ok-live.live ≡ opened_by so = c.in_ok-live.ensures.opened ∙ ap opened_of c.in_ok-config.ensures in
    let ends = subst (λ (x : Stop). Ends q.source (g.S.Source.seen c.answer_lines.new.source) q.sink (g.K.Sink.seen c.answer_lines.new.sink) c.answer_lines.new.held c.answer_lines.new.piece.items (session_of c.answer_lines.new.says c.answer_lines.new.space) (Ok x)) c.in-Operation.is
    (c.in_ok-answer_lines.ensures.ends q.source q.sink (opened_talked q.source (g.S.Source.seen c.args.source.now) q.sink (g.K.Sink.seen c.args.sink.now) c.args.held.now c.args.piece.now.items c.operate.new.piece.items c.args.says.now.count so c.args.line.now
    c.in_ok-live.live c.operate.new.self is c.in_ok-operate.ensures.now c.in_ok-operate.ensures.text q.talked)) in
    let clash : false ≡ true = subst (λ (o : Option Opened). IsSome o) ends.1 (c.in_ok-answer_lines.ensures.open refl) in
    cc
