-- The proof of `answer_lines`: a line that is found is answered, and takes the session on.
use Rattle.std.proofs.Common.{◌++◌, ◌∙◌, ℕ, List, [], length, take, Option, ap, refl, subst, sym, arith}
use Rattle.std.proofs.lemmas.List.{length-take-le}
use Rattle.live_session.specs.declared.answering.Stop.{Stop}
use Rattle.live_session.specs.Sessions.{line_answer, ending_text}
use Rattle.live_session.specs.Internal.Held.{HeldLineView, with_one_turn_less}
use Rattle.live_session.specs.Internal.Talking.{AnswersLine, session_of}
use Rattle.live_session.proofs.Reached.{reached_count}
use Rattle.live_session.proofs.Talks.{ends_err, talked_full_cut, talked_full_given, talked_no_memory, talked_reached, talking_on, told_cut, told_done, told_ending, told_some}
use Rattle.live_session.proofs.Lines.{end_found, ended_no_memory, line_answered, line_ends, line_found}
use Rattle.live_session.proofs.conversing.answer_lines.Goals as goal

pub find_line-requires : goal.find_line-requires
find_line-requires g c = (
  (session_of c.lines.says c.lines.space),
  talking_on (g.S.Source.seen c.args.source.now) (g.K.Sink.seen c.args.sink.now) (g.S.Source.seen c.lines.source) (g.K.Sink.seen c.lines.sink) c.args.held.now
      c.lines.held c.args.piece.now.items c.lines.piece.items (session_of c.args.says.now c.args.space.now) (session_of c.lines.says c.lines.space) c.requires
      c.lines.invariant.talked,
)

pub returns-in_err-len-clause-ends : goal.returns-in_err-len-clause-ends
returns-in_err-len-clause-ends g c = λ s k t.
    ends_err s (g.S.Source.seen c.find_line.new.source) k (g.K.Sink.seen c.find_line.new.sink) c.find_line.new.self c.find_line.new.piece.items (session_of c.lines.says c.lines.space) c.from_residual.result _
    c.from_residual.ensures.1 (c.in_err-len.ensures.found s k (session_of c.lines.says c.lines.space) (c.lines.invariant.talked s k t))

pub slice_bounds-answer_line-end : goal.slice_bounds-answer_line-end
slice_bounds-answer_line-end g c =
    let q = c.requires in
    let found = line_found q.source (g.S.Source.seen c.find_line.new.source) q.sink (g.K.Sink.seen c.find_line.new.sink) c.find_line.new.self c.find_line.new.piece.items (session_of c.lines.says c.lines.space) c.in_ok-len.field-0 c.in-Some.len c.in-Some.is
    (c.in_ok-len.ensures.found q.source q.sink (session_of c.lines.says c.lines.space) (c.lines.invariant.talked q.source q.sink q.talked)) in
    sym (length-take-le c.in-Some.len c.bytes.result.now (omega (arith, found.1.within, ap (λ (b : List ℕ). length b) c.bytes.ensures)))

pub answer_line-requires : goal.answer_line-requires
answer_line-requires g c =
    let q = c.requires in
    let found = line_found q.source (g.S.Source.seen c.find_line.new.source) q.sink (g.K.Sink.seen c.find_line.new.sink) c.find_line.new.self c.find_line.new.piece.items (session_of c.lines.says c.lines.space) c.in_ok-len.field-0 c.in-Some.len c.in-Some.is
    (c.in_ok-len.ensures.found q.source q.sink (session_of c.lines.says c.lines.space) (c.lines.invariant.talked q.source q.sink q.talked)) in
    talked_reached q.source (g.S.Source.seen c.find_line.new.source) q.sink (g.K.Sink.seen c.find_line.new.sink) c.find_line.new.self c.find_line.new.piece.items (session_of c.lines.says c.lines.space) found.0 found.2 found.3

pub returns-in_err-stop-clause-ends : goal.returns-in_err-stop-clause-ends
returns-in_err-stop-clause-ends g c = λ s k t.
    let found = line_found s (g.S.Source.seen c.find_line.new.source) k (g.K.Sink.seen c.find_line.new.sink) c.find_line.new.self c.find_line.new.piece.items (session_of c.lines.says c.lines.space) c.in_ok-len.field-0 c.in-Some.len c.in-Some.is
    (c.in_ok-len.ensures.found s k (session_of c.lines.says c.lines.space) (c.lines.invariant.talked s k t)) in
    ends_err s (g.S.Source.seen c.find_line.new.source) k (g.K.Sink.seen c.find_line.new.sink) c.find_line.new.self c.answer_line.new.piece.items (session_of c.answer_line.new.says c.answer_line.new.space) c.from_residual-in_err-stop.result _
    c.from_residual-in_err-stop.ensures.1
    (talked_no_memory s (g.S.Source.seen c.find_line.new.source) k (g.K.Sink.seen c.find_line.new.sink) (with_one_turn_less c.find_line.new.self) c.find_line.new.piece.items (session_of c.lines.says c.lines.space) found.0 (omega (arith, found.1.within)))

pub pass-requires : goal.pass-requires
pass-requires g c =
    let q = c.requires in
    let found = line_found q.source (g.S.Source.seen c.find_line.new.source) q.sink (g.K.Sink.seen c.find_line.new.sink) c.find_line.new.self c.find_line.new.piece.items (session_of c.lines.says c.lines.space) c.in_ok-len.field-0 c.in-Some.len c.in-Some.is
    (c.in_ok-len.ensures.found q.source q.sink (session_of c.lines.says c.lines.space) (c.lines.invariant.talked q.source q.sink q.talked)) in
    found.1.within

pub returns-in-Some-stop-clause-ends : goal.returns-in-Some-stop-clause-ends
returns-in-Some-stop-clause-ends g c = λ s k t.
    let found = line_found s (g.S.Source.seen c.find_line.new.source) k (g.K.Sink.seen c.find_line.new.sink) c.find_line.new.self c.find_line.new.piece.items (session_of c.lines.says c.lines.space) c.in_ok-len.field-0 c.in-Some.len c.in-Some.is
    (c.in_ok-len.ensures.found s k (session_of c.lines.says c.lines.space) (c.lines.invariant.talked s k t)) in
    line_ends s (g.S.Source.seen c.find_line.new.source) k (g.K.Sink.seen c.find_line.new.sink) c.find_line.new.self c.pass.new.self c.find_line.new.piece.items c.answer_line.new.piece.items
    (take c.in-Some.len c.bytes.result.now) (session_of c.lines.says c.lines.space) (session_of c.answer_line.new.says c.answer_line.new.space) c.in-Some.len c.in-Some-stop.stop found.0 found.1 found.2
    (ap (λ (b : List ℕ). take c.in-Some.len b) c.bytes.ensures) c.pass.ensures
    (subst (λ (o : Option Stop). AnswersLine (line_answer (session_of c.lines.says c.lines.space) (take c.in-Some.len c.bytes.result.now)) c.find_line.new.piece.items
    c.answer_line.new.piece.items (session_of c.answer_line.new.says c.answer_line.new.space) o) c.in-Some-stop.is c.in_ok-stop.ensures.answers)

pub give_full-requires : goal.give_full-requires
give_full-requires g c =
    let q = c.requires in
    let found = line_found q.source (g.S.Source.seen c.find_line.new.source) q.sink (g.K.Sink.seen c.find_line.new.sink) c.find_line.new.self c.find_line.new.piece.items (session_of c.lines.says c.lines.space) c.in_ok-len.field-0 c.in-Some.len c.in-Some.is
    (c.in_ok-len.ensures.found q.source q.sink (session_of c.lines.says c.lines.space) (c.lines.invariant.talked q.source q.sink q.talked)) in
    omega (arith, found.0.gave.calm, q.sink_room)

pub lines-preserved : goal.lines-preserved
lines-preserved g c = record {
  talked = λ s k t.
      let found = line_found s (g.S.Source.seen c.find_line.new.source) k (g.K.Sink.seen c.find_line.new.sink) c.find_line.new.self c.find_line.new.piece.items (session_of c.lines.says c.lines.space) c.in_ok-len.field-0 c.in-Some.len c.in-Some.is
      (c.in_ok-len.ensures.found s k (session_of c.lines.says c.lines.space) (c.lines.invariant.talked s k t)) in
      talked_full_given s (g.S.Source.seen c.find_line.new.source) k (g.K.Sink.seen c.find_line.new.sink) (g.K.Sink.seen c.give_full.new.sink) c.pass.new.self c.answer_line.new.piece.items c.give_full.new.piece.items (session_of c.answer_line.new.says c.answer_line.new.space)
      (line_answered s (g.S.Source.seen c.find_line.new.source) k (g.K.Sink.seen c.find_line.new.sink) c.find_line.new.self c.pass.new.self c.find_line.new.piece.items c.answer_line.new.piece.items
      (take c.in-Some.len c.bytes.result.now) (session_of c.lines.says c.lines.space) (session_of c.answer_line.new.says c.answer_line.new.space) c.in-Some.len found.0 found.1 found.2
      (ap (λ (b : List ℕ). take c.in-Some.len b) c.bytes.ensures) c.pass.ensures
      (subst (λ (o : Option Stop). AnswersLine (line_answer (session_of c.lines.says c.lines.space) (take c.in-Some.len c.bytes.result.now)) c.find_line.new.piece.items
      c.answer_line.new.piece.items (session_of c.answer_line.new.says c.answer_line.new.space) o) c.in_default-stop.is c.in_ok-stop.ensures.answers))
      c.in_ok-give_full.ensures.printing;
  later = omega (arith, c.lines.invariant.later, c.in_ok-len.ensures.turns.0, ap (λ (h : HeldLineView). h.turns) c.pass.ensures);
  stays = λ some. c.in_ok-stop.ensures.open (c.lines.invariant.stays some);
}

pub returns-in_err-give_full-clause-ends : goal.returns-in_err-give_full-clause-ends
returns-in_err-give_full-clause-ends g c = λ s k t.
    let found = line_found s (g.S.Source.seen c.find_line.new.source) k (g.K.Sink.seen c.find_line.new.sink) c.find_line.new.self c.find_line.new.piece.items (session_of c.lines.says c.lines.space) c.in_ok-len.field-0 c.in-Some.len c.in-Some.is
    (c.in_ok-len.ensures.found s k (session_of c.lines.says c.lines.space) (c.lines.invariant.talked s k t)) in
    ends_err s (g.S.Source.seen c.find_line.new.source) k (g.K.Sink.seen c.give_full.new.sink) c.pass.new.self c.give_full.new.piece.items (session_of c.answer_line.new.says c.answer_line.new.space) c.from_residual-in_err-give_full.result _
    c.from_residual-in_err-give_full.ensures.1
    (talked_full_cut s (g.S.Source.seen c.find_line.new.source) k (g.K.Sink.seen c.find_line.new.sink) (g.K.Sink.seen c.give_full.new.sink) c.pass.new.self c.answer_line.new.piece.items (session_of c.answer_line.new.says c.answer_line.new.space) _
    (line_answered s (g.S.Source.seen c.find_line.new.source) k (g.K.Sink.seen c.find_line.new.sink) c.find_line.new.self c.pass.new.self c.find_line.new.piece.items c.answer_line.new.piece.items
    (take c.in-Some.len c.bytes.result.now) (session_of c.lines.says c.lines.space) (session_of c.answer_line.new.says c.answer_line.new.space) c.in-Some.len found.0 found.1 found.2
    (ap (λ (b : List ℕ). take c.in-Some.len b) c.bytes.ensures) c.pass.ensures
    (subst (λ (o : Option Stop). AnswersLine (line_answer (session_of c.lines.says c.lines.space) (take c.in-Some.len c.bytes.result.now)) c.find_line.new.piece.items
    c.answer_line.new.piece.items (session_of c.answer_line.new.says c.answer_line.new.space) o) c.in_default-stop.is c.in_ok-stop.ensures.answers))
    (omega (arith, found.2, ap (λ (h : HeldLineView). h.turns) c.pass.ensures)) c.in_err-give_full.ensures.printing)

pub push_ending-requires : goal.push_ending-requires
push_ending-requires g c =
    let q = c.requires in
    let ended = end_found q.source (g.S.Source.seen c.find_line.new.source) q.sink (g.K.Sink.seen c.find_line.new.sink) c.find_line.new.self c.find_line.new.piece.items (session_of c.lines.says c.lines.space) c.in_ok-len.field-0 c.in_default.is
    (c.in_ok-len.ensures.found q.source q.sink (session_of c.lines.says c.lines.space) (c.lines.invariant.talked q.source q.sink q.talked)) in
    reached_count (session_of c.lines.says c.lines.space) (talked_reached q.source (g.S.Source.seen c.find_line.new.source) q.sink (g.K.Sink.seen c.find_line.new.sink) c.find_line.new.self c.find_line.new.piece.items (session_of c.lines.says c.lines.space) ended.0
    (omega (arith, c.in_ok-len.ensures.turns.0)) c.in_ok-len.ensures.turns.1)

pub returns-in_err-push_ending-clause-ends : goal.returns-in_err-push_ending-clause-ends
returns-in_err-push_ending-clause-ends g c = λ s k t.
    let ended = end_found s (g.S.Source.seen c.find_line.new.source) k (g.K.Sink.seen c.find_line.new.sink) c.find_line.new.self c.find_line.new.piece.items (session_of c.lines.says c.lines.space) c.in_ok-len.field-0 c.in_default.is
    (c.in_ok-len.ensures.found s k (session_of c.lines.says c.lines.space) (c.lines.invariant.talked s k t)) in
    ends_err s (g.S.Source.seen c.find_line.new.source) k (g.K.Sink.seen c.find_line.new.sink) c.find_line.new.self c.push_ending.new.piece.items (session_of c.lines.says c.lines.space) c.from_residual-in_err-push_ending.result _
    c.from_residual-in_err-push_ending.ensures.1
    (ended_no_memory s (g.S.Source.seen c.find_line.new.source) k (g.K.Sink.seen c.find_line.new.sink) c.find_line.new.self c.find_line.new.piece.items (session_of c.lines.says c.lines.space) ended.0
    c.in_ok-len.ensures.turns.1 (omega (arith, c.in_err-push_ending.ensures.memory refl, ap length c.bytes-2.ensures)))

pub give_answers-requires : goal.give_answers-requires
give_answers-requires g c =
    let q = c.requires in
    let ended = end_found q.source (g.S.Source.seen c.find_line.new.source) q.sink (g.K.Sink.seen c.find_line.new.sink) c.find_line.new.self c.find_line.new.piece.items (session_of c.lines.says c.lines.space) c.in_ok-len.field-0 c.in_default.is
    (c.in_ok-len.ensures.found q.source q.sink (session_of c.lines.says c.lines.space) (c.lines.invariant.talked q.source q.sink q.talked)) in
    omega (arith, ended.0.gave.calm, q.sink_room)

pub returns-in_err-give_answers-clause-ends : goal.returns-in_err-give_answers-clause-ends
returns-in_err-give_answers-clause-ends g c = λ s k t.
    let ended = end_found s (g.S.Source.seen c.find_line.new.source) k (g.K.Sink.seen c.find_line.new.sink) c.find_line.new.self c.find_line.new.piece.items (session_of c.lines.says c.lines.space) c.in_ok-len.field-0 c.in_default.is
    (c.in_ok-len.ensures.found s k (session_of c.lines.says c.lines.space) (c.lines.invariant.talked s k t)) in
    let told = told_ending s (g.S.Source.seen c.find_line.new.source) k (g.K.Sink.seen c.find_line.new.sink) (with_one_turn_less c.find_line.new.self) c.find_line.new.piece.items c.push_ending.new.piece.items (session_of c.lines.says c.lines.space) ended.0 ended.3
    (c.in_ok-push_ending.ensures.text ∙ ap (λ (b : List ℕ). c.find_line.new.piece.items ++ ending_text (session_of c.lines.says c.lines.space) b) c.bytes-2.ensures) in
    ends_err s (g.S.Source.seen c.find_line.new.source) k (g.K.Sink.seen c.give_answers.new.sink) c.find_line.new.self c.give_answers.new.piece.items (session_of c.lines.says c.lines.space) c.from_residual-in_err-give_answers.result _
    c.from_residual-in_err-give_answers.ensures.1
    (told_cut s (g.S.Source.seen c.find_line.new.source) k (g.K.Sink.seen c.find_line.new.sink) (g.K.Sink.seen c.give_answers.new.sink) c.push_ending.new.piece.items [] c.push_ending.new.piece.items _ told.0
    (told_some s (g.S.Source.seen c.find_line.new.source) k (g.K.Sink.seen c.find_line.new.sink) c.push_ending.new.piece.items told.0 c.in_err-give_answers.ensures.1) refl
    c.in_err-give_answers.ensures.0)

pub returns-clause-ends : goal.returns-clause-ends
returns-clause-ends g c = λ s k t.
    let ended = end_found s (g.S.Source.seen c.find_line.new.source) k (g.K.Sink.seen c.find_line.new.sink) c.find_line.new.self c.find_line.new.piece.items (session_of c.lines.says c.lines.space) c.in_ok-len.field-0 c.in_default.is
    (c.in_ok-len.ensures.found s k (session_of c.lines.says c.lines.space) (c.lines.invariant.talked s k t)) in
    let told = told_ending s (g.S.Source.seen c.find_line.new.source) k (g.K.Sink.seen c.find_line.new.sink) (with_one_turn_less c.find_line.new.self) c.find_line.new.piece.items c.push_ending.new.piece.items (session_of c.lines.says c.lines.space) ended.0 ended.3
    (c.in_ok-push_ending.ensures.text ∙ ap (λ (b : List ℕ). c.find_line.new.piece.items ++ ending_text (session_of c.lines.says c.lines.space) b) c.bytes-2.ensures) in
    told_done s (g.S.Source.seen c.find_line.new.source) k (g.K.Sink.seen c.find_line.new.sink) (g.K.Sink.seen c.give_answers.new.sink) c.push_ending.new.piece.items told ended.2
    c.in_ok-give_answers.ensures.0
