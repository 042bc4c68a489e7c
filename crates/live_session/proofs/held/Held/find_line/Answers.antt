-- The proof of `find_line`: a turn, what is kept, what was given and what was read keep how far the session is.
use Rattle.std.proofs.Common.{ℕ, ◌≡◌, ◌+◌, ◌∙◌, Bool, true, false, List, [], Ok, ap, length, subst, sym, arith}
use Rattle.std.proofs.lemmas.List.{length-take}
use Rattle.live_session.specs.declared.held.TheConstants.{MOST_KEPT}
use Rattle.live_session.specs.Internal.Held.{HeldLineView, HasNoNewline, TakesMore, kept, with_one_turn_less}
use Rattle.live_session.specs.Internal.Talking.{Talked}
use Rattle.live_session.proofs.Newlines.{none_take}
use Rattle.live_session.proofs.Talks.{found_err, talked_all_given, talked_cut, talked_end, talked_err, talked_kept, talked_more, talked_too_many}
use Rattle.live_session.proofs.held.Held.find_line.Goals as goal

-- a turn was made, and a front is kept
turned : (now turn held : HeldLineView) → now ≡ record { bytes = kept turn.bytes; searched = length (kept turn.bytes); turns = turn.turns }
    → turn ≡ record { bytes = held.bytes; searched = held.searched; turns = held.turns + 1 }
    → now ≡ record { bytes = kept held.bytes; searched = length (kept held.bytes); turns = held.turns + 1 }
turned now turn held is made = is ∙ ap (λ (h : HeldLineView). record { bytes = kept h.bytes; searched = length (kept h.bytes); turns = h.turns }) made

pub give_answers-requires : goal.give_answers-requires
give_answers-requires g c =
    let q = c.requires.1 in
    let now = c.turns.invariant.talked q.source q.sink c.requires.0 q.talked in
    omega (arith, now.gave.calm, q.sink_room)

pub take_more-requires-clause-count_has_room : goal.take_more-requires-clause-count_has_room
take_more-requires-clause-count_has_room g c =
    let q = c.requires.1 in
    let now = c.turns.invariant.talked q.source q.sink c.requires.0 q.talked in
    omega (arith, now.calm, q.source_room)

pub take_more-requires-clause-kept : goal.take_more-requires-clause-kept
take_more-requires-clause-kept g c =
    omega (arith, ap (λ (h : HeldLineView). length h.bytes) c.keep_front.ensures, length-take MOST_KEPT c.turn.new.self.bytes)

pub returns-in_err-give_answers-clause-found : goal.returns-in_err-give_answers-clause-found
returns-in_err-give_answers-clause-found g c = λ s k session t.
    found_err s (g.S.Source.seen c.turns.source) k (g.K.Sink.seen c.give_answers.new.sink) c.keep_front.new.self c.give_answers.new.piece.items session c.from_residual.result _
    c.from_residual.ensures.1
    (talked_cut s (g.S.Source.seen c.turns.source) k (g.K.Sink.seen c.turns.sink) (g.K.Sink.seen c.give_answers.new.sink) c.turns.self c.turns.piece.items session _
    (c.turns.invariant.talked s k session t) c.in_err-give_answers.ensures.0 c.in_err-give_answers.ensures.1)

pub returns-in_err-take_more-clause-found : goal.returns-in_err-take_more-clause-found
returns-in_err-take_more-clause-found g c = λ s k session t.
    let none : HasNoNewline c.turns.self.bytes = subst (λ (h : HeldLineView). HasNoNewline h.bytes) c.turn.ensures c.in_default.ensures in
    let given = talked_all_given s (g.S.Source.seen c.turns.source) k (g.K.Sink.seen c.turns.sink) (g.K.Sink.seen c.give_answers.new.sink) c.turns.self
    c.turns.piece.items session (c.turns.invariant.talked s k session t) c.in_ok-give_answers.ensures.0 in
    found_err s (g.S.Source.seen c.take_more.new.source) k (g.K.Sink.seen c.give_answers.new.sink) c.take_more.new.self c.give_answers.new.piece.items session
    c.from_residual-in_err-take_more.result _ c.from_residual-in_err-take_more.ensures.1
    (talked_err _ s (g.S.Source.seen c.turns.source) (g.S.Source.seen c.take_more.new.source) k (g.K.Sink.seen c.give_answers.new.sink) c.turns.self
    c.keep_front.new.self c.take_more.new.self session given none c.in_err-take_more.ensures)

pub returns-then-not-branch-clause-found : goal.returns-then-not-branch-clause-found
returns-then-not-branch-clause-found g c = λ s k session t.
    let none : HasNoNewline c.turns.self.bytes = subst (λ (h : HeldLineView). HasNoNewline h.bytes) c.turn.ensures c.in_default.ensures in
    let now : HeldLineView = record { bytes = kept c.turns.self.bytes; searched = length (kept c.turns.self.bytes); turns = c.turns.self.turns } in
    let is = turned c.keep_front.new.self c.turn.new.self c.turns.self c.keep_front.ensures c.turn.ensures in
    let given = talked_kept s (g.S.Source.seen c.turns.source) k (g.K.Sink.seen c.give_answers.new.sink) c.turns.self [] session
    (talked_all_given s (g.S.Source.seen c.turns.source) k (g.K.Sink.seen c.turns.sink) (g.K.Sink.seen c.give_answers.new.sink) c.turns.self
    c.turns.piece.items session (c.turns.invariant.talked s k session t) c.in_ok-give_answers.ensures.0) none in
    let end : TakesMore (g.S.Source.seen c.turns.source) (g.S.Source.seen c.take_more.new.source) c.keep_front.new.self c.take_more.new.self (Ok false) =
    subst (λ (b : Bool). TakesMore (g.S.Source.seen c.turns.source) (g.S.Source.seen c.take_more.new.source) c.keep_front.new.self c.take_more.new.self (Ok b))
    c.if-not-branch.true c.in_ok-take_more.ensures in (
      subst (λ (p : List ℕ). Talked s (g.S.Source.seen c.take_more.new.source) k (g.K.Sink.seen c.give_answers.new.sink) (with_one_turn_less c.take_more.new.self) p session)
          (sym c.in_ok-give_answers.ensures.1)
          (talked_end s (g.S.Source.seen c.turns.source) (g.S.Source.seen c.take_more.new.source) k (g.K.Sink.seen c.give_answers.new.sink) now
          c.keep_front.new.self c.take_more.new.self [] session given is end),
      c.in_ok-give_answers.ensures.1,
      end.0,
      subst (λ (h : HeldLineView). HasNoNewline h.bytes) (sym (end.3 ∙ is)) (none_take c.turns.self.bytes MOST_KEPT none),
    )

pub turns-preserved : goal.turns-preserved
turns-preserved g c =
    let none : HasNoNewline c.turns.self.bytes = subst (λ (h : HeldLineView). HasNoNewline h.bytes) c.turn.ensures c.in_default.ensures in
    let now : HeldLineView = record { bytes = kept c.turns.self.bytes; searched = length (kept c.turns.self.bytes); turns = c.turns.self.turns } in
    let is = turned c.keep_front.new.self c.turn.new.self c.turns.self c.keep_front.ensures c.turn.ensures in
    let more : TakesMore (g.S.Source.seen c.turns.source) (g.S.Source.seen c.take_more.new.source) c.keep_front.new.self c.take_more.new.self (Ok true) =
    subst (λ (b : Bool). TakesMore (g.S.Source.seen c.turns.source) (g.S.Source.seen c.take_more.new.source) c.keep_front.new.self c.take_more.new.self (Ok b))
    c.if-not-branch.false c.in_ok-take_more.ensures in
    record {
      talked = λ s k session t.
          let given = talked_kept s (g.S.Source.seen c.turns.source) k (g.K.Sink.seen c.give_answers.new.sink) c.turns.self [] session
          (talked_all_given s (g.S.Source.seen c.turns.source) k (g.K.Sink.seen c.turns.sink) (g.K.Sink.seen c.give_answers.new.sink) c.turns.self
          c.turns.piece.items session (c.turns.invariant.talked s k session t) c.in_ok-give_answers.ensures.0) none in
          subst (λ (p : List ℕ). Talked s (g.S.Source.seen c.take_more.new.source) k (g.K.Sink.seen c.give_answers.new.sink) c.take_more.new.self p session)
          (sym c.in_ok-give_answers.ensures.1)
          (talked_more s (g.S.Source.seen c.turns.source) (g.S.Source.seen c.take_more.new.source) k (g.K.Sink.seen c.give_answers.new.sink) now
          c.keep_front.new.self c.take_more.new.self [] session given is more);
      later = omega (arith, ap (λ (h : HeldLineView). h.turns) is, ap (λ (h : HeldLineView). h.turns) more.3, c.turns.invariant.later);
    }

pub returns-clause-found : goal.returns-clause-found
returns-clause-found g c = λ s k session t.
    talked_too_many s (g.S.Source.seen c.turns.source) k (g.K.Sink.seen c.turns.sink) c.turns.self c.turns.piece.items session (c.turns.invariant.talked s k session t)
    (omega (arith, c.turns-test.false, ap (λ (h : HeldLineView). h.turns) c.self.view_is))
