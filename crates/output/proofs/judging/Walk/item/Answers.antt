-- The proof of `Walk::item`: where the text ends, where no item can come, where the next one differs, and where it agrees.
use Rattle.std.proofs.Common.{◌==◌, ◌∙◌, sym, ap, subst, refl, length, eqb-true, arith}
use Rattle.std.proofs.lemmas.Bool.{false≢true}
use Rattle.output.specs.declared.stop.Stop.{Stop}
use Rattle.output.specs.Judgements.{items_text}
use Rattle.output.specs.Internal.Judging.{IsStopRight, trace_over}
use Rattle.output.proofs.Walked.{walked_room, counts_room, walked_more}
use Rattle.output.proofs.Stopped.{stop_short, stop_none, stop_order, stop_item, tells_item, ran_from, passed_version, passed_lowest, none_long, err_is, called_no}
use Rattle.output.proofs.judging.Walk.item.Goals as goal

pub returns-then-is_at_end-clause-bad : goal.returns-then-is_at_end-clause-bad
returns-then-is_at_end-clause-bad c = λ text walked.
    subst (λ (stop : Stop). IsStopRight (trace_over c.args.config.now c.args.lines.now) text stop) (sym c.bad.ensures)
    (stop_short (trace_over c.args.config.now c.args.lines.now) text c.args.self.now walked c.requires.left
    (none_long c.args.self.now.given.rest.now (eqb-true (length c.args.self.now.given.rest.now) 0 (sym c.if-is_at_end.ensures))))

pub returns-in_default-clause-bad : goal.returns-in_default-clause-bad
returns-in_default-clause-bad c = λ text walked.
    subst (λ (stop : Stop). IsStopRight (trace_over c.args.config.now c.args.lines.now) text stop) (sym c.bad-in_default.ensures)
    (stop_none (trace_over c.args.config.now c.args.lines.now) text c.args.self.now walked c.requires.left
    (λ none. false≢true (c.if-is_at_end.ensures ∙ ap (λ l. length l == 0) none)) (c.in_default.ensures text walked))

pub run_op-answer-requires : goal.run_op-answer-requires
run_op-answer-requires c = record { room = (walked_room (trace_over c.args.config.now c.args.lines.now) c.requires.walked.0 c.args.self.now c.requires.walked.1).0 }

pub returns-then-not-is_in_order-clause-bad : goal.returns-then-not-is_in_order-clause-bad
returns-then-not-is_in_order-clause-bad c = λ text walked.
    subst (λ (stop : Stop). IsStopRight (trace_over c.args.config.now c.args.lines.now) text stop) (sym c.bad-then-not-is_in_order.ensures)
    (stop_order (trace_over c.args.config.now c.args.lines.now) text c.args.self.now walked c.requires.left
    (λ none. false≢true (c.if-is_at_end.ensures ∙ ap (λ l. length l == 0) none)) c.in-Some.line c.in-Some.caller
    c.run_op-answer.new.space.space.areas c.run_op-answer.result (c.in-Some.ensures text walked) c.run_op-answer.ensures.answer
    (λ order. false≢true (c.if-not-is_in_order.ensures.1
    (λ read. order (called_no _ c.run_op-answer.new.space.space.areas c.run_op-answer.result c.is_call-is_call.ensures read)))))

pub version_with-version-requires : goal.version_with-version-requires
version_with-version-requires c =
    let room = (walked_room (trace_over c.args.config.now c.args.lines.now) c.requires.walked.0 c.args.self.now c.requires.walked.1).1 in
    omega arith

pub returns-in_err-expect_item-clause-bad : goal.returns-in_err-expect_item-clause-bad
returns-in_err-expect_item-clause-bad c = λ text walked.
    err_is _ c.in_err-expect_item.field-0.0 (IsStopRight (trace_over c.args.config.now c.args.lines.now) text) c.from_residual.ensures.1
    (stop_item (trace_over c.args.config.now c.args.lines.now) text c.args.self.now walked c.requires.left
    (λ none. false≢true (c.if-is_at_end.ensures ∙ ap (λ l. length l == 0) none)) c.in-Some.line c.in-Some.caller c.version_with-version.result
    c.run_op-answer.new.space.space.areas c.run_op-answer.result (c.in-Some.ensures text walked)
    (ran_from (trace_over c.args.config.now c.args.lines.now) c.args.self.now c.in-Some.line c.in-Some.caller c.version_with-version.result c.run_op-answer.new.space.space.areas
    c.run_op-answer.result c.is_call-is_call.result c.run_op-answer.ensures.answer
    c.is_call-is_call.ensures c.version_with-version.ensures (c.if-not-is_in_order.ensures.0 refl))
    c.in_err-expect_item.field-0.0 (c.in_err-expect_item.ensures.bad text (items_text (trace_over c.args.config.now c.args.lines.now) walked.items) walked.read))

pub returns-in_err-expect_item-clause-memory : goal.returns-in_err-expect_item-clause-memory
returns-in_err-expect_item-clause-memory c = λ lacks text walked.
    tells_item (trace_over c.args.config.now c.args.lines.now) text c.args.self.now walked c.in-Some.line c.in-Some.caller c.version_with-version.result
    c.run_op-answer.new.space.space.areas c.run_op-answer.result (c.in-Some.ensures text walked)
    (ran_from (trace_over c.args.config.now c.args.lines.now) c.args.self.now c.in-Some.line c.in-Some.caller c.version_with-version.result c.run_op-answer.new.space.space.areas
    c.run_op-answer.result c.is_call-is_call.result c.run_op-answer.ensures.answer
    c.is_call-is_call.ensures c.version_with-version.ensures (c.if-not-is_in_order.ensures.0 refl))

pub pass-requires-clause-caller : goal.pass-requires-clause-caller
pass-requires-clause-caller c =
    (counts_room (trace_over c.args.config.now c.args.lines.now) c.requires.walked.0 c.args.self.now c.requires.walked.1 c.in-Some.line c.in-Some.caller
    (c.in-Some.ensures c.requires.walked.0 c.requires.walked.1)).0

pub pass-requires-clause-room : goal.pass-requires-clause-room
pass-requires-clause-room c =
    (counts_room (trace_over c.args.config.now c.args.lines.now) c.requires.walked.0 c.args.self.now c.requires.walked.1 c.in-Some.line c.in-Some.caller
    (c.in-Some.ensures c.requires.walked.0 c.requires.walked.1)).1

pub pass-requires-clause-version : goal.pass-requires-clause-version
pass-requires-clause-version c =
    let room = (walked_room (trace_over c.args.config.now c.args.lines.now) c.requires.walked.0 c.args.self.now c.requires.walked.1).1 in
    omega arith

pub returns-clause-ok : goal.returns-clause-ok
returns-clause-ok c = λ text walked.
    walked_more (trace_over c.args.config.now c.args.lines.now) text c.args.self.now _ walked (c.requires.left walked.items walked.progress)
    (λ none. false≢true (c.if-is_at_end.ensures ∙ ap (λ l. length l == 0) none)) c.in-Some.line c.in-Some.caller c.version_with-version.result
    c.run_op-answer.new.space.space.areas c.run_op-answer.result (c.in-Some.ensures text walked)
    (ran_from (trace_over c.args.config.now c.args.lines.now) c.args.self.now c.in-Some.line c.in-Some.caller c.version_with-version.result c.run_op-answer.new.space.space.areas
    c.run_op-answer.result c.is_call-is_call.result c.run_op-answer.ensures.answer
    c.is_call-is_call.ensures c.version_with-version.ensures (c.if-not-is_in_order.ensures.0 refl))
    (record {
      answered = c.pass.ensures.answered;
      lines = c.pass.ensures.lines;
      counted = passed_version _ _ _ _ c.pass.ensures.version c.version_with-version.ensures;
      lowest = passed_lowest _ _ c.run_op-answer.new.space.space.areas c.run_op-answer.result c.is_call-is_call.result c.is_call-is_call.ensures
          c.pass.ensures.lowest;
      space = c.run_op-answer.ensures.space;
      config = c.run_op-answer.ensures.config;
      objects = c.run_op-answer.ensures.objects;
      room = omega (arith, c.in_ok-expect_item.ensures.shrinks, walked.room);
      later = c.in_ok-expect_item.ensures.later;
    })
    (c.in_ok-expect_item.ensures.ok text (items_text (trace_over c.args.config.now c.args.lines.now) walked.items) walked.read)
