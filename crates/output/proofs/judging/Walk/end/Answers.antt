-- The proof of `Walk::end`: the text differs from the final list, ends with it, or goes on.
use Rattle.output.specs.Judgements.{items_text}
use Rattle.output.specs.Internal.Judging.{trace_over}
use Rattle.output.proofs.Stopped.{end_right}
use Rattle.output.proofs.judging.Walk.end.Goals as goal

pub returns-clause-ok : goal.returns-clause-ok
returns-clause-ok c = λ text walked.
    (end_right (trace_over c.args.config.now c.args.lines.now) text c.args.self.now walked c.requires.ended c.expect_maps-listed.new.self c.expect_maps-listed.result
    c.expect_end.result (c.expect_maps-listed.ensures.ok text (items_text (trace_over c.args.config.now c.args.lines.now) walked.items) walked.read)
    (c.expect_maps-listed.ensures.bad text (items_text (trace_over c.args.config.now c.args.lines.now) walked.items) walked.read) c.expect_maps-listed.ensures.later
    c.expect_end.ensures).0

pub returns-clause-bad : goal.returns-clause-bad
returns-clause-bad c = λ text walked.
    (end_right (trace_over c.args.config.now c.args.lines.now) text c.args.self.now walked c.requires.ended c.expect_maps-listed.new.self c.expect_maps-listed.result
    c.expect_end.result (c.expect_maps-listed.ensures.ok text (items_text (trace_over c.args.config.now c.args.lines.now) walked.items) walked.read)
    (c.expect_maps-listed.ensures.bad text (items_text (trace_over c.args.config.now c.args.lines.now) walked.items) walked.read) c.expect_maps-listed.ensures.later
    c.expect_end.ensures).1
