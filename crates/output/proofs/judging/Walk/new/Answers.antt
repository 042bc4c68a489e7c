-- The proof of `Walk::new`: the walk before the first item.
use Rattle.output.specs.Internal.Judging.{trace_over}
use Rattle.output.proofs.Walked.{walked_none}
use Rattle.output.proofs.judging.Walk.new.Goals as goal

pub returns : goal.returns
returns c =
    walked_none (trace_over c.args.config.now c.args.lines.now) c.args.text.now _ c.requires c.new.ensures.kept c.in_ok-new.ensures.first
    c.in_ok-new-2.ensures c.of.ensures.read c.of.ensures.room
