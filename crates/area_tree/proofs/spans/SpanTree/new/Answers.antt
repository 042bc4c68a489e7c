-- For `SpanTree::new`: nothing was built yet.
use Rattle.std.proofs.Common.{arith, ap}
use Rattle.area_tree.proofs.Opening.{fresh_spans, fresh_view}
use Rattle.area_tree.proofs.spans.SpanTree.new.Goals as goal

pub invariant_of-result : goal.invariant_of-result
invariant_of-result c =
    fresh_spans c.args.areas c.args.writer c.in_ok-nodes.nodes c.new.result c.new-2.result c.requires.areas.0 c.requires.areas.1 c.requires.fresh
    c.in_ok-nodes.ensures c.new.ensures.root c.new.ensures.height
    (omega (arith, c.requires.limit, ap (λ p. p.0) c.new.ensures.limit))

pub returns : goal.returns
returns c =
    fresh_view c.args.areas c.args.writer c.in_ok-nodes.nodes c.new.result c.new-2.result c.args.limit c.new-2.ensures c.requires.fresh c.in_ok-nodes.ensures
    c.new.ensures.root c.new.ensures.height c.new.ensures.limit
