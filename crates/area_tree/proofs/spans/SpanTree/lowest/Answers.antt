-- For `SpanTree::lowest`: the tree has few levels, so few rows are read.
use Rattle.std.proofs.Common.{arith}
use Rattle.area_tree.proofs.Counts.{writers_low}
use Rattle.area_tree.proofs.spans.SpanTree.lowest.Goals as goal

pub returns-clause-reads : goal.returns-clause-reads
returns-clause-reads c =
    let fields = c.self.inside in
    let kept = c.self.invariant in
    let low = writers_low fields.writer fields.tree fields.areas kept.tree kept.few_pairs kept.few_areas in
    omega (arith, low, c.lowest.ensures.reads)
