-- For `SpanTree::facts`: the tree was built, or has no pairs.
use Rattle.std.proofs.Common.{◌+◌, ◌*◌, ◌∙◌, length, arith, ap, subst}
use Rattle.area_tree.specs.SpanTrees.{SpanView, ArePairs}
use Rattle.area_tree.proofs.Scanning.{pins_long}
use Rattle.area_tree.proofs.SpanFacts.{writers_pairs}
use Rattle.area_tree.proofs.spans.SpanTree.facts.Goals as goal

pub returns-clause-pairs : goal.returns-clause-pairs
returns-clause-pairs c =
    subst (λ (v : SpanView). ArePairs (2 * v.areas + 2) v.limit 0 v.pairs) c.self.view_is
    (writers_pairs c.self.inside c.self.invariant c.self.invariant.tree)

pub returns-clause-readers : goal.returns-clause-readers
returns-clause-readers c =
    let fields = c.self.inside in
    let size = ap (λ s. s.readers) (fields.writer.writer_state.kept.size_is ∙ c.self.invariant.table.size_is) in
    let some = fields.nodes.sized.fits.some_readers in
    omega (arith, some, size, pins_long fields.writer, ap (λ (v : SpanView). length v.pins) c.self.view_is)
