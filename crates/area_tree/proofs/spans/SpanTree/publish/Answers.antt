-- For `SpanTree::publish`: the tree is low, and a publish keeps it.
use Rattle.std.proofs.Common.{◌≡◌, ◌≤◌, ◌∙◌, true, ◌+◌, ◌*◌, List, length, arith, sym, ap, subst}
use Rattle.maple_node.specs.Trees.{Pair}
use Rattle.area_tree.specs.SpanTrees.{ArePairs}
use Rattle.area_tree.proofs.Counts.{writers_low}
use Rattle.area_tree.proofs.SpanFacts.{built_pairs}
use Rattle.area_tree.proofs.Publishing.{published_shown, published_kept, published_elapsed}
use Rattle.area_tree.proofs.spans.SpanTree.publish.Goals as goal

pub publish_tree-requires-clause-height : goal.publish_tree-requires-clause-height
publish_tree-requires-clause-height c =
    let fields = c.self.inside in
    let kept = c.self.invariant in
    writers_low fields.writer fields.tree fields.areas kept.tree kept.few_pairs kept.few_areas

pub invariant_of-self : goal.invariant_of-self
invariant_of-self c =
    let told = c.publish_tree.ensures in
    published_kept c.self.inside c.publish_tree.new.writer _ told.table
    (record { view = told.view; free = told.lists.0; left = told.lists.1; built = told.still }) c.self.invariant

pub returns-clause-elapsed : goal.returns-clause-elapsed
returns-clause-elapsed c =
    let told = c.publish_tree.ensures in
    let more = published_elapsed c.self.inside.writer c.publish_tree.new.writer c.self.inside.tree
    (record { view = told.view; free = told.lists.0; left = told.lists.1; built = told.still }) in
    omega (arith, more, ap (λ v. v.elapsed) c.self.view_is)

pub returns-clause-few : goal.returns-clause-few
returns-clause-few c =
    let told = c.publish_tree.ensures in
    let shown = published_shown c.self.inside.writer c.publish_tree.new.writer c.self.inside.tree
    (record { view = told.view; free = told.lists.0; left = told.lists.1; built = told.still }) in
    subst (λ (ps : List Pair). length ps ≤ c.self.inside.areas) (sym shown) c.self.invariant.few_pairs

pub returns-clause-pairs : goal.returns-clause-pairs
returns-clause-pairs c =
    let fields = c.self.inside in
    let kept = c.self.invariant in
    let told = c.publish_tree.ensures in
    let shown = published_shown fields.writer c.publish_tree.new.writer fields.tree
    (record { view = told.view; free = told.lists.0; left = told.lists.1; built = told.still }) in
    let roomy : fields.roomy ≡ true = ap (λ v. v.roomy) c.self.view_is ∙ c.requires.roomy in
    subst (λ (ps : List Pair). ArePairs (2 * fields.areas + 2) fields.tree.limit.0 0 ps) (sym shown)
    (built_pairs fields kept (kept.built roomy))
