-- For `SpanTree::elapsed`: there is one greatest tree.
use Rattle.std.proofs.Common.{◌∙◌, ap}
use Rattle.area_tree.proofs.SpanFacts.{elapsed_is}
use Rattle.area_tree.proofs.spans.SpanTree.elapsed.Goals as goal

pub returns-clause-elapsed : goal.returns-clause-elapsed
returns-clause-elapsed c =
    let told = c.settled.ensures in
    elapsed_is c.self.inside.writer c.settled.result told.most told.none told.greatest ∙ ap (λ v. v.elapsed) c.self.view_is
