-- For `AreaTree::place_high`: free pages among the pairs are free among the areas.
use Rattle.std.proofs.Common.{ap, ◌∙◌}
use Rattle.area_rules.specs.Placement.{place_high}
use Rattle.area_tree.specs.AreaTrees.{AreaTreeView, areas_of}
use Rattle.area_tree.proofs.Fitting.{wide_found}
use Rattle.area_tree.proofs.placing.AreaTreeAreas.place_high.Goals as goal

pub returns : goal.returns
returns c =
    let fields = c.self.inside in
    wide_found fields.records fields.bounds c.args.len fields.tree.pairs c.highest.result c.self.invariant.spans c.highest.ensures.start
    ∙ ap (λ (v : AreaTreeView). place_high v.bounds (areas_of v) c.args.len) c.self.view_is
