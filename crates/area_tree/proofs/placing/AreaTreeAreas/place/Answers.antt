-- For `AreaTree::place`: free pages among the pairs are free among the areas.
use Rattle.std.proofs.Common.{ap, ◌∙◌}
use Rattle.area_rules.specs.Placement.{place_low}
use Rattle.area_tree.specs.AreaTrees.{AreaTreeView, areas_of}
use Rattle.area_tree.proofs.placing.AreaTreeAreas.place.Goals as goal

pub returns : goal.returns
returns c =
    c.placed.ensures.place c.self.inside.records c.self.invariant.spans
    ∙ ap (λ (v : AreaTreeView). place_low v.bounds (areas_of v) c.args.len) c.self.view_is
