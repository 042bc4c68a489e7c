-- For `AreaTree::from`: the first pair above the page has the first area there.
use Rattle.std.proofs.Common.{ap, ◌∙◌}
use Rattle.split_merge.specs.Finding.{first_from}
use Rattle.area_tree.specs.AreaTrees.{AreaTreeView, areas_of}
use Rattle.area_tree.proofs.Finding.{shown_in, first_shown}
use Rattle.area_tree.proofs.placing.AreaTreeAreas.from.Goals as goal

pub returns : goal.returns
returns c =
    let fields = c.self.inside in
    c.shown_by.ensures
    ∙ ap (shown_in fields.records) c.next_slot.ensures.slot
    ∙ first_shown fields.records fields.tree.pairs c.args.page.0 c.self.invariant.spans
    ∙ ap (λ (v : AreaTreeView). first_from (areas_of v) c.args.page.0) c.self.view_is
