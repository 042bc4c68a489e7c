-- For `AreaTree::before`: the last pair below the page has the last area there.
use Rattle.std.proofs.Common.{ap, ◌∙◌}
use Rattle.split_merge.specs.Finding.{last_before}
use Rattle.area_tree.specs.AreaTrees.{AreaTreeView, areas_of}
use Rattle.area_tree.proofs.Finding.{shown_in, before_shown}
use Rattle.area_tree.proofs.placing.AreaTreeAreas.before.Goals as goal

pub returns : goal.returns
returns c =
    let fields = c.self.inside in
    c.shown_by.ensures
    ∙ ap (shown_in fields.records) c.before_slot.ensures.slot
    ∙ before_shown fields.records fields.tree.pairs c.args.page.0 c.self.invariant.spans
    ∙ ap (λ (v : AreaTreeView). last_before (areas_of v) c.args.page.0) c.self.view_is
