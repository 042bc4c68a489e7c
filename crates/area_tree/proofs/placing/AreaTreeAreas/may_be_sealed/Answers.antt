-- For `AreaTree::may_be_sealed`: where no record is sealed, no area is.
use Rattle.std.proofs.Common.{All, subst}
use Rattle.area_tree.specs.AreaTrees.{AreaTreeView, areas_of}
use Rattle.area_tree.proofs.Unsealed.{IsOpen, areas_open}
use Rattle.area_tree.proofs.placing.AreaTreeAreas.may_be_sealed.Goals as goal

pub returns-clause-unsealed : goal.returns-clause-unsealed
returns-clause-unsealed c none =
    let fields = c.self.inside in
    subst (λ (v : AreaTreeView). All IsOpen (areas_of v)) c.self.view_is (areas_open fields.records fields.tree.pairs (c.self.invariant.unsealed none))
