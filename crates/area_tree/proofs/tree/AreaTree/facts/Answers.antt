-- For `AreaTree::facts`: the areas are those that the slots of the pairs show.
use Rattle.std.proofs.Common.{◌≡◌, ◌+◌, ◌*◌, map, subst}
use Rattle.mm_types.specs.declared.area.Record.{Record}
use Rattle.maple_gap.specs.Gaps.{span_of}
use Rattle.area_tree.specs.AreaTrees.{AreaTreeView, AreasRise, areas_of}
use Rattle.area_tree.proofs.Order.{areas_rise, areas_spans}
use Rattle.area_tree.proofs.tree.AreaTree.facts.Goals as goal

pub returns-clause-rise : goal.returns-clause-rise
returns-clause-rise c =
    let fields = c.self.inside in
    subst (λ (v : AreaTreeView). AreasRise v.tree.limit 0 (areas_of v)) c.self.view_is
    (areas_rise fields.records (2 * fields.tree.areas + 2) fields.tree.limit 0 fields.tree.pairs c.facts.ensures.pairs c.self.invariant.spans)

pub returns-clause-spans : goal.returns-clause-spans
returns-clause-spans c =
    let fields = c.self.inside in
    subst (λ (v : AreaTreeView). map span_of v.tree.pairs ≡ map (λ (area : Record). area.span) (areas_of v)) c.self.view_is
    (areas_spans fields.records fields.tree.pairs c.self.invariant.spans)
