-- For `AreaTree::has_free`: by the first area that ends above the first page.
use Rattle.std.proofs.Common.{◌≡◌, ◌-◌, ◌∙◌, true, nat_le, sym, ap, arith}
use Rattle.area_rules.specs.Placement.{is_free}
use Rattle.split_merge.proofs.Freeing.{free_without}
use Rattle.area_tree.specs.AreaTrees.{AreaTreeView, areas_of}
use Rattle.area_tree.proofs.Freeing.{free_up_to, within_limit, over_limit}
use Rattle.area_tree.proofs.tree.AreaTree.has_free.Goals as goal

pub returns-then-hi-self : goal.returns-then-hi-self
returns-then-hi-self c =
    let view = c.args.self.now in
    let limit : c.self.inside.bounds.limit ≡ view.tree.limit = ap (λ (v : AreaTreeView). v.bounds.limit) c.self.view_is ∙ c.facts.ensures.limit in
    over_limit c.args.hi view.tree.limit (is_free (areas_of view) (c.args.hi - c.args.lo) c.args.lo) (omega (arith, c.if-hi-self.true, limit))

pub returns-in-Some : goal.returns-in-Some
returns-in-Some c =
    let view = c.args.self.now in
    let limit : c.self.inside.bounds.limit ≡ view.tree.limit = ap (λ (v : AreaTreeView). v.bounds.limit) c.self.view_is ∙ c.facts.ensures.limit in
    within_limit c.args.hi view.tree.limit (is_free (areas_of view) (c.args.hi - c.args.lo) c.args.lo) (nat_le c.args.hi c.in-Some.area.span.lo)
    (omega (arith, c.if-hi-self.false, limit))
    (free_up_to view.tree.limit (areas_of view) c.args.lo c.args.hi c.in-Some.area c.facts.ensures.rise c.requires (sym c.from.ensures ∙ c.in-Some.is))

pub returns-in-None : goal.returns-in-None
returns-in-None c =
    let view = c.args.self.now in
    let limit : c.self.inside.bounds.limit ≡ view.tree.limit = ap (λ (v : AreaTreeView). v.bounds.limit) c.self.view_is ∙ c.facts.ensures.limit in
    within_limit c.args.hi view.tree.limit (is_free (areas_of view) (c.args.hi - c.args.lo) c.args.lo) true
    (omega (arith, c.if-hi-self.false, limit)) (free_without (areas_of view) (c.args.hi - c.args.lo) c.args.lo (sym c.from.ensures ∙ c.in-None.is))
