-- A growth: one change.
use Rattle.std.proofs.Common.{List, [], ◌∷◌, ◌++◌, ap, sym, subst, ◌∙◌}
use Rattle.mm_types.specs.declared.area.Record.{Record}
use Rattle.area_rules.specs.Growing.{grown_list}
use Rattle.split_merge.specs.declared.plan.Change.{Change}
use Rattle.split_merge.specs.declared.plan.Change.TheVariants.{Alter}
use Rattle.split_merge.specs.Plans.{PlanView, Makes}
use Rattle.split_merge.proofs.Growers.{growth_makes}
use Rattle.split_merge.proofs.growth.plan_growth.Goals as goal

pub returns-clause-altered : goal.returns-clause-altered
returns-clause-altered g c =
    ap (λ (plan : PlanView). plan.changes) c.push.ensures
    ∙ ap (λ (changes : List Change). changes ++ Alter c.args.old.now c.grown_to-new.result ∷ []) c.requires.fresh.empty
    ∙ ap (λ (new : Record). Alter c.args.old.now new ∷ []) c.grown_to-new.ensures

pub returns-clause-makes : goal.returns-clause-makes
returns-clause-makes g c = let areas : List Record = g.A.Areas.list c.args.areas.now in
    subst (λ changes. Makes changes areas (grown_list c.args.page areas)) (sym (returns-clause-altered g c))
    (growth_makes _ c.requires.grower.0 areas c.args.page c.args.old.now c.requires.canonical c.requires.grower.1)
