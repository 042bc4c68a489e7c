-- A cut: what lies outside the span, which has nothing to join.
use Rattle.std.proofs.Common.{◌∙◌, List, None, refl, ap, sym, subst, arith}
use Rattle.mm_types.specs.declared.area.Record.{Record}
use Rattle.area_list.specs.Changes.{cut, merge}
use Rattle.area_list.proofs.Cutting.{cut_canonical}
use Rattle.split_merge.specs.declared.becoming.Becoming.TheVariants.{Outside}
use Rattle.split_merge.specs.Plans.{Makes, IsLocal}
use Rattle.split_merge.proofs.Planning.{all_changes}
use Rattle.split_merge.proofs.Results.{plan_makes, plan_local}
use Rattle.split_merge.proofs.Spans.{one_in_order, cut_one_span, cut_merged}
use Rattle.split_merge.proofs.cut.plan_cut.Goals as goal

pub returns-clause-makes : goal.returns-clause-makes
returns-clause-makes g c = let areas : List Record = g.A.Areas.list c.args.areas.now in
    let span = c.args.span in
    let canonical = c.requires.list.canonical in
    let order = one_in_order span (omega (arith, c.requires.some_pages)) in
    subst (λ changes. Makes changes areas (cut span areas)) (sym (all_changes c.args.plan.now c.plan_changes.new.plan _ c.requires.fresh.empty c.plan_changes.ensures))
    (plan_makes _ (Outside span span) None areas (cut span areas) canonical order tt
    (sym (ap merge (cut_one_span span areas (omega (arith, c.requires.some_pages))) ∙ cut_merged _ span areas canonical c.requires.some_pages))
    (cut_canonical _ span areas c.requires.some_pages canonical))

pub returns-clause-local : goal.returns-clause-local
returns-clause-local g c = let areas : List Record = g.A.Areas.list c.args.areas.now in
    let span = c.args.span in
    subst (IsLocal span areas) (sym (all_changes c.args.plan.now c.plan_changes.new.plan _ c.requires.fresh.empty c.plan_changes.ensures))
    (plan_local _ (Outside span span) span None areas c.requires.list.canonical (one_in_order span (omega (arith, c.requires.some_pages))) refl refl)
