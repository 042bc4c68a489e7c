-- New attributes.
use Rattle.std.proofs.Common.{List, None, refl, sym, subst, arith}
use Rattle.mm_types.specs.declared.area.Record.{Record}
use Rattle.area_list.specs.Changes.{changed_list}
use Rattle.area_list.proofs.Changed.{changed_canonical}
use Rattle.split_merge.specs.declared.becoming.Becoming.TheVariants.{Changed}
use Rattle.split_merge.specs.Plans.{Makes, IsLocal}
use Rattle.split_merge.proofs.Planning.{all_changes}
use Rattle.split_merge.proofs.Results.{plan_makes, plan_local}
use Rattle.split_merge.proofs.Spans.{one_in_order}
use Rattle.split_merge.proofs.attributes.plan_attributes.Goals as goal

pub plan_changes-requires-clause-spans : goal.plan_changes-requires-clause-spans
plan_changes-requires-clause-spans g c = one_in_order c.args.span (omega (arith, c.requires.some_pages))

pub returns-clause-makes : goal.returns-clause-makes
returns-clause-makes g c = let areas : List Record = g.A.Areas.list c.args.areas.now in
    let span = c.args.span in
    let canonical = c.requires.list.canonical in
    subst (λ changes. Makes changes areas (changed_list c.args.change span areas))
    (sym (all_changes c.args.plan.now c.plan_changes.new.plan _ c.requires.fresh.empty c.plan_changes.ensures))
    (plan_makes _ (Changed span c.args.change) None areas (changed_list c.args.change span areas) canonical
    (one_in_order span (omega (arith, c.requires.some_pages))) tt refl
    (changed_canonical _ c.args.change span areas (omega (arith, c.requires.some_pages)) canonical c.requires.may))

pub returns-clause-local : goal.returns-clause-local
returns-clause-local g c = let areas : List Record = g.A.Areas.list c.args.areas.now in
    let span = c.args.span in
    subst (IsLocal span areas) (sym (all_changes c.args.plan.now c.plan_changes.new.plan _ c.requires.fresh.empty c.plan_changes.ensures))
    (plan_local _ (Changed span c.args.change) span None areas c.requires.list.canonical (one_in_order span (omega (arith, c.requires.some_pages))) refl refl)
