-- A put: what lies outside the area's span, with the area in its place.
use Rattle.std.proofs.Common.{List, Some, refl, ap, sym, subst, inl, arith}
use Rattle.mm_types.specs.declared.area.Record.{Record}
use Rattle.area_list.specs.Changes.{put, merge, insert_area}
use Rattle.area_list.proofs.Putting.{put_canonical}
use Rattle.split_merge.specs.declared.becoming.Becoming.TheVariants.{Outside}
use Rattle.split_merge.specs.Plans.{Makes, IsLocal}
use Rattle.split_merge.proofs.Planning.{all_changes}
use Rattle.split_merge.proofs.Walking.{in_order}
use Rattle.split_merge.proofs.Results.{plan_makes, plan_local, fits_in}
use Rattle.split_merge.proofs.Spans.{one_in_order, cut_one_span}
use Rattle.split_merge.proofs.put.plan_put.Goals as goal

pub returns-clause-makes : goal.returns-clause-makes
returns-clause-makes g c = let areas : List Record = g.A.Areas.list c.args.areas.now in
    let area = c.args.area in
    let canonical = c.requires.list.canonical in
    let order = one_in_order area.span (omega (arith, c.requires.valid.some_pages)) in
    subst (λ changes. Makes changes areas (put area areas)) (sym (all_changes c.args.plan.now c.plan_changes.new.plan _ c.requires.fresh.empty c.plan_changes.ensures))
    (plan_makes _ (Outside area.span area.span) (Some area) areas (put area areas) canonical order
    (fits_in area.span area.span areas area order (in_order _ areas canonical).valid c.requires.valid.some_pages (inl refl))
    (ap (λ rest. merge (insert_area area rest)) (sym (cut_one_span area.span areas (omega (arith, c.requires.valid.some_pages)))))
    (put_canonical _ area areas (record { valid = c.requires.valid; below_end = c.requires.within }) canonical))

pub returns-clause-local : goal.returns-clause-local
returns-clause-local g c = let areas : List Record = g.A.Areas.list c.args.areas.now in
    let area = c.args.area in
    subst (IsLocal area.span areas) (sym (all_changes c.args.plan.now c.plan_changes.new.plan _ c.requires.fresh.empty c.plan_changes.ensures))
    (plan_local _ (Outside area.span area.span) area.span (Some area) areas c.requires.list.canonical
    (one_in_order area.span (omega (arith, c.requires.valid.some_pages))) refl refl)
