-- For `plan_longer` of plan_cases.rt: its goals.
use Rattle.std.proofs.Common.{◌≡◌, ap, subst, sym, ◌∙◌}
use Rattle.mm_types.specs.declared.area.Span.{Span}
use Rattle.mm_types.specs.declared.area.Record.{Record}
use Rattle.area_rules.specs.Mremap.{carried_area}
use Rattle.area_list.proofs.Order.{IsGood}
use Rattle.sys_mremap.proofs.Cases.{old_small, grown_by_bounds}
use Rattle.sys_mremap.proofs.Made.{grown_by_put}
use Rattle.sys_mremap.proofs.plan_cases.plan_longer.Goals as goal

pub carried_area-requires-clause-small : goal.carried_area-requires-clause-small
carried_area-requires-clause-small g c = old_small c.requires.admitted

added : (area grown : Record) (span other : Span) → grown ≡ carried_area area span.lo span → span ≡ other → grown ≡ carried_area area other.lo other
added area grown span other is same = is ∙ ap (λ (s : Span). carried_area area s.lo s) same

pub plan_put-requires-clause-valid : goal.plan_put-requires-clause-valid
plan_put-requires-clause-valid g c =
    let is = added c.args.area.now c.carried_area.result c.added_range-added.result _ c.carried_area.ensures c.added_range-added.ensures.value in
    (subst (IsGood _) (sym is) (grown_by_bounds c.requires.admitted c.requires.longer c.requires.has_room)).valid

pub plan_put-requires-clause-within : goal.plan_put-requires-clause-within
plan_put-requires-clause-within g c =
    let is = added c.args.area.now c.carried_area.result c.added_range-added.result _ c.carried_area.ensures c.added_range-added.ensures.value in
    (subst (IsGood _) (sym is) (grown_by_bounds c.requires.admitted c.requires.longer c.requires.has_room)).below_end

pub returns-clause-made : goal.returns-clause-made
returns-clause-made g c =
    grown_by_put (g.A.Areas.list c.args.areas.now) c.args.args.now c.plan_put.new.plan.changes c.args.area.now c.carried_area.result
    (added c.args.area.now c.carried_area.result c.added_range-added.result _ c.carried_area.ensures c.added_range-added.ensures.value)
    c.plan_put.ensures.makes c.plan_put.ensures.local
