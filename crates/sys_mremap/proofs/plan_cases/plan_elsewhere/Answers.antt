-- For `plan_elsewhere` of plan_cases.rt: its goals.
use Rattle.std.proofs.Common.{◌<◌, option_map, ap, subst, sym, ◌∙◌, arith}
use Rattle.mm_types.specs.declared.area.Span.{Span}
use Rattle.area_rules.specs.Mremap.{moved, moved_list, mremap_change}
use Rattle.sys_mremap.specs.Internal.Cases.{PlansChange}
use Rattle.area_list.proofs.Order.{IsGood}
use Rattle.sys_mremap.proofs.Cases.{elsewhere_change, old_small, old_some, new_some, moved_by_bounds, moved_low, moved_beside}
use Rattle.sys_mremap.proofs.Made.{carried_there, beside_there, moved_by_plan}
use Rattle.sys_mremap.proofs.plan_cases.plan_elsewhere.Goals as goal

pub other_place-requires-clause-some_pages : goal.other_place-requires-clause-some_pages
other_place-requires-clause-some_pages g c = new_some c.requires.admitted

pub returns-in_err-start-clause-change : goal.returns-in_err-start-clause-change
returns-in_err-start-clause-change g c =
    let config = c.args.config.now in
    let areas = g.A.Areas.list c.args.areas.now in
    let args = c.args.args.now in
    let area = c.args.area.now in
    subst (λ page. PlansChange args c.args.plan.now.changes areas (mremap_change config areas area args) page) (sym c.from_residual.ensures) (
      elsewhere_change config areas args area c.requires.elsewhere
          ∙ ap (option_map (moved areas area args)) (sym c.other_place.ensures ∙ c.in_err-start.was),
      c.requires.fresh.empty,
    )

pub overflow_add-span : goal.overflow_add-span
overflow_add-span g c =
    omega (arith, moved_low c.requires.admitted c.requires.elsewhere (sym c.other_place.ensures ∙ c.in_ok-start.was), c.pages_of.ensures.value)

pub carried_area-moved-requires-clause-small : goal.carried_area-moved-requires-clause-small
carried_area-moved-requires-clause-small g c = old_small c.requires.admitted

pub plan_move-requires-clause-valid : goal.plan_move-requires-clause-valid
plan_move-requires-clause-valid g c =
    let is = carried_there c.args.args.now c.args.area.now c.carried_area-moved.result c.in_ok-start.start c.page_of.result c.pages_of.result
    c.carried_area-moved.ensures c.page_of.ensures c.pages_of.ensures.value in
    let there = sym c.other_place.ensures ∙ c.in_ok-start.was in
    (subst (IsGood _) (sym is) (moved_by_bounds c.requires.admitted c.requires.elsewhere there)).valid

pub plan_move-requires-clause-within : goal.plan_move-requires-clause-within
plan_move-requires-clause-within g c =
    let is = carried_there c.args.args.now c.args.area.now c.carried_area-moved.result c.in_ok-start.start c.page_of.result c.pages_of.result
    c.carried_area-moved.ensures c.page_of.ensures c.pages_of.ensures.value in
    let there = sym c.other_place.ensures ∙ c.in_ok-start.was in
    omega (
      arith,
      (subst (IsGood _) (sym is) (moved_by_bounds c.requires.admitted c.requires.elsewhere there)).below_end,
    )

pub plan_move-requires-clause-some_pages : goal.plan_move-requires-clause-some_pages
plan_move-requires-clause-some_pages g c =
    subst (λ (span : Span). span.lo < span.hi) (sym c.old_range.ensures) (old_some c.requires.admitted)

pub plan_move-requires-clause-beside : goal.plan_move-requires-clause-beside
plan_move-requires-clause-beside g c =
    let is = carried_there c.args.args.now c.args.area.now c.carried_area-moved.result c.in_ok-start.start c.page_of.result c.pages_of.result
    c.carried_area-moved.ensures c.page_of.ensures c.pages_of.ensures.value in
    let there = sym c.other_place.ensures ∙ c.in_ok-start.was in
    beside_there c.args.args.now c.args.area.now c.carried_area-moved.result c.old_range.result c.in_ok-start.start is c.old_range.ensures
    (moved_beside c.requires.admitted c.requires.elsewhere there)

pub returns-clause-change : goal.returns-clause-change
returns-clause-change g c =
    let areas = g.A.Areas.list c.args.areas.now in
    let args = c.args.args.now in
    let area = c.args.area.now in
    let start = c.in_ok-start.start in
    let is = carried_there args area c.carried_area-moved.result start c.page_of.result c.pages_of.result
    c.carried_area-moved.ensures c.page_of.ensures c.pages_of.ensures.value in (
      moved_list areas area args start,
      elsewhere_change c.args.config.now areas args area c.requires.elsewhere
          ∙ ap (option_map (moved areas area args)) (sym c.other_place.ensures ∙ c.in_ok-start.was),
      moved_by_plan areas args c.plan_move.new.plan.changes area c.carried_area-moved.result c.old_range.result start
          c.old_range.ensures is c.plan_move.ensures.makes c.plan_move.ensures.local,
    )

pub returns-clause-low : goal.returns-clause-low
returns-clause-low g c = omega (arith, moved_low c.requires.admitted c.requires.elsewhere (sym c.other_place.ensures ∙ c.in_ok-start.was))
