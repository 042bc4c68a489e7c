-- For `plan_change` of plan_cases.rt: its goals.
use Rattle.std.proofs.Common.{sym, ◌∙◌}
use Rattle.area_rules.specs.Mremap.{lengthened_list, shrunk_list, mremap_change}
use Rattle.sys_mremap.proofs.Cases.{growing_room, growing_change, shrinking_change, old_within}
use Rattle.sys_mremap.proofs.Made.{made_in_place}
use Rattle.sys_mremap.proofs.plan_cases.plan_change.Goals as goal
use Rattle.sys_mremap.proofs.plan_cases.plan_change.Goals.{then-lengthens, else-lengthens}

pub plan_longer-requires-clause-has_room : goal.plan_longer-requires-clause-has_room
plan_longer-requires-clause-has_room g c = growing_room c.args.config.now (g.A.Areas.list c.args.areas.now) c.args.args.now c.args.area.now
    (sym c.goes_elsewhere.ensures ∙ c.if-goes_elsewhere.false) (sym c.lengthens.ensures ∙ c.if-lengthens.true)

pub plan_shrinking-requires-clause-within : goal.plan_shrinking-requires-clause-within
plan_shrinking-requires-clause-within g c = old_within c.requires.admitted

pub returns-clause-change : goal.returns-clause-change
returns-clause-change g c =
    let config = c.args.config.now in
    let areas = g.A.Areas.list c.args.areas.now in
    let args = c.args.args.now in
    let area = c.args.area.now in
    let stays = sym c.goes_elsewhere.ensures ∙ c.if-goes_elsewhere.false in
    elim c.if-lengthens.branch [
      | then-lengthens w ↦ made_in_place args c.if-lengthens.plan w.plan_longer.new.plan areas (lengthened_list areas area args)
          (mremap_change config areas area args) c.page_of.result
          (growing_change config areas args area stays (sym c.lengthens.ensures ∙ w.if-lengthens.true)) w.plan_longer.ensures.made w.plan-is c.page_of.ensures
      | else-lengthens w ↦ made_in_place args c.if-lengthens.plan w.plan_shrinking.new.plan areas (shrunk_list areas args)
          (mremap_change config areas area args) c.page_of.result
          (shrinking_change config areas args area stays (sym c.lengthens.ensures ∙ w.if-lengthens.false)) w.plan_shrinking.ensures.made w.plan-is c.page_of.ensures
    ]
