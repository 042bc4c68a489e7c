-- For `plan_shrinking` of plan_cases.rt: its goals.
use Rattle.std.proofs.Common.{arith}
use Rattle.sys_mremap.proofs.Made.{rest_is, shrunk_by_cut, same_length, rest_end}
use Rattle.sys_mremap.proofs.plan_cases.plan_shrinking.Goals as goal

pub plan_cut-requires-clause-within : goal.plan_cut-requires-clause-within
plan_cut-requires-clause-within g c =
    omega (arith, rest_end c.args.args.now, c.requires.within, c.page_of-first.ensures, c.pages_of-2.ensures.value)

pub returns-then-rest-clause-made : goal.returns-then-rest-clause-made
returns-then-rest-clause-made g c =
    shrunk_by_cut (g.A.Areas.list c.args.areas.now) c.args.args.now c.plan_cut.new.plan.changes _
    (rest_is c.args.args.now c.page_of-first.result c.pages_of.result c.pages_of-2.result
    c.page_of-first.ensures c.pages_of.ensures.value c.pages_of-2.ensures.value)
    c.if-rest.true c.plan_cut.ensures.makes c.plan_cut.ensures.local

pub returns-else-rest-clause-made : goal.returns-else-rest-clause-made
returns-else-rest-clause-made g c =
    same_length (g.A.Areas.list c.args.areas.now) c.args.args.now c.args.plan.now.changes _
    (rest_is c.args.args.now c.page_of-first.result c.pages_of.result c.pages_of-2.result
    c.page_of-first.ensures c.pages_of.ensures.value c.pages_of-2.ensures.value)
    c.if-rest.false c.requires.fresh.empty
