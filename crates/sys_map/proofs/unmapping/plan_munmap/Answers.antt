-- For `plan_munmap` of unmapping.rt: its goals.
use Rattle.std.proofs.Common.{sym, ◌∙◌, arith}
use Rattle.split_merge.proofs.Refusing.{range_some, range_within}
use Rattle.sys_map.proofs.Cutting.{cut_call}
use Rattle.sys_map.proofs.unmapping.plan_munmap.Goals as goal

pub plan_cut-requires-clause-some_pages : goal.plan_cut-requires-clause-some_pages
plan_cut-requires-clause-some_pages g c = range_some c.args.addr c.args.len c.range_of.result c.if-len-eq0.false c.range_of.ensures

pub plan_cut-requires-clause-within : goal.plan_cut-requires-clause-within
plan_cut-requires-clause-within g c = range_within c.args.config.now (g.A.Areas.bounds c.args.areas.now) c.args.addr c.args.len c.range_of.result
    c.requires.prepared.numbers (sym c.is_aligned.ensures ∙ c.if-not-is_aligned.false) (omega (arith, c.if-from-end_of.false, c.end_of.ensures, c.from.ensures)) c.range_of.ensures

pub returns-clause-planned : goal.returns-clause-planned
returns-clause-planned g c objects =
    cut_call c.args.addr c.args.len c.range_of.result (g.A.Areas.list c.args.areas.now) c.plan_cut.new.plan objects c.requires.prepared
    c.plan_cut.ensures.room c.requires.sound (sym c.is_aligned.ensures ∙ c.if-not-is_aligned.false) c.if-len-eq0.false
    (omega (arith, c.if-from-end_of.false, c.end_of.ensures, c.from.ensures)) c.range_of.ensures c.plan_cut.ensures.makes
    (sym c.is_too_long.ensures ∙ c.if-is_too_long.false)
