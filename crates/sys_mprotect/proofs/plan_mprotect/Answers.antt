-- For `plan_mprotect` of lib.rt: its goals.
use Rattle.std.proofs.Common.{List, refl, sym, ◌∙◌}
use Rattle.mm_types.specs.declared.area.Record.{Record}
use Rattle.area_rules.specs.Mprotect.{protected_prefix}
use Rattle.split_merge.proofs.Refusing.{range_some}
use Rattle.sys_mprotect.proofs.Calls.{request_some, answered_call, passing_call, same_length_test}
use Rattle.sys_mprotect.proofs.plan_mprotect.Goals as goal

pub returns-in-Some-clause-planned : goal.returns-in-Some-clause-planned
returns-in-Some-clause-planned g c counters = answered_call c.args.config.now (g.A.Areas.list c.args.areas.now) c.args.addr c.args.len c.args.prot
    c.args.plan.now counters c.in-Some.reply c.requires.prepared refl c.requires.sound c.requires.prepared.fresh.empty
    (sym c.mprotect_answer.ensures ∙ c.in-Some.is)

pub plan_prefix-error-requires-clause-some_pages : goal.plan_prefix-error-requires-clause-some_pages
plan_prefix-error-requires-clause-some_pages g c = range_some c.args.addr c.args.len c.range_of.result
    (request_some c.args.addr c.args.len (sym c.mprotect_answer.ensures ∙ c.in_default.is)) c.range_of.ensures

pub returns-clause-planned : goal.returns-clause-planned
returns-clause-planned g c counters = let areas : List Record = g.A.Areas.list c.args.areas.now in
    passing_call c.args.config.now areas c.args.addr c.args.len c.args.prot c.range_of.result (record {
      pages = c.range_of.ensures;
      request = sym c.mprotect_answer.ensures ∙ c.in_default.is;
      fits = same_length_test c.args.config.now c.plan_prefix-error.new.plan.changes areas (protected_prefix c.args.prot c.range_of.result areas)
          c.is_too_long.result _ c.plan_prefix-error.ensures.makes c.is_too_long.ensures c.if-is_too_long.false;
    }) c.plan_prefix-error.new.plan counters c.plan_prefix-error.result c.stopped_reply.result c.requires.prepared c.plan_prefix-error.ensures.room
    c.requires.sound c.stopped_reply.ensures c.plan_prefix-error.ensures.error c.plan_prefix-error.ensures.makes
