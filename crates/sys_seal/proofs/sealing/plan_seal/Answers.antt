-- For `plan_seal` of sealing.rt: its goals.
use Rattle.std.proofs.Common.{refl, sym, ap, ◌∙◌, subst, arith}
use Rattle.mm_types.specs.declared.area.Span.{Span}
use Rattle.area_list.specs.Changes.{sealed_list}
use Rattle.area_rules.specs.declared.placement.Bounds.{Bounds}
use Rattle.area_rules.specs.Mseal.{has_hole}
use Rattle.split_merge.specs.Plans.{PlanView, Makes}
use Rattle.split_merge.proofs.Refusing.{range_some}
use Rattle.sys_seal.proofs.SealCases.{answered_call, holed_call, long_call, sealed_call, hole_within, some_bytes, length_test}
use Rattle.sys_seal.proofs.sealing.plan_seal.Goals as goal

pub returns-in-Some-clause-planned : goal.returns-in-Some-clause-planned
returns-in-Some-clause-planned g c =
    answered_call c.requires.prepared c.args.plan.now refl (g.A.Areas.list c.args.areas.now) c.requires.sound c.args.addr c.args.len c.args.flags c.in-Some.reply
    (sym c.mseal_answer.ensures ∙ c.in-Some.is) c.requires.prepared.fresh.empty

pub returns-then-has_hole-clause-planned : goal.returns-then-has_hole-clause-planned
returns-then-has_hole-clause-planned g c =
    holed_call c.requires.prepared c.args.plan.now refl (g.A.Areas.list c.args.areas.now) c.requires.sound c.args.addr c.args.len c.args.flags
    (sym c.mseal_answer.ensures ∙ c.in_default.is)
    (ap (λ span. has_hole span (g.A.Areas.list c.args.areas.now)) (sym c.range_of-range.ensures) ∙ sym c.has_hole.ensures ∙ c.if-has_hole.true)
    c.requires.prepared.fresh.empty

pub plan_attributes-requires-clause-some_pages : goal.plan_attributes-requires-clause-some_pages
plan_attributes-requires-clause-some_pages g c =
    range_some c.args.addr c.args.len c.range_of-range.result (some_bytes c.args.addr c.args.len c.args.flags (sym c.mseal_answer.ensures ∙ c.in_default.is))
    c.range_of-range.ensures

pub plan_attributes-requires-clause-within : goal.plan_attributes-requires-clause-within
plan_attributes-requires-clause-within g c =
    let within = hole_within _ c.range_of-range.result (g.A.Areas.list c.args.areas.now) c.requires.sound.canonical
    (range_some c.args.addr c.args.len c.range_of-range.result (some_bytes c.args.addr c.args.len c.args.flags (sym c.mseal_answer.ensures ∙ c.in_default.is))
    c.range_of-range.ensures) (sym c.has_hole.ensures ∙ c.if-has_hole.false) in
    omega (arith, within, ap (λ (b : Bounds). b.limit) c.requires.prepared.numbers)

pub returns-then-is_too_long-clause-planned : goal.returns-then-is_too_long-clause-planned
returns-then-is_too_long-clause-planned g c =
    let areas = g.A.Areas.list c.args.areas.now in
    long_call c.requires.prepared c.clear.new.self (ap (λ (p : PlanView). p.room) c.clear.ensures ∙ c.plan_attributes.ensures.room) areas c.requires.sound
    c.args.addr c.args.len c.args.flags (sym c.mseal_answer.ensures ∙ c.in_default.is)
    (ap (λ span. has_hole span areas) (sym c.range_of-range.ensures) ∙ sym c.has_hole.ensures ∙ c.if-has_hole.false)
    (length_test c.args.config.now c.range_of-range.result c.args.addr c.args.len c.plan_attributes.new.plan.changes areas c.is_too_long.result _
    c.range_of-range.ensures c.plan_attributes.ensures.makes c.is_too_long.ensures c.if-is_too_long.true)
    (ap (λ (p : PlanView). p.changes) c.clear.ensures)

pub returns-clause-planned : goal.returns-clause-planned
returns-clause-planned g c =
    let areas = g.A.Areas.list c.args.areas.now in
    let some = range_some c.args.addr c.args.len c.range_of-range.result (some_bytes c.args.addr c.args.len c.args.flags (sym c.mseal_answer.ensures ∙ c.in_default.is))
    c.range_of-range.ensures in
    sealed_call c.requires.prepared c.plan_attributes.new.plan c.plan_attributes.ensures.room areas c.requires.sound
    c.args.addr c.args.len c.args.flags (sym c.mseal_answer.ensures ∙ c.in_default.is)
    (ap (λ span. has_hole span areas) (sym c.range_of-range.ensures) ∙ sym c.has_hole.ensures ∙ c.if-has_hole.false)
    (length_test c.args.config.now c.range_of-range.result c.args.addr c.args.len c.plan_attributes.new.plan.changes areas c.is_too_long.result _
    c.range_of-range.ensures c.plan_attributes.ensures.makes c.is_too_long.ensures c.if-is_too_long.false)
    (omega (arith, some, ap (λ (r : Span). r.lo) c.range_of-range.ensures, ap (λ (r : Span). r.hi) c.range_of-range.ensures))
    (subst (λ span. Makes c.plan_attributes.new.plan.changes areas (sealed_list span areas)) c.range_of-range.ensures c.plan_attributes.ensures.makes)
