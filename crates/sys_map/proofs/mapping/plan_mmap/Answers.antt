-- For `plan_mmap`: it is refused, or done, as far as its tests come.
use Rattle.std.proofs.Common.{◌≡◌, refl, sym, ap, subst, ◌∙◌, arith}
use Rattle.mm_types.specs.Records.{IsValid}
use Rattle.mm_types.specs.declared.area.Record.{Record}
use Rattle.mm_types.specs.declared.call.Errno.TheVariants.{Enomem}
use Rattle.area_rules.specs.declared.placement.Bounds.{Bounds}
use Rattle.area_rules.specs.Tables.{space_of}
use Rattle.area_rules.proofs.MmapTable.{mmap_refused, mmap_no_place, mmap_too_long, mmap_maps}
use Rattle.split_merge.specs.Plans.{PlanView}
use Rattle.split_merge.specs.declared.planned.Planned.{Planned}
use Rattle.sys_map.proofs.MmapCases.{refused_call, refused_counters, done_call, done_counters, too_many, accepted_area, accepted_low, accepted_some, done_local}
use Rattle.sys_map.proofs.mapping.plan_mmap.Goals as goal

reply_is : {a b : Planned} → a ≡ b → a.reply ≡ b.reply
reply_is is = ap (λ (m : Planned). m.reply) is

counters_are : {a b : Planned} → a ≡ b → a.counters ≡ b.counters
counters_are is = ap (λ (m : Planned). m.counters) is

pub returns-in-Some-clause-planned : goal.returns-in-Some-clause-planned
returns-in-Some-clause-planned g c =
    refused_call c.args.args.now c.requires.ready c.requires.prepared c.args.plan.now refl c.in-Some.errno c.refused.result.reply
    (reply_is c.refused.ensures) (mmap_refused _ _ _ c.in-Some.errno (sym c.request_error.ensures ∙ c.in-Some.is)) c.requires.prepared.fresh.empty

pub returns-in-Some-clause-counters : goal.returns-in-Some-clause-counters
returns-in-Some-clause-counters g c =
    refused_counters c.args.config.now (space_of (g.A.Areas.list c.args.areas.now) c.args.counters) c.args.args.now c.in-Some.errno c.refused.result.counters
    (counters_are c.refused.ensures) (mmap_refused _ _ _ c.in-Some.errno (sym c.request_error.ensures ∙ c.in-Some.is))

pub start_of-requires-clause-some_bytes : goal.start_of-requires-clause-some_bytes
start_of-requires-clause-some_bytes g c =
    accepted_some c.args.config.now (g.A.Areas.list c.args.areas.now) c.args.args.now (sym c.request_error.ensures ∙ c.in_default.is)

pub returns-in_default-start_of-clause-planned : goal.returns-in_default-start_of-clause-planned
returns-in_default-start_of-clause-planned g c =
    refused_call c.args.args.now c.requires.ready c.requires.prepared c.args.plan.now refl Enomem c.refused-in_default-start_of.result.reply
    (reply_is c.refused-in_default-start_of.ensures)
    (mmap_no_place _ _ _ (sym c.request_error.ensures ∙ c.in_default.is) (sym c.start_of.ensures ∙ c.in_default-start_of.is)) c.requires.prepared.fresh.empty

pub returns-in_default-start_of-clause-counters : goal.returns-in_default-start_of-clause-counters
returns-in_default-start_of-clause-counters g c =
    refused_counters c.args.config.now (space_of (g.A.Areas.list c.args.areas.now) c.args.counters) c.args.args.now Enomem c.refused-in_default-start_of.result.counters
    (counters_are c.refused-in_default-start_of.ensures)
    (mmap_no_place _ _ _ (sym c.request_error.ensures ∙ c.in_default.is) (sym c.start_of.ensures ∙ c.in_default-start_of.is))

pub new_area-requires-clause-low : goal.new_area-requires-clause-low
new_area-requires-clause-low g c = omega (
  arith,
  accepted_low c.args.config.now (g.A.Areas.list c.args.areas.now) c.args.args.now c.in-Some-start_of.start c.requires.ready.valid
      (sym c.request_error.ensures ∙ c.in_default.is) (sym c.start_of.ensures ∙ c.in-Some-start_of.is),
)

pub plan_put-requires-clause-valid : goal.plan_put-requires-clause-valid
plan_put-requires-clause-valid g c =
    subst IsValid (sym c.new_area.ensures)
    (accepted_area c.args.config.now (g.A.Areas.list c.args.areas.now) c.args.counters.objects c.args.args.now c.in-Some-start_of.start c.requires.ready.valid
    (sym c.request_error.ensures ∙ c.in_default.is) (sym c.start_of.ensures ∙ c.in-Some-start_of.is)).valid

pub plan_put-requires-clause-within : goal.plan_put-requires-clause-within
plan_put-requires-clause-within g c =
    let good = accepted_area c.args.config.now (g.A.Areas.list c.args.areas.now) c.args.counters.objects c.args.args.now c.in-Some-start_of.start c.requires.ready.valid
    (sym c.request_error.ensures ∙ c.in_default.is) (sym c.start_of.ensures ∙ c.in-Some-start_of.is) in
    omega (
      arith,
      good.below_end,
      ap (λ (area : Record). area.span.hi) c.new_area.ensures,
      ap (λ (bounds : Bounds). bounds.limit) c.requires.prepared.numbers,
    )

pub returns-then-is_too_long-clause-planned : goal.returns-then-is_too_long-clause-planned
returns-then-is_too_long-clause-planned g c =
    let config = c.args.config.now in
    let space = space_of (g.A.Areas.list c.args.areas.now) c.args.counters in
    let long = too_many config space c.args.args.now c.in-Some-start_of.start c.new_area.result _ c.is_too_long.result _
    c.new_area.ensures c.plan_put.ensures.makes.result c.is_too_long.ensures c.if-is_too_long.true in
    refused_call c.args.args.now c.requires.ready c.requires.prepared c.clear.new.self
    (ap (λ (plan : PlanView). plan.room) c.clear.ensures ∙ c.plan_put.ensures.room) Enomem c.refused-then-is_too_long.result.reply
    (reply_is c.refused-then-is_too_long.ensures)
    (mmap_too_long config space c.args.args.now c.in-Some-start_of.start (sym c.request_error.ensures ∙ c.in_default.is)
    (sym c.start_of.ensures ∙ c.in-Some-start_of.is) long) (ap (λ (plan : PlanView). plan.changes) c.clear.ensures)

pub returns-then-is_too_long-clause-counters : goal.returns-then-is_too_long-clause-counters
returns-then-is_too_long-clause-counters g c =
    let config = c.args.config.now in
    let space = space_of (g.A.Areas.list c.args.areas.now) c.args.counters in
    let long = too_many config space c.args.args.now c.in-Some-start_of.start c.new_area.result _ c.is_too_long.result _
    c.new_area.ensures c.plan_put.ensures.makes.result c.is_too_long.ensures c.if-is_too_long.true in
    refused_counters config space c.args.args.now Enomem c.refused-then-is_too_long.result.counters (counters_are c.refused-then-is_too_long.ensures)
    (mmap_too_long config space c.args.args.now c.in-Some-start_of.start (sym c.request_error.ensures ∙ c.in_default.is)
    (sym c.start_of.ensures ∙ c.in-Some-start_of.is) long)

pub overflow_mul-result : goal.overflow_mul-result
overflow_mul-result g c = omega (
  arith,
  accepted_low c.args.config.now (g.A.Areas.list c.args.areas.now) c.args.args.now c.in-Some-start_of.start c.requires.ready.valid
      (sym c.request_error.ensures ∙ c.in_default.is) (sym c.start_of.ensures ∙ c.in-Some-start_of.is),
)

pub returns-clause-planned : goal.returns-clause-planned
returns-clause-planned g c =
    let config = c.args.config.now in
    let space = space_of (g.A.Areas.list c.args.areas.now) c.args.counters in
    let fits = too_many config space c.args.args.now c.in-Some-start_of.start c.new_area.result _ c.is_too_long.result _
    c.new_area.ensures c.plan_put.ensures.makes.result c.is_too_long.ensures c.if-is_too_long.false in
    done_call c.args.args.now c.requires.ready c.requires.prepared c.plan_put.new.plan c.plan_put.ensures.room c.in-Some-start_of.start c.new_area.result
    (mmap_maps config space c.args.args.now c.in-Some-start_of.start (sym c.request_error.ensures ∙ c.in_default.is)
    (sym c.start_of.ensures ∙ c.in-Some-start_of.is) fits) c.new_area.ensures c.plan_put.ensures.makes

pub returns-clause-counters : goal.returns-clause-counters
returns-clause-counters g c =
    let config = c.args.config.now in
    let space = space_of (g.A.Areas.list c.args.areas.now) c.args.counters in
    let fits = too_many config space c.args.args.now c.in-Some-start_of.start c.new_area.result _ c.is_too_long.result _
    c.new_area.ensures c.plan_put.ensures.makes.result c.is_too_long.ensures c.if-is_too_long.false in
    done_counters config space c.args.args.now c.in-Some-start_of.start c.objects_numbered.result c.objects_numbered.ensures
    (mmap_maps config space c.args.args.now c.in-Some-start_of.start (sym c.request_error.ensures ∙ c.in_default.is)
    (sym c.start_of.ensures ∙ c.in-Some-start_of.is) fits)

pub returns-clause-local : goal.returns-clause-local
returns-clause-local g c addr is = done_local c.args.config.now c.args.counters.objects c.args.args.now c.in-Some-start_of.start addr c.new_area.result
    c.plan_put.new.plan.changes (g.A.Areas.list c.args.areas.now) c.new_area.ensures is c.plan_put.ensures.local
