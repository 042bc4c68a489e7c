-- For `plan_lower`: where the pages are not given back, and where they are.
use Rattle.std.proofs.Common.{List, refl, ap, sym, subst, ◌∙◌, arith}
use Rattle.mm_types.specs.declared.area.Record.{Record}
use Rattle.mm_types.specs.declared.area.Span.{Span}
use Rattle.area_list.specs.Changes.{cut}
use Rattle.area_rules.specs.Brk.{pages_between}
use Rattle.area_rules.specs.Seals.{has_sealed}
use Rattle.split_merge.specs.Plans.{Makes, IsLocal}
use Rattle.sys_brk.proofs.Cases.{stays_sealed, stays_long, lowers}
use Rattle.sys_brk.proofs.Planning.{kept_call, settled_call, settled_kept, settled_local, lowered_sound, break_within}
use Rattle.sys_brk.proofs.plan_lower.Goals as goal

pub returns-then-has_sealed-clause-planned : goal.returns-then-has_sealed-clause-planned
returns-then-has_sealed-clause-planned g c = let areas : List Record = g.A.Areas.list c.args.areas.now in
    kept_call c.requires.prepared areas c.args.plan.now refl c.args.old_break c.args.addr c.requires.sound
    (λ objects. stays_sealed c.args.config.now _ c.args.addr c.requires.heap c.requires.lowered
    (ap (λ span. has_sealed span areas) (sym c.pages_between-range.ensures) ∙ sym c.has_sealed.ensures ∙ c.if-has_sealed.true))
    c.requires.prepared.fresh.empty

pub plan_cut-requires-clause-within : goal.plan_cut-requires-clause-within
plan_cut-requires-clause-within g c = omega (
  arith,
  ap (λ (span : Span). span.hi) c.pages_between-range.ensures,
  break_within c.args.config.now (g.A.Areas.bounds c.args.areas.now) c.args.old_break c.requires.valid c.requires.prepared.numbers c.requires.bounded,
)

pub returns-clause-planned : goal.returns-clause-planned
returns-clause-planned g c = let areas : List Record = g.A.Areas.list c.args.areas.now in
    let unsealed = ap (λ span. has_sealed span areas) (sym c.pages_between-range.ensures) ∙ sym c.has_sealed.ensures ∙ c.if-has_sealed.false in
    settled_call c.requires.prepared areas c.settle_break.new.plan (c.settle_break.ensures.room ∙ c.plan_cut.ensures.room) c.args.old_break c.args.addr
    c.plan_cut.new.plan.changes (cut (pages_between c.args.addr c.args.old_break) areas) c.settle_break.result c.requires.sound
    (subst (λ span. Makes c.plan_cut.new.plan.changes areas (cut span areas)) c.pages_between-range.ensures c.plan_cut.ensures.makes)
    c.settle_break.ensures.reply c.settle_break.ensures.changes
    (λ long objects. stays_long c.args.config.now _ c.args.addr c.requires.heap c.requires.lowered unsealed long)
    (λ short objects. lowers c.args.config.now _ c.args.addr c.requires.heap c.requires.lowered unsealed short)
    (lowered_sound c.args.config.now areas c.requires.sound c.args.old_break c.args.addr c.requires.lowered)

pub returns-clause-kept : goal.returns-clause-kept
returns-clause-kept g c = settled_kept c.args.addr c.args.old_break _ c.plan_cut.new.plan.changes c.settle_break.new.plan.changes c.settle_break.result
    (λ alike. omega (arith, alike, c.requires.lowered)) c.settle_break.ensures.reply c.settle_break.ensures.changes

pub returns-clause-local : goal.returns-clause-local
returns-clause-local g c = let areas : List Record = g.A.Areas.list c.args.areas.now in
    settled_local (pages_between c.args.addr c.args.old_break) areas _ c.plan_cut.new.plan.changes c.settle_break.new.plan.changes
    c.settle_break.ensures.changes
    (subst (λ span. IsLocal span areas c.plan_cut.new.plan.changes) c.pages_between-range.ensures c.plan_cut.ensures.local)
