-- For `plan_raise`: where the pages are not taken, and where they are.
use Rattle.std.proofs.Common.{◌≡◌, ◌<◌, ℕ, Bool, List, true, refl, ap, sym, subst, ◌∙◌, arith}
use Rattle.mm_types.specs.declared.area.Record.{Record}
use Rattle.area_list.specs.Changes.{put}
use Rattle.area_list.proofs.Order.{IsGood}
use Rattle.area_rules.specs.declared.placement.Bounds.{Bounds}
use Rattle.area_rules.specs.Brk.{pages_between, heap_area, has_room_above}
use Rattle.area_rules.specs.Tables.{pages_of, space_of}
use Rattle.area_list.specs.Areas.{page_of, IsSound}
use Rattle.mm_types.specs.Config.{IsValidConfig}
use Rattle.mm_types.specs.declared.area.Span.{Span}
use Rattle.mm_types.specs.declared.call.Counters.{Counters}
use Rattle.mm_types.specs.declared.config.Config.{Config}
use Rattle.split_merge.specs.Plans.{Makes}
use Rattle.sys_brk.proofs.Cases.{stays_full, stays_crowded, raises}
use Rattle.sys_brk.proofs.Planning.{at_break, kept_call, settled_call, settled_kept, settled_local, heap_local, raised_good, raised_sound}
use Rattle.sys_brk.proofs.plan_raise.Goals as goal

pub returns-then-not-has_room_above-clause-planned : goal.returns-then-not-has_room_above-clause-planned
returns-then-not-has_room_above-clause-planned g c = let areas : List Record = g.A.Areas.list c.args.areas.now in
    kept_call c.requires.prepared areas c.args.plan.now refl c.args.old_break c.args.addr c.requires.sound
    (λ objects. stays_full c.args.config.now _ c.args.addr c.requires.heap c.requires.raised
    (sym (c.has_room_above.ensures (at_break c.args.old_break objects) refl) ∙ c.if-not-has_room_above.true))
    c.requires.prepared.fresh.empty

-- an area on the pages that are taken is valid and ends below the limit
put_good : (config : Config) (areas : List Record) (old_break addr : ℕ) (test : Bool) (span : Span) (area : Record) → IsSound config areas
    → IsValidConfig config → pages_of old_break < pages_of addr
    → ((counters : Counters) → counters.brk ≡ old_break → test ≡ has_room_above config (space_of areas counters) addr) → test ≡ true
    → area ≡ heap_area span → span ≡ pages_between old_break addr → IsGood (page_of config.limit) area
put_good config areas old_break addr test span area sound valid higher room has is pages =
    subst (IsGood (page_of config.limit)) (sym (is ∙ ap heap_area pages))
    (raised_good config areas sound old_break addr valid higher (sym (room (at_break old_break 0) refl) ∙ has))

pub plan_put-requires-clause-valid : goal.plan_put-requires-clause-valid
plan_put-requires-clause-valid g c = (put_good c.args.config.now (g.A.Areas.list c.args.areas.now) c.args.old_break c.args.addr c.has_room_above.result
    c.pages_between.result c.heap_area-taken.result c.requires.sound c.requires.valid c.requires.raised c.has_room_above.ensures
    c.if-not-has_room_above.false c.heap_area-taken.ensures c.pages_between.ensures).valid

pub plan_put-requires-clause-within : goal.plan_put-requires-clause-within
plan_put-requires-clause-within g c = omega (
  arith,
  (put_good c.args.config.now (g.A.Areas.list c.args.areas.now) c.args.old_break c.args.addr c.has_room_above.result
      c.pages_between.result c.heap_area-taken.result c.requires.sound c.requires.valid c.requires.raised c.has_room_above.ensures
      c.if-not-has_room_above.false c.heap_area-taken.ensures c.pages_between.ensures).below_end,
  ap (λ (b : Bounds). b.limit) c.requires.prepared.numbers,
)

pub returns-clause-planned : goal.returns-clause-planned
returns-clause-planned g c = let areas : List Record = g.A.Areas.list c.args.areas.now in
    let room : (objects : ℕ) → has_room_above c.args.config.now (space_of areas (at_break c.args.old_break objects)) c.args.addr ≡ true =
    λ objects. sym (c.has_room_above.ensures (at_break c.args.old_break objects) refl) ∙ c.if-not-has_room_above.false in
    settled_call c.requires.prepared areas c.settle_break.new.plan (c.settle_break.ensures.room ∙ c.plan_put.ensures.room) c.args.old_break c.args.addr
    c.plan_put.new.plan.changes (put (heap_area (pages_between c.args.old_break c.args.addr)) areas) c.settle_break.result c.requires.sound
    (subst (λ area. Makes c.plan_put.new.plan.changes areas (put area areas)) (c.heap_area-taken.ensures ∙ ap heap_area c.pages_between.ensures)
    c.plan_put.ensures.makes)
    c.settle_break.ensures.reply c.settle_break.ensures.changes
    (λ long objects. stays_crowded c.args.config.now _ c.args.addr c.requires.heap c.requires.raised (room objects) long)
    (λ short objects. raises c.args.config.now _ c.args.addr c.requires.heap c.requires.raised (room objects) short)
    (raised_sound c.args.config.now areas c.requires.sound c.args.old_break c.args.addr c.requires.valid c.requires.raised (room 0))

pub returns-clause-kept : goal.returns-clause-kept
returns-clause-kept g c = settled_kept c.args.addr c.args.old_break _ c.plan_put.new.plan.changes c.settle_break.new.plan.changes c.settle_break.result
    (λ alike. omega (arith, alike, c.requires.raised)) c.settle_break.ensures.reply c.settle_break.ensures.changes

pub returns-clause-local : goal.returns-clause-local
returns-clause-local g c = let areas : List Record = g.A.Areas.list c.args.areas.now in
    settled_local (pages_between c.args.old_break c.args.addr) areas _ c.plan_put.new.plan.changes c.settle_break.new.plan.changes
    c.settle_break.ensures.changes
    (heap_local c.heap_area-taken.result (pages_between c.args.old_break c.args.addr) areas c.plan_put.new.plan.changes
    (c.heap_area-taken.ensures ∙ ap heap_area c.pages_between.ensures) c.plan_put.ensures.local)
