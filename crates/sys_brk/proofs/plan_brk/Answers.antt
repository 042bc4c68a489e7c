-- For `plan_brk`: below the heap, within a page, and the plans of a lower and of a higher break.
use Rattle.std.proofs.Common.{arith, List, refl, sym, ◌∙◌}
use Rattle.mm_types.specs.declared.area.Record.{Record}
use Rattle.split_merge.proofs.Refusing.{nothing_made}
use Rattle.sys_brk.proofs.Cases.{stays_below, moves_within, reply_is_break}
use Rattle.sys_brk.proofs.Planning.{kept_call, moved_call, fewer_pages}
use Rattle.sys_brk.proofs.plan_brk.Goals as goal

pub returns-then-is_below_heap-clause-planned : goal.returns-then-is_below_heap-clause-planned
returns-then-is_below_heap-clause-planned g c = kept_call c.requires.prepared (g.A.Areas.list c.args.areas.now) c.args.plan.now refl
    c.args.old_break c.args.addr c.requires.sound
    (λ objects. stays_below c.args.config.now _ c.args.addr (sym c.is_below_heap.ensures ∙ c.if-is_below_heap.true)) c.requires.prepared.fresh.empty

pub returns-then-is_below_heap-clause-moved : goal.returns-then-is_below_heap-clause-moved
returns-then-is_below_heap-clause-moved g c counters at =
    (returns-then-is_below_heap-clause-planned g c counters at).reply ∙ reply_is_break c.args.config.now _ c.args.addr

pub returns-then-new-old-clause-planned : goal.returns-then-new-old-clause-planned
returns-then-new-old-clause-planned g c = let areas : List Record = g.A.Areas.list c.args.areas.now in
    moved_call c.requires.prepared areas c.args.plan.now refl c.args.old_break c.args.addr areas
    (λ objects. moves_within c.args.config.now _ c.args.addr (sym c.is_below_heap.ensures ∙ c.if-is_below_heap.false)
    (sym c.pages_of-new.ensures.value ∙ c.if-new-old.true ∙ c.pages_of-old.ensures.value))
    (nothing_made c.args.plan.now.changes areas areas c.requires.prepared.fresh.empty refl) c.requires.sound

pub returns-then-new-old-clause-moved : goal.returns-then-new-old-clause-moved
returns-then-new-old-clause-moved g c counters at =
    (returns-then-new-old-clause-planned g c counters at).reply ∙ reply_is_break c.args.config.now _ c.args.addr

pub returns-then-new-old-2-clause-moved : goal.returns-then-new-old-2-clause-moved
returns-then-new-old-2-clause-moved g c counters at =
    (c.plan_lower.ensures.planned counters at).reply ∙ reply_is_break c.args.config.now _ c.args.addr

pub returns-else-new-old-2-clause-moved : goal.returns-else-new-old-2-clause-moved
returns-else-new-old-2-clause-moved g c counters at =
    (c.plan_raise.ensures.planned counters at).reply ∙ reply_is_break c.args.config.now _ c.args.addr

pub returns-then-new-old-2-clause-raised : goal.returns-then-new-old-2-clause-raised
returns-then-new-old-2-clause-raised g c higher = absurd (omega (
  arith,
  fewer_pages c.args.old_break c.args.addr higher,
  c.if-new-old-2.true,
  c.pages_of-old.ensures.value,
  c.pages_of-new.ensures.value,
))

pub returns-else-new-old-2-clause-lowered : goal.returns-else-new-old-2-clause-lowered
returns-else-new-old-2-clause-lowered g c lower = absurd (omega (
  arith,
  fewer_pages c.args.addr c.args.old_break lower,
  c.if-new-old.false,
  c.if-new-old-2.false,
  c.pages_of-old.ensures.value,
  c.pages_of-new.ensures.value,
))
