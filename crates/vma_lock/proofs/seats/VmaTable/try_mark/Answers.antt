-- For `try_mark`: the step keeps the rule, and the writer knows the mark word.
use Rattle.std.proofs.Common.{◌∙◌, ap, arith}
use Rattle.vma_lock.specs.Views.{try_at}
use Rattle.vma_lock.proofs.Seating.{mark_known, mark_owes, mark_kept, try_kept}
use Rattle.vma_lock.proofs.seats.VmaTable.try_mark.Goals as goal

pub compare_exchange-found-requires : goal.compare_exchange-found-requires
compare_exchange-found-requires c =
    let kept = c.args.writer.now.kept in
    let sized = c.args.self.now.sized in
    let same = ap (λ id. id.words) c.requires.table in
    rw c.deref.ensures (rw c.mark_place-place.ensures (
      c.requires.table,
      omega (arith, sized.words_are, c.requires.slot),
      mark_owes _ _ _ _ _ _ _ kept.kind kept.seq_is c.requires.open c.requires.slot
          (mark_known _ _ _ _ _ _ _ _ kept (omega (arith, kept.sized, same, sized.words_are, c.requires.slot)) c.index-free.ensures),
    ))

pub invariant_of-writer : goal.invariant_of-writer
invariant_of-writer c =
    let told = c.compare_exchange-found.ensures.2 c.args.slot.0 c.mark_place-place.ensures in
    record {
      kept = mark_kept _ _ _ _ _ _ _ _ _ _ c.args.writer.now.kept (ap (λ id. id.words) c.compare_exchange-found.ensures.0) (told.0 c.if-found-free.true);
      table_is = c.compare_exchange-found.ensures.0 ∙ c.args.writer.now.table_is;
    }

pub invariant_of-writer-else-found-free : goal.invariant_of-writer-else-found-free
invariant_of-writer-else-found-free c =
    let told = c.compare_exchange-found.ensures.2 c.args.slot.0 c.mark_place-place.ensures in
    record {
      kept = try_kept _ _ _ _ _ _ _ _ _ _ c.args.writer.now.kept (ap (λ id. id.words) c.compare_exchange-found.ensures.0) (told.1 c.if-found-free.false).2;
      table_is = c.compare_exchange-found.ensures.0 ∙ c.args.writer.now.table_is;
    }

pub overflow_sub-result : goal.overflow_sub-result
overflow_sub-result c =
    let told = c.compare_exchange-found.ensures.2 c.args.slot.0 c.mark_place-place.ensures in
    omega (arith, (told.1 c.if-found-free.false).0)

pub returns-else-found-free-clause-view : goal.returns-else-found-free-clause-view
returns-else-found-free-clause-view c =
    let kept = c.args.writer.now.kept in
    let sized = c.args.self.now.sized in
    let same = ap (λ id. id.words) c.requires.table in
    let told = (c.compare_exchange-found.ensures.2 c.args.slot.0 c.mark_place-place.ensures).1 c.if-found-free.false in
    let known = mark_known _ _ _ _ _ _ _ _ kept (omega (arith, kept.sized, same, sized.words_are, c.requires.slot)) c.index-free.ensures in (
      omega (arith, told.0),
      omega (arith, told.1),
      ap (λ m. m.0) told.2 ∙ ap (try_at c.args.writer.now.seat.me.0 c.args.slot.0) (omega (arith, told.0, known)),
    )
