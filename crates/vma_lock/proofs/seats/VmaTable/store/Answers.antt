-- For `store`: the step keeps the rule.
use Rattle.std.proofs.Common.{◌∙◌, ap, arith}
use Rattle.vma_lock.proofs.Marking.{store_allows}
use Rattle.vma_lock.proofs.Seating.{store_kept}
use Rattle.vma_lock.proofs.seats.VmaTable.store.Goals as goal

pub store-requires : goal.store-requires
store-requires c =
    let kept = c.args.writer.now.kept in
    let sized = c.args.self.now.sized in
    rw c.deref.ensures (rw c.field_place-place.ensures (
      c.requires.table,
      omega (arith, sized.words_are, c.requires.slot, c.requires.field),
      store_allows _ _ _ _ _ _ _ kept.kind c.requires.open c.requires.slot c.requires.field c.requires.marked,
    ))

pub invariant_of-writer : goal.invariant_of-writer
invariant_of-writer c =
    let told = c.store.ensures.2 c.args.slot.0 c.args.field c.requires.field c.field_place-place.ensures in
    record {
      kept = store_kept _ _ _ _ _ _ _ _ _ _ _ c.args.writer.now.kept (ap (λ id. id.words) c.store.ensures.0) told.0;
      table_is = c.store.ensures.0 ∙ c.args.writer.now.table_is;
    }

pub returns-clause-wide : goal.returns-clause-wide
returns-clause-wide c = (c.store.ensures.2 c.args.slot.0 c.args.field c.requires.field c.field_place-place.ensures).1
