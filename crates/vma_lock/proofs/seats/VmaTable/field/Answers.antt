-- For `field`: the step keeps the rule, and tells the word of the seat's row.
use Rattle.std.proofs.Common.{ap, arith}
use Rattle.vma_lock.proofs.Looking.{field_allows}
use Rattle.vma_lock.proofs.Seating.{field_kept, field_counts}
use Rattle.vma_lock.proofs.seats.VmaTable.field.Goals as goal

pub load-requires : goal.load-requires
load-requires c =
    let kept = c.args.seat.now.kept in
    let sized = c.args.self.now.sized in
    let same = ap (λ id. id.words) c.requires.table in
    rw c.deref.ensures (rw c.field_place-place.ensures (
      c.requires.table,
      omega (arith, kept.within, same, c.requires.field),
      field_allows _ _ _ _ _ _ kept.kind (omega (arith, kept.within, same, sized.words_are)) c.requires.field,
    ))

pub invariant_of-seat : goal.invariant_of-seat
invariant_of-seat c =
    let told = c.load.ensures.2 c.args.seat.now.slot c.args.field c.requires.field c.field_place-place.ensures in
    record {
      kept = field_kept _ _ _ _ _ _ _ c.args.seat.now.kept (ap (λ id. id.words) c.load.ensures.0) told.0;
      counts = field_counts _ _ _ _ _ c.args.seat.now.counts told.0;
    }

pub returns-clause-right : goal.returns-clause-right
returns-clause-right c = (c.load.ensures.2 c.args.seat.now.slot c.args.field c.requires.field c.field_place-place.ensures).2

pub returns-clause-view : goal.returns-clause-view
returns-clause-view c = ap (λ m. m.0) (c.load.ensures.2 c.args.seat.now.slot c.args.field c.requires.field c.field_place-place.ensures).0
