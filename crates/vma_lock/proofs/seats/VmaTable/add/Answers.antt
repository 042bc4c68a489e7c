-- For `add`: the step keeps the rule, and the seat knows its slot.
use Rattle.std.proofs.Common.{ap, arith}
use Rattle.vma_lock.proofs.Adding.{add_allows}
use Rattle.vma_lock.proofs.Seating.{add_kept, add_counts}
use Rattle.vma_lock.proofs.seats.VmaTable.add.Goals as goal

pub fetch_add-found-requires : goal.fetch_add-found-requires
fetch_add-found-requires c =
    let seat = c.args.seat.now in
    let sized = c.args.self.now.sized in
    rw c.deref.ensures (rw c.mark_place-place.ensures (
      c.requires.table,
      omega (arith, sized.words_are, c.requires.slot),
      add_allows _ _ _ _ seat.seat.me seat.kept.kind c.requires.free c.requires.slot,
    ))

pub invariant_of-seat-clause-kept : goal.invariant_of-seat-clause-kept
invariant_of-seat-clause-kept c =
    let seat = c.args.seat.now in
    let sized = c.args.self.now.sized in
    add_kept _ _ _ _ _ _ _ _ seat.kept (ap (λ id. id.words) c.fetch_add-found.ensures.0)
    (rw c.requires.table (omega (arith, sized.words_are, c.requires.slot))) (c.fetch_add-found.ensures.2 c.args.slot.0 c.mark_place-place.ensures)

pub returns-clause-view : goal.returns-clause-view
returns-clause-view c = ap (λ m. m.0) (c.fetch_add-found.ensures.2 c.args.slot.0 c.mark_place-place.ensures)

pub invariant_of-seat-clause-counts : goal.invariant_of-seat-clause-counts
invariant_of-seat-clause-counts c = add_counts _ _ _ _ _ _ c.args.seat.now.counts (c.fetch_add-found.ensures.2 c.args.slot.0 c.mark_place-place.ensures)
