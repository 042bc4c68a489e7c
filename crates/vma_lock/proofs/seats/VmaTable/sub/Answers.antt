-- For `sub`: the step keeps the rule.
use Rattle.std.proofs.Common.{ap, arith}
use Rattle.vma_lock.proofs.Seating.{sub_owes}
use Rattle.vma_lock.proofs.seats.VmaTable.sub.Goals as goal

pub fetch_sub-requires : goal.fetch_sub-requires
fetch_sub-requires c =
    let kept = c.args.seat.now.kept in
    let same = ap (λ id. id.words) c.requires.table in
    rw c.deref.ensures (rw c.mark_place-place.ensures (
      c.requires.table,
      omega (arith, kept.within, same),
      sub_owes _ _ _ _ _ _ _ kept c.requires.held,
    ))
