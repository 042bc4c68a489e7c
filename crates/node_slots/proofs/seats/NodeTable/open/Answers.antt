-- For `open`: the step keeps the rule.
use Rattle.std.proofs.Common.{refl, ap, arith}
use Rattle.node_slots.proofs.Walking.{open_allows}
use Rattle.node_slots.proofs.Seating.{reader_kept}
use Rattle.node_slots.proofs.seats.NodeTable.open.Goals as goal

pub fetch_add-requires : goal.fetch_add-requires
fetch_add-requires c =
    let kept = c.args.seat.now.kept in
    let same = ap (λ id. id.words) c.requires.table.same in
    rw c.deref.ensures (rw c.pin_place-place.ensures (
      c.requires.table.same,
      omega (arith, kept.within, same),
      open_allows _ _ _ _ _ kept.kind kept.reader_is c.requires.closed,
    ))

pub invariant_of-seat : goal.invariant_of-seat
invariant_of-seat c = record {
  kept = reader_kept _ _ _ _ _ _ _ c.args.seat.now.kept (ap (λ id. id.words) c.fetch_add.ensures.0) c.fetch_add.ensures.2 refl refl refl
      refl (λ shown is. is);
}
