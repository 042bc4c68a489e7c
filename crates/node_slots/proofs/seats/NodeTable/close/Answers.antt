-- For `close`: the step keeps the rule.
use Rattle.std.proofs.Common.{ap, arith}
use Rattle.node_slots.proofs.Walking.{close_allows}
use Rattle.node_slots.proofs.seats.NodeTable.close.Goals as goal

pub fetch_add-requires : goal.fetch_add-requires
fetch_add-requires c =
    let kept = c.args.seat.now.kept in
    let same = ap (λ id. id.words) c.requires.table.same in
    rw c.deref.ensures (rw c.pin_place-place.ensures (
      c.requires.table.same,
      omega (arith, kept.within, same),
      close_allows _ _ _ _ _ kept.kind kept.reader_is,
    ))
