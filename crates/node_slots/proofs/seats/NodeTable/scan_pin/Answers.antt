-- For `scan_pin`: the step keeps the rule.
use Rattle.std.proofs.Common.{◌∙◌, ap, arith}
use Rattle.node_slots.proofs.Storing.{scan_allows}
use Rattle.node_slots.proofs.Seating.{scan_kept}
use Rattle.node_slots.proofs.seats.NodeTable.scan_pin.Goals as goal

pub load-found-requires : goal.load-found-requires
load-found-requires c =
    let kept = c.args.seat.now.kept in
    let sized = c.args.self.now.sized in
    let size = ap (λ s. s.readers) sized.size_is in
    rw c.deref.ensures (rw c.pin_place-place.ensures (
      c.requires.table.same,
      omega (arith, sized.words_are, c.requires.reader),
      scan_allows _ _ _ _ _ kept.kind (omega (arith, c.requires.reader, size)),
    ))

pub invariant_of-seat : goal.invariant_of-seat
invariant_of-seat c =
    let size = ap (λ s. s.readers) c.requires.table.size_is in
    record {
      kept = scan_kept _ _ _ _ _ _ _ _ _ _ c.args.seat.now.kept (omega (arith, c.requires.reader, size)) c.index-clearing.ensures c.looked.ensures
          (c.load-found.ensures.2 c.args.reader c.pin_place-place.ensures);
      filled = c.args.seat.now.filled;
      room = c.args.seat.now.room;
      table_is = c.load-found.ensures.0 ∙ c.args.seat.now.table_is;
    }

pub returns-clause-view : goal.returns-clause-view
returns-clause-view c = ap (λ m. m.0) (c.load-found.ensures.2 c.args.reader c.pin_place-place.ensures)
