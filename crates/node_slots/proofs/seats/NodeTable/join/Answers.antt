-- For `join`: the join keeps the rule.
use Rattle.std.proofs.Common.{refl, ap, arith}
use Rattle.node_slots.proofs.Joining.{reader_joins}
use Rattle.node_slots.proofs.Seating.{reader_kept}
use Rattle.node_slots.proofs.seats.NodeTable.join.Goals as goal

pub join_seat-requires : goal.join_seat-requires
join_seat-requires c =
    let sized = c.args.self.now.sized in
    rw c.deref.ensures (
      c.requires.tables.0.same,
      c.requires.tables.1.same,
      c.args.other.kept.empty,
      omega (arith, sized.words_are),
      reader_joins _ _ _ _ _ c.args.seat.now.kept.kind,
    )

pub invariant_of-seat : goal.invariant_of-seat
invariant_of-seat c = record {
  kept = reader_kept _ _ _ _ _ _ _ c.args.seat.now.kept (ap (λ id. id.words) c.join_seat.ensures.0) c.join_seat.ensures.2 refl refl refl
      refl (λ shown is. is);
}
