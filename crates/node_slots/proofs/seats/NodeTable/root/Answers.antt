-- For `root`: the step keeps the rule.
use Rattle.std.proofs.Common.{ap, arith}
use Rattle.node_slots.proofs.Walking.{root_allows}
use Rattle.node_slots.proofs.Seating.{root_kept}
use Rattle.node_slots.proofs.seats.NodeTable.root.Goals as goal

pub load-found-requires : goal.load-found-requires
load-found-requires c =
    let kept = c.args.seat.now.kept in
    let same = ap (λ id. id.words) c.requires.table.same in
    rw c.deref.ensures (
      c.requires.table.same,
      omega (arith, kept.within, same),
      root_allows _ _ _ _ kept.kind c.requires.open,
    )

pub invariant_of-seat : goal.invariant_of-seat
invariant_of-seat c =
    let told = c.load-found.ensures.2 in
    record {
      kept = root_kept _ _ _ _ _ _ _ told.0 c.args.seat.now.kept (ap (λ id. id.words) c.load-found.ensures.0) told.4 told.3
          c.saturating_add-seat.ensures;
    }
