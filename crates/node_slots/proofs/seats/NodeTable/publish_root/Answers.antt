-- For `publish_root`: the step keeps the rule.
use Rattle.std.proofs.Common.{◌∙◌, ap, arith}
use Rattle.node_slots.proofs.Storing.{publish_owes}
use Rattle.node_slots.proofs.Seating.{publish_kept}
use Rattle.node_slots.proofs.seats.NodeTable.publish_root.Goals as goal

pub store-requires : goal.store-requires
store-requires c =
    let kept = c.args.seat.now.kept in
    let sized = c.args.self.now.sized in
    rw c.deref.ensures (
      c.requires.table.same,
      omega (arith, sized.words_are),
      publish_owes _ _ _ _ _ _ c.pack_root-word.ensures kept.kind (kept.size_is ∙ c.requires.table.size_is
          ∙ sized.size_is) c.requires.fits c.requires.later c.requires.shown c.requires.exist,
    )

pub invariant_of-seat : goal.invariant_of-seat
invariant_of-seat c = record {
  kept = publish_kept _ _ _ _ _ _ _ c.args.seat.now.kept c.requires.fits (c.store.ensures.2 c.args.root c.requires.fits c.pack_root-word.ensures);
  filled = c.args.seat.now.filled;
  room = c.args.seat.now.room;
  table_is = c.store.ensures.0 ∙ c.args.seat.now.table_is;
}

pub returns-clause-view : goal.returns-clause-view
returns-clause-view c = ap (λ m. m.0) (c.store.ensures.2 c.args.root c.requires.fits c.pack_root-word.ensures)
