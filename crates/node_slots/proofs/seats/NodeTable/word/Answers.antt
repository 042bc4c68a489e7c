-- For `word`: the step keeps the rule.
use Rattle.std.proofs.Common.{refl, ap, arith}
use Rattle.node_slots.proofs.Walking.{word_allows}
use Rattle.node_slots.proofs.Seating.{reader_kept}
use Rattle.node_slots.proofs.seats.NodeTable.word.Goals as goal

pub load-requires : goal.load-requires
load-requires c =
    let kept = c.args.seat.now.kept in
    let sized = c.args.self.now.sized in
    let shown = c.requires.shown in
    let there = kept.exist shown.0 shown.1 c.args.row.0 shown.2 in
    let size = c.requires.table.size_is in
    let rows = ap (λ s. s.rows) size in
    rw c.deref.ensures (rw c.word_place-place.ensures (
      c.requires.table.same,
      omega (arith, sized.words_are, there, rows, c.requires.place),
      word_allows _ _ _ _ _ kept.kind,
    ))

pub invariant_of-seat : goal.invariant_of-seat
invariant_of-seat c = record {
  kept = reader_kept _ _ _ _ _ _ _ c.args.seat.now.kept (ap (λ id. id.words) c.load.ensures.0) c.load.ensures.2.0 refl refl refl
      refl (λ shown is. is);
}
