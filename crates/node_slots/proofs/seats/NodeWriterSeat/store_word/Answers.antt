-- For `store_word`: the step keeps the rule.
use Rattle.std.proofs.Common.{ℕ, ◌∙◌, List, ap, arith}
use Rattle.std.proofs.lemmas.List.{length-set}
use Rattle.node_slots.proofs.Storing.{store_owes}
use Rattle.node_slots.proofs.Seating.{store_kept}
use Rattle.node_slots.proofs.seats.NodeWriterSeat.store_word.Goals as goal

pub store-requires : goal.store-requires
store-requires c =
    let kept = c.args.self.now.kept in
    let sized = c.args.self.now.table.sized in
    let rows = c.args.self.now.filled in
    rw c.deref.ensures (rw c.word_place-at.ensures (
      c.args.self.now.table_is,
      omega (arith, sized.words_are, c.requires.row, rows, c.requires.place),
      store_owes _ _ _ _ _ _ _ _ sized.size_is kept.kind (omega (arith, c.requires.row, rows)) c.requires.place c.requires.free,
    ))

pub invariant_of-self-2 : goal.invariant_of-self-2
invariant_of-self-2 c =
    let seat = c.args.self.now in
    let readers = ap (λ s. s.readers) seat.kept.size_is in
    record {
      kept = store_kept _ _ _ _ _ _ _ _ _ _ seat.kept c.requires.row c.index_mut-words.ensures.value
          (c.store.ensures.2 c.args.row.0 c.args.place c.requires.place (omega (arith, readers, c.word_place-at.ensures)));
      filled = omega (arith, seat.filled, length-set {A = List ℕ});
      room = seat.room;
      table_is = c.store.ensures.0 ∙ seat.table_is;
    }
