-- For `new_reader`: the split keeps the rule.
use Rattle.std.proofs.Common.{ap, arith}
use Rattle.node_slots.proofs.Joining.{reader_splits}
use Rattle.node_slots.proofs.seats.NodeTable.new_reader.Goals as goal

pub split_seat-seat-requires : goal.split_seat-seat-requires
split_seat-seat-requires c =
    let sized = c.args.self.now.sized in
    let size = ap (λ s. s.readers) sized.size_is in
    rw c.deref.ensures (
      c.requires.table.same,
      omega (arith, sized.words_are),
      reader_splits _ _ _ c.args.writer.now.writer_state.kept.kind (omega (arith, c.requires.reader.0, c.requires.reader.1, size)),
    )
