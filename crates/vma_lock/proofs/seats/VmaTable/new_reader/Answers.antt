-- For `new_reader`: the split keeps the rule.
use Rattle.std.proofs.Common.{arith}
use Rattle.vma_lock.proofs.Turning.{reader_splits}
use Rattle.vma_lock.proofs.seats.VmaTable.new_reader.Goals as goal

pub split_seat-seat-requires : goal.split_seat-seat-requires
split_seat-seat-requires c =
    let sized = c.args.self.now.sized in
    rw c.deref.ensures (
      c.requires.table,
      omega (arith, sized.words_are),
      reader_splits _ _ _ c.args.writer.now.kept.kind (omega (arith, c.requires.caller.0, c.requires.caller.1)),
    )
