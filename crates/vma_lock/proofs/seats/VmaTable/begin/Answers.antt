-- For `begin`: the step keeps the rule.
use Rattle.std.proofs.Common.{arith}
use Rattle.vma_lock.proofs.Seating.{begin_owes}
use Rattle.vma_lock.proofs.seats.VmaTable.begin.Goals as goal

pub store-requires : goal.store-requires
store-requires c =
    let kept = c.args.writer.now.kept in
    let sized = c.args.self.now.sized in
    rw c.deref.ensures (
      c.requires.table,
      omega (arith, sized.words_are),
      begin_owes _ _ _ _ _ kept.kind kept.seq_is c.requires.closed (omega (arith, kept.counted, kept.seq_is, c.requires.closed, c.requires.room)),
    )
