-- For `split`: the split keeps the rule.
use Rattle.std.proofs.Common.{◌∙◌, sym, arith}
use Rattle.vma_lock.proofs.Turning.{note_splits}
use Rattle.vma_lock.proofs.seats.VmaTable.split.Goals as goal

pub split_seat-seat-requires : goal.split_seat-seat-requires
split_seat-seat-requires c =
    let sized = c.args.self.now.sized in
    rw c.deref.ensures (c.requires, omega (arith, sized.words_are), note_splits _ _ _ (λ spent. let e = sym c.args.seat.now.kept.kind ∙ spent in cc))
