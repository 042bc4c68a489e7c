-- For `look`: the step keeps the rule.
use Rattle.std.proofs.Common.{arith}
use Rattle.vma_lock.proofs.Looking.{look_allows}
use Rattle.vma_lock.proofs.seats.VmaTable.look.Goals as goal

pub load-found-requires : goal.load-found-requires
load-found-requires c =
    let sized = c.args.self.now.sized in
    rw c.deref.ensures (c.requires, omega (arith, sized.words_are), look_allows _ _ _ _ c.args.seat.now.kept.kind)
