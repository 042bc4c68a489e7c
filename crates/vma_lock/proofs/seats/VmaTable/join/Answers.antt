-- For `join`: the join and the load that tells of it keep the rule.
use Rattle.std.proofs.Common.{◌∙◌, ap, arith}
use Rattle.lock_core.specs.Core.{slot_held}
use Rattle.vma_lock.proofs.Turning.{reader_joins, tell_allows}
use Rattle.vma_lock.proofs.seats.VmaTable.join.Goals as goal

pub join_seat-requires : goal.join_seat-requires
join_seat-requires c =
    let sized = c.args.self.now.sized in
    rw c.deref.ensures (
      c.requires.tables.0,
      c.requires.tables.1,
      c.args.other.kept.empty,
      omega (arith, sized.words_are),
      reader_joins _ _ _ _ _ c.args.seat.now.kept.kind (ap slot_held c.requires.free),
    )

pub load-requires : goal.load-requires
load-requires c =
    let sized = c.args.self.now.sized in
    rw c.deref.ensures (c.join_seat.ensures.0 ∙ c.requires.tables.0, omega (arith, sized.words_are), tell_allows _ _ _ _)
