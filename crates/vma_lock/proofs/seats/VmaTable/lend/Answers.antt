-- For `lend`: the split, the join and the load that tells of it keep the rule.
use Rattle.std.proofs.Common.{◌∙◌, sym, ap, arith}
use Rattle.lock_core.specs.Core.{slot_held}
use Rattle.vma_lock.proofs.Turning.{turn_splits, lent_joins, tell_allows}
use Rattle.vma_lock.proofs.seats.VmaTable.lend.Goals as goal

pub split_seat-note-requires : goal.split_seat-note-requires
split_seat-note-requires c =
    let sized = c.args.self.now.sized in
    rw c.deref.ensures (c.requires.tables.1, omega (arith, sized.words_are), turn_splits _ _ _ (λ spent. let e = sym c.args.seat.now.kept.kind ∙ spent in cc))

pub join_seat-requires : goal.join_seat-requires
join_seat-requires c =
    let sized = c.args.self.now.sized in
    let note = c.split_seat-note.ensures in
    rw c.deref.ensures (
      c.requires.tables.0,
      note.3 ∙ c.requires.tables.1,
      ap (λ m. m.1) note.4,
      omega (arith, sized.words_are),
      lent_joins _ _ _ _ _ c.args.writer.now.kept.kind (ap (λ m. slot_held m.0.stage) note.4),
    )

pub load-requires : goal.load-requires
load-requires c =
    let sized = c.args.self.now.sized in
    rw c.deref.ensures (c.join_seat.ensures.0 ∙ c.requires.tables.0, omega (arith, sized.words_are), tell_allows _ _ _ _)
