-- For `give_back_turn`: the split and the join keep the rule.
use Rattle.std.proofs.Common.{◌∙◌, sym, ap, arith}
use Rattle.lock_core.specs.Core.{slot_held}
use Rattle.vma_lock.proofs.Turning.{turn_splits, returned_joins}
use Rattle.vma_lock.proofs.seats.VmaTable.give_back_turn.Goals as goal

pub split_seat-note-requires : goal.split_seat-note-requires
split_seat-note-requires c =
    let sized = c.args.self.now.sized in
    rw c.deref.ensures (c.requires.0, omega (arith, sized.words_are), turn_splits _ _ _ (λ spent. let e = sym c.args.writer.now.kept.kind ∙ spent in cc))

pub join_seat-requires : goal.join_seat-requires
join_seat-requires c =
    let sized = c.args.self.now.sized in
    let note = c.split_seat-note.ensures in
    rw c.deref.ensures (
      c.requires.1,
      note.3 ∙ c.requires.0,
      ap (λ m. m.1) note.4,
      omega (arith, sized.words_are),
      returned_joins _ _ _ _ _ c.args.seat.now.kept.kind (ap (λ m. slot_held m.0.stage) note.4),
    )
