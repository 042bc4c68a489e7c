-- For `end`: the step keeps the rule.
use Rattle.std.proofs.Common.{◌∙◌, refl, ap, arith}
use Rattle.vma_lock.proofs.Seating.{end_owes, end_kept}
use Rattle.vma_lock.proofs.seats.VmaTable.end.Goals as goal

pub compare_exchange_with-writer-requires : goal.compare_exchange_with-writer-requires
compare_exchange_with-writer-requires c =
    let kept = c.args.writer.now.kept in
    let sized = c.args.self.now.sized in
    rw c.deref.ensures (
      c.requires.table,
      omega (arith, sized.words_are),
      end_owes _ _ _ _ _ _ kept.kind kept.seq_is c.requires.open c.requires.reply c.requires.exact c.requires.turn,
    )

pub invariant_of-writer : goal.invariant_of-writer
invariant_of-writer c =
    let told = c.compare_exchange_with-writer.ensures in
    record {
      kept = end_kept _ _ _ _ _ _ c.args.entry _ _ c.args.writer.now.kept (ap (λ id. id.words) told.0) c.requires.open (told.2 c.args.entry refl);
      table_is = told.0 ∙ c.args.writer.now.table_is;
    }
