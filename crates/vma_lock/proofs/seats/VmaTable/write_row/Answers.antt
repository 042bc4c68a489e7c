-- For `write_row`: four stores write the row.
use Rattle.std.proofs.Common.{ap, arith}
use Rattle.vma_lock.proofs.Seating.{slots_known, row_stored}
use Rattle.vma_lock.proofs.seats.VmaTable.write_row.Goals as goal

pub returns-clause-view : goal.returns-clause-view
returns-clause-view c =
    let writer = c.args.writer.now in
    let sized = c.args.self.now.sized in
    let same = ap (λ id. id.words) c.requires.table in
    let known = slots_known _ _ _ _ _ _ writer.kept in
    row_stored _ _ _ _ _ c.args.slot.0 c.args.row c.store.ensures.view c.store-2.ensures.view c.store-3.ensures.view c.store-4.ensures.view
    (omega (arith, known, writer.kept.sized, same, sized.words_are, c.requires.slot)) c.store.ensures.wide (omega arith)
