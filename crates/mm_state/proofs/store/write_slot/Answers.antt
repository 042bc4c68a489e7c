-- For `write_slot`: what a mark and four stores make of the slot.
use Rattle.std.proofs.Common.{ap, arith}
use Rattle.vma_lock.specs.Seats.{lock_sight}
use Rattle.vma_lock.proofs.Seating.{slots_known}
use Rattle.mm_state.proofs.Writing.{written}
use Rattle.mm_state.proofs.store.write_slot.Goals as goal

pub returns-clause-written : goal.returns-clause-written
returns-clause-written g c =
    let writer = c.args.writer.now in
    let sized = c.args.table.now.sized in
    let same = ap (λ id. id.words) c.requires.table in
    let known = slots_known _ _ _ _ _ _ writer.kept in
    written (lock_sight writer) (lock_sight c.mark.new.writer) (lock_sight c.write_row.new.writer) c.args.slot.0 c.args.row
    (omega (arith, known, writer.kept.sized, same, sized.words_are, c.requires.slot)) c.mark.ensures.marked c.write_row.ensures.view
