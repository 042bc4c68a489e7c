-- For `enter_held`: the row that is written makes the rows exactly the list.
use Rattle.std.proofs.Common.{ap, arith}
use Rattle.vma_lock.specs.Seats.{lock_view, lock_sight}
use Rattle.vma_lock.proofs.Seating.{slots_known}
use Rattle.tree_tests.proofs.Small.{enter_owes, marking_from}
use Rattle.tree_tests.proofs.seat_tests.entering.enter_held.Goals as goal

pub end-requires-clause-exact : goal.end-requires-clause-exact
end-requires-clause-exact g c =
    let writer = c.args.writer.now in
    let sized = c.args.table.now.sized in
    let same = ap (λ id. id.words) c.requires.tables.0 in
    let known = slots_known _ _ _ _ _ _ writer.kept in
    let tried = c.in-Err.ensures.view in
    enter_owes (lock_sight writer) (lock_sight c.lend.new.writer) (lock_sight c.begin.new.writer) (lock_sight c.mark.new.writer) (lock_sight c.write_row.new.writer)
    (lock_view c.args.seat.now) c.args.entry c.args.row c.lend.ensures.writer c.begin.ensures.view
    (marking_from (lock_sight c.begin.new.writer) (lock_sight c.try_mark.new.writer) (lock_sight c.mark.new.writer) 0 _ tried.2 c.mark.ensures.marked) c.write_row.ensures.view
    c.requires.slots (omega (arith, known, writer.kept.sized, same, sized.words_are)) c.requires.shows
