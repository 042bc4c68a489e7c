-- For the test's `enter`: the row that is written makes the rows exactly the list.
use Rattle.std.proofs.Common.{◌∙◌, sym, ap, arith}
use Rattle.vma_lock.specs.Seats.{lock_sight}
use Rattle.vma_lock.proofs.Seating.{slots_known}
use Rattle.fault_path.specs.Passes.{ViewedTable}
use Rattle.fault_path.proofs.Benches.{entered_exactly}
use Rattle.fault_path.proofs.tests.bench.enter.Goals as goal

pub end-requires-clause-exact : goal.end-requires-clause-exact
end-requires-clause-exact c =
    let writer = c.args.writer.now in
    let sized = c.view.inside.table.sized in
    let same = ap (λ id. id.words) (c.requires.table ∙ sym (ap (λ (v : ViewedTable). v.table) c.view.view_is)) in
    let known = slots_known _ _ _ _ _ _ writer.kept in
    entered_exactly (lock_sight writer) (lock_sight c.begin.new.writer) (lock_sight c.try_mark.new.writer) (lock_sight c.write_row.new.writer) c.args.entry c.args.row _
    c.begin.ensures.view c.in-Ok.ensures.view c.write_row.ensures.view c.requires.slots (omega (arith, known, writer.kept.sized, same, sized.words_are))
    c.requires.shows
