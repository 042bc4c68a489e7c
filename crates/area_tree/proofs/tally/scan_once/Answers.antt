-- For `scan_once`: what a scan frees was left first, and it looks at each pin.
use Rattle.std.proofs.Common.{◌∙◌, sym, ap}
use Rattle.node_slots.specs.Seats.{free_of}
use Rattle.area_tree.proofs.Scanning.{scan_scans, scan_looks, more_free}
use Rattle.area_tree.proofs.tally.scan_once.Goals as goal

pub returns-clause-scans : goal.returns-clause-scans
returns-clause-scans c =
    let view = c.scan.ensures.view in
    let freed = c.scan.ensures.freed in
    scan_scans c.args.writer.now c.scan.new.writer view.0 freed.0 view.2 freed.2 freed.3

pub returns-clause-scanned : goal.returns-clause-scanned
returns-clause-scanned c =
    let view = c.scan.ensures.view in
    let writer = c.args.writer.now in
    scan_looks writer c.scan.new.writer view.0 view.2
    (view.1 ∙ sym (ap (λ s. s.readers) (writer.writer_state.kept.size_is ∙ c.requires.table.size_is)))

pub returns-clause-more : goal.returns-clause-more
returns-clause-more c = let freed = c.scan.ensures.freed in more_free (free_of c.args.writer.now) freed.0 (free_of c.scan.new.writer) freed.2
