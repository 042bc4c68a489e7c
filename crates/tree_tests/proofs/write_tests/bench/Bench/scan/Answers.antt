-- For `Bench::scan`: scans leave the writer's tree as it is.
use Rattle.std.proofs.Common.{◌∙◌, ap}
use Rattle.area_tree.proofs.Scanning.{scan_scans}
use Rattle.area_tree.proofs.Writing.{scanned_writers}
use Rattle.tree_tests.proofs.write_tests.bench.Bench.scan.Goals as goal

pub invariant_of-self : goal.invariant_of-self
invariant_of-self c =
    let kept = c.self.invariant in
    let before = c.self.inside.writer in
    let after = c.scan.new.writer in
    let view = c.scan.ensures.view in
    let freed = c.scan.ensures.freed in
    let scans = scan_scans before after view.0 freed.0 view.2 freed.2 freed.3 in
    record {
      table = c.scan.ensures.table;
      shows = scanned_writers before after c.self.inside.tree scans kept.shows;
      rows = ap (λ s. s.rows) scans.same.size ∙ kept.rows;
      slots = ap (λ s. s.slots) scans.same.size ∙ kept.slots;
      number = ap (λ t. t.number) scans.same.tree ∙ kept.number;
    }
