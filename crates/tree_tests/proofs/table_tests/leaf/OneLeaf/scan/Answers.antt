-- For `OneLeaf::scan`: the present tree stays.
use Rattle.std.proofs.Common.{◌∙◌, ap}
use Rattle.area_tree.proofs.Scanning.{scan_scans}
use Rattle.tree_tests.proofs.table_tests.leaf.OneLeaf.scan.Goals as goal

pub invariant_of-self-clause-number : goal.invariant_of-self-clause-number
invariant_of-self-clause-number c =
    let view = c.scan.ensures.view in
    let freed = c.scan.ensures.freed in
    let scans = scan_scans c.args.self.now.writer c.scan.new.writer view.0 freed.0 view.2 freed.2 freed.3 in
    ap (λ t. t.number) scans.same.tree ∙ c.args.self.now.number
