-- For `SpanTree::scan`: a scan keeps the tree.
use Rattle.std.proofs.Common.{◌∙◌, length, arith, ap}
use Rattle.grace_core.specs.Core.{since_at}
use Rattle.node_slots.specs.Seats.{writer_state, is_waiting, row_count}
use Rattle.area_tree.specs.SpanTrees.{SpanView}
use Rattle.area_tree.proofs.Scanning.{pins_same}
use Rattle.area_tree.proofs.Waits.{wait-none}
use Rattle.area_tree.proofs.SpanFacts.{scanned_kept, scanned_elapsed}
use Rattle.area_tree.proofs.spans.SpanTree.scan.Goals as goal

pub invariant_of-self : goal.invariant_of-self
invariant_of-self c = scanned_kept c.self.inside c.scan_once.new.writer c.scan_once.new.tally c.scan_once.ensures.table c.scan_once.ensures.scans c.self.invariant

pub returns-clause-elapsed : goal.returns-clause-elapsed
returns-clause-elapsed c =
    let more = scanned_elapsed c.self.inside.writer c.scan_once.new.writer c.scan_once.ensures.scans in
    omega (arith, more, ap (λ v. v.elapsed) c.self.view_is)

pub returns-clause-readers : goal.returns-clause-readers
returns-clause-readers c =
    let same = pins_same c.self.inside.writer c.scan_once.new.writer c.scan_once.ensures.scans in
    omega (arith, same, ap (λ (v : SpanView). length v.pins) c.self.view_is)

pub returns-clause-gone : goal.returns-clause-gone
returns-clause-gone c = λ out.
    let new = c.scan_once.new.writer in
    let kept = scanned_kept c.self.inside new c.scan_once.new.tally c.scan_once.ensures.table c.scan_once.ensures.scans c.self.invariant in
    wait-none (is_waiting new) (since_at (writer_state new).since) (writer_state new).tree.number (row_count new) (c.scan_once.ensures.gone out) ∙ kept.number
