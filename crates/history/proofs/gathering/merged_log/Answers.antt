-- For `merged_log`: its goals.
use Rattle.std.proofs.Common.{◌≤◌, arith}
use Rattle.area_rules.specs.Journals.{version_of}
use Rattle.history.proofs.Merging.{merge_log_start, merge_log_above, merge_log_more, merge_log_done}
use Rattle.history.proofs.gathering.merged_log.Goals as goal

pub loop-read-init : goal.loop-read-init
loop-read-init c = merge_log_start c.args.journal.now c.args.log.now c.in_ok-items.items.items c.in_ok-items.ensures.items

pub slice_bounds-push_entries-count : goal.slice_bounds-push_entries-count
slice_bounds-push_entries-count c =
    let above : c.loop-read.next ≤ version_of c.read-item.result = merge_log_above c.args.journal.now c.args.log.now c.loop-read.read-index
    c.read-item.result c.loop-read.items.items c.loop-read.next c.loop-read.invariant c.read-item.is c.loop-read-test.true in
    omega (arith, above, c.version_of.ensures, c.loop-read.invariant.within)

pub slice_bounds-push_entries-start : goal.slice_bounds-push_entries-start
slice_bounds-push_entries-start c =
    let above : c.loop-read.next ≤ version_of c.read-item.result = merge_log_above c.args.journal.now c.args.log.now c.loop-read.read-index
    c.read-item.result c.loop-read.items.items c.loop-read.next c.loop-read.invariant c.read-item.is c.loop-read-test.true in
    omega (arith, above, c.version_of.ensures, c.loop-read.invariant.within)

pub loop-read-preserved : goal.loop-read-preserved
loop-read-preserved c =
    merge_log_more c.args.journal.now c.args.log.now c.loop-read.read-index c.read-item.result c.in_ok-item_of.field-0 c.loop-read.items.items
    c.push_entries.new.items.items c.push.new.self.items c.loop-read.next c.min-upto.result c.requires c.loop-read.invariant c.read-item.is
    c.in_ok-item_of.ensures (omega (arith, c.version_of.ensures)) c.in_ok-push_entries.ensures c.in_ok-push.ensures.items c.loop-read-test.true

pub returns : goal.returns
returns c =
    merge_log_done c.args.journal.now c.args.log.now c.loop-read.read-index c.loop-read.items.items c.push_entries-2.new.items.items c.loop-read.next
    c.loop-read.invariant c.loop-read-test.false c.in_ok-push_entries-2.ensures
