-- For `gap_begin`: the entry that has the page before.
use Rattle.std.proofs.Common.{◌-◌}
use Rattle.maple_node.specs.Trees.{entries_of}
use Rattle.node_slots.specs.Built.{words_at}
use Rattle.maple_write.specs.Internal.Tables.{table_at}
use Rattle.maple_write.specs.Internal.Stores.{tree_under}
use Rattle.maple_write.proofs.Stores.{entry_found, entry_begins, lo_zero, lo_gap, lo_slot}
use Rattle.maple_write.proofs.storing.gap_begin.Goals as goal

pub returns-then-page-eq0 : goal.returns-then-page-eq0
returns-then-page-eq0 c = lo_zero c.args.page (entries_of (words_at c.args.writer.now) (tree_under c.args.descent.now.tree)) c.if-page-eq0.true

pub returns-then-place-eq0 : goal.returns-then-place-eq0
returns-then-place-eq0 c =
    let table = table_at c.args.writer.now in
    let tree = c.args.descent.now.tree in
    let place = c.find-place.result in
    lo_gap c.args.page place.start place.item (entries_of (words_at c.args.writer.now) (tree_under tree)) c.if-page-eq0.false
    (entry_found table tree (c.args.page - 1) place.item c.find-place.ensures.item)
    (entry_begins table tree (c.args.page - 1) place.start c.find-place.ensures.start) c.if-place-eq0.true

pub returns-else-place-eq0 : goal.returns-else-place-eq0
returns-else-place-eq0 c =
    let table = table_at c.args.writer.now in
    let tree = c.args.descent.now.tree in
    let place = c.find-place.result in
    lo_slot c.args.page place.item (entries_of (words_at c.args.writer.now) (tree_under tree)) c.if-page-eq0.false
    (entry_found table tree (c.args.page - 1) place.item c.find-place.ensures.item) c.if-place-eq0.false
