-- For `gap_end`: the entry that has the page.
use Rattle.std.proofs.Common.{arith}
use Rattle.maple_node.specs.Trees.{entries_of}
use Rattle.node_slots.specs.Built.{words_at}
use Rattle.maple_write.specs.Internal.Tables.{table_at}
use Rattle.maple_write.specs.Internal.Stores.{tree_under}
use Rattle.maple_write.proofs.Stores.{covers, entry_found, hi_none, hi_gap, hi_slot}
use Rattle.maple_write.proofs.storing.gap_end.Goals as goal

pub returns-then-page-descent : goal.returns-then-page-descent
returns-then-page-descent c =
    let tree = c.args.descent.now.tree in
    let is = covers (table_at c.args.writer.now) (tree_under tree) c.requires.shaped in
    let ends = is.ends in
    let here = c.if-page-descent.true in
    hi_none c.args.page (entries_of (words_at c.args.writer.now) (tree_under tree)) is.ascends (omega arith)

pub returns-then-place-eq0 : goal.returns-then-place-eq0
returns-then-place-eq0 c =
    let tree = c.args.descent.now.tree in
    let place = c.find-place.result in
    hi_gap c.args.page place.item (entries_of (words_at c.args.writer.now) (tree_under tree))
    (entry_found (table_at c.args.writer.now) tree c.args.page place.item c.find-place.ensures.item) c.if-place-eq0.true

pub returns-else-place-eq0 : goal.returns-else-place-eq0
returns-else-place-eq0 c =
    let tree = c.args.descent.now.tree in
    let place = c.find-place.result in
    hi_slot c.args.page place.item (entries_of (words_at c.args.writer.now) (tree_under tree))
    (entry_found (table_at c.args.writer.now) tree c.args.page place.item c.find-place.ensures.item) c.if-place-eq0.false
