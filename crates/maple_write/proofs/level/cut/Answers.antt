-- For `cut`: the nodes that have the first page and the last one.
use Rattle.std.proofs.Common.{◌-◌, List, sym, subst, arith}
use Rattle.maple_node.specs.declared.item.NodeItem.{NodeItem}
use Rattle.maple_write.specs.Internal.Tables.{table_at}
use Rattle.maple_write.specs.Internal.Stores.{level_in, Cut}
use Rattle.maple_write.proofs.Writers.{rows_counted, few_rows}
use Rattle.maple_write.proofs.Steps.{upper_of, there_at, cut_of}
use Rattle.maple_write.proofs.level.cut.Goals as goal

pub find-left-requires-clause-tower : goal.find-left-requires-clause-tower
find-left-requires-clause-tower c = (upper_of (table_at c.args.writer.now) (level_in c.args.state.now) c.requires.writing.partly c.requires.below).above

pub joined-requires-clause-left : goal.joined-requires-clause-left
joined-requires-clause-left c =
    let there = there_at (table_at c.args.writer.now) (level_in c.args.state.now) c.args.state.now.lo c.find-left.result.item
    c.requires.writing.partly c.requires.below c.find-left.ensures.item in
    let row = there.row in
    let long = rows_counted c.args.writer.now in
    omega arith

pub joined-requires-clause-right : goal.joined-requires-clause-right
joined-requires-clause-right c =
    let there = there_at (table_at c.args.writer.now) (level_in c.args.state.now) (c.args.state.now.replacement.end - 1) c.last-right.result.item
    c.requires.writing.partly c.requires.below c.last-right.ensures in
    let row = there.row in
    let long = rows_counted c.args.writer.now in
    omega arith

pub returns : goal.returns
returns c =
    let table = table_at c.args.writer.now in
    let level = level_in c.args.state.now in
    let left = c.find-left.result in
    let right = c.last-right.result.item in
    let pages = c.requires.writing.partly.pages in
    let is = cut_of table level (level.hi - 1) left.start left.item right c.requires.writing.partly c.requires.below
    c.find-left.ensures.item (omega arith) c.last-right.ensures c.find-left.ensures.start in
    subst (λ (xs : List NodeItem). Cut table level left.start right.end xs) (sym c.joined.ensures) is

pub overflow_cast-result : goal.overflow_cast-result
overflow_cast-result c =
    let there = there_at (table_at c.args.writer.now) (level_in c.args.state.now) c.args.state.now.lo c.find-left.result.item
    c.requires.writing.partly c.requires.below c.find-left.ensures.item in
    let row = there.row in
    let long = rows_counted c.args.writer.now in
    let few = few_rows c.args.writer.now in
    omega arith
