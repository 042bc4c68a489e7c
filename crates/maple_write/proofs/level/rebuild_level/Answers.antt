-- For `rebuild_level`: the node where the new items begin.
use Rattle.std.proofs.Common.{arith}
use Rattle.maple_write.specs.Internal.Tables.{table_at}
use Rattle.maple_write.specs.Internal.Stores.{level_in}
use Rattle.maple_write.proofs.Writers.{rows_counted}
use Rattle.maple_write.proofs.Steps.{upper_of, there_at}
use Rattle.maple_write.proofs.level.rebuild_level.Goals as goal

pub find-left-requires-clause-tower : goal.find-left-requires-clause-tower
find-left-requires-clause-tower c = (upper_of (table_at c.args.writer.now) (level_in c.args.state.now) c.requires.writing.partly c.requires.below).above

pub words-requires : goal.words-requires
words-requires c =
    let there = there_at (table_at c.args.writer.now) (level_in c.args.state.now) c.args.state.now.lo c.find-left.result.item
    c.requires.writing.partly c.requires.below c.find-left.ensures.item in
    let row = there.row in
    let long = rows_counted c.args.writer.now in
    omega arith

pub rebuild_by_words-requires-clause-there : goal.rebuild_by_words-requires-clause-there
rebuild_by_words-requires-clause-there c =
    let there = there_at (table_at c.args.writer.now) (level_in c.args.state.now) c.args.state.now.lo c.find-left.result.item
    c.requires.writing.partly c.requires.below c.find-left.ensures.item in
    let row = there.row in
    let long = rows_counted c.args.writer.now in
    omega arith

pub rebuild_by_words-requires-then-renewed-clause-there : goal.rebuild_by_words-requires-then-renewed-clause-there
rebuild_by_words-requires-then-renewed-clause-there c =
    let there = there_at (table_at c.args.writer.now) (level_in c.args.state.now) c.args.state.now.lo c.find-left.result.item
    c.requires.writing.partly c.requires.below c.find-left.ensures.item in
    let row = there.row in
    let long = rows_counted c.args.writer.now in
    omega arith
