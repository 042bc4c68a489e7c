-- For `last`: the node where the new items begin has their last page too, or another one has it.
use Rattle.std.proofs.Common.{◌-◌, arith}
use Rattle.maple_write.specs.Internal.Tables.{table_at}
use Rattle.maple_write.specs.Internal.Stores.{level_in, old_nodes}
use Rattle.maple_write.proofs.Steps.{upper_of, item_at-same}
use Rattle.maple_write.proofs.level.last.Goals as goal

pub find-requires-clause-tower : goal.find-requires-clause-tower
find-requires-clause-tower c = (upper_of (table_at c.args.writer.now) (level_in c.args.state.now) c.requires.writing.partly c.requires.below).above

pub returns-then-state-left : goal.returns-then-state-left
returns-then-state-left c =
    let level = level_in c.args.state.now in
    let pages = c.requires.writing.partly.pages in
    let within = c.if-state-left.true in
    item_at-same level.lo (level.hi - 1) (old_nodes (table_at c.args.writer.now) level) c.args.left.item c.requires.left.item (omega arith) (omega arith)
