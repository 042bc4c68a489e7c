-- For `new_root`: the new root is a node over the tree under the items.
use Rattle.std.proofs.Common.{◌∙◌, arith}
use Rattle.maple_write.specs.Internal.Tables.{table_at}
use Rattle.maple_write.proofs.Blocks.{inner-plain}
use Rattle.maple_write.proofs.Roots.{root_made}
use Rattle.maple_write.proofs.tree.new_root.Goals as goal

pub put-requires-clause-plain : goal.put-requires-clause-plain
put-requires-clause-plain c = inner-plain c.as_slice-2.result.now

pub returns-clause-shaped : goal.returns-clause-shaped
returns-clause-shaped c =
    (root_made (table_at c.args.writer.now) (table_at c.put.new.writer) c.args.level c.args.items.now.items c.as_slice-2.result.now c.put.result
    c.requires.tall c.requires.tower c.requires.ascends c.requires.some (λ one. c.if-len-eq1.false (c.len.ensures.value ∙ one)) c.requires.stand
    c.as_slice-2.ensures.value c.put.ensures.node c.put.ensures.items c.put.ensures.until c.put.ensures.words c.put.ensures.taken c.put.ensures.left).shaped

pub returns-clause-entries : goal.returns-clause-entries
returns-clause-entries c =
    (root_made (table_at c.args.writer.now) (table_at c.put.new.writer) c.args.level c.args.items.now.items c.as_slice-2.result.now c.put.result
    c.requires.tall c.requires.tower c.requires.ascends c.requires.some (λ one. c.if-len-eq1.false (c.len.ensures.value ∙ one)) c.requires.stand
    c.as_slice-2.ensures.value c.put.ensures.node c.put.ensures.items c.put.ensures.until c.put.ensures.words c.put.ensures.taken c.put.ensures.left).entries

pub returns-clause-free : goal.returns-clause-free
returns-clause-free c = let taken = c.put.ensures.free in omega arith
