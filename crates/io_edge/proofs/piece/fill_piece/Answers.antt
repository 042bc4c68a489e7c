-- The clause `moved` of `fill_piece`: what was copied, and then the rest, are the bytes from `at` on.
use Rattle.std.proofs.Common.{arith, drop, ◌++◌}
use Rattle.std.proofs.lemmas.Grind.{common_steps}
use Rattle.io_edge.proofs.Moved.{left_moved}
use Rattle.io_edge.proofs.piece.fill_piece.Goals as goal

pub returns-clause-moved : goal.returns-clause-moved
returns-clause-moved c =
    let into = c.copy_from_slice.new.self ++ drop c.min-count.result c.args.into.now in
    left_moved c.args.bytes.now into c.args.at c.min-count.result (grind (arith, common_steps))
