-- For `OneLeaf::new`: tree 0 has row 0 alone, and all other rows are free.
use Rattle.std.proofs.Common.{arith}
use Rattle.node_slots.specs.Seats.{free_of, retired_rows}
use Rattle.tree_tests.proofs.Leaves.{first_alone}
use Rattle.tree_tests.proofs.table_tests.leaf.OneLeaf.new.Goals as goal

pub invariant_of-result : goal.invariant_of-result
invariant_of-result c =
    let writer = c.args.writer in
    record {
      kept = (
        c.requires.table,
        record {
          within = omega (arith, c.requires.rows);
          alone = λ other low. first_alone 8 (free_of writer) (retired_rows writer) other c.requires.free c.requires.left
              (omega (arith, low, c.requires.rows));
          slots = c.requires.slots;
        },
      );
      number = c.requires.number;
    }
