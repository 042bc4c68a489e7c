-- For `Bench::open`: nothing was built yet.
use Rattle.std.proofs.Common.{arith, inr, ap}
use Rattle.mm_types.specs.declared.area.Page.{Page}
use Rattle.node_slots.specs.declared.view.NodeView.{NodeView}
use Rattle.node_slots.specs.declared.view.Size.{Size}
use Rattle.maple_write.proofs.Blanks.{blank_new}
use Rattle.tree_tests.proofs.write_tests.bench.Bench.open.Goals as goal

pub invariant_of-result : goal.invariant_of-result
invariant_of-result c =
    let made = c.in_ok-nodes.ensures in
    let tree = c.new-2.ensures in
    let size : Size = record { rows = 4096; slots = 4096; readers = 1 } in
    rw c.may_count-may.ensures (record {
      table = made.writer.0;
      shows = inr (blank_new c.in_ok-nodes.writer c.new-2.result size 1 made.writer.1 made.free made.left tree.root tree.height
          (omega (arith, c.requires, ap (λ (p : Page). p.0) tree.limit)));
      rows = ap (λ (v : NodeView). v.size.rows) made.writer.1;
      slots = ap (λ (v : NodeView). v.size.slots) made.writer.1;
      number = ap (λ (v : NodeView). v.known.writer_state.tree.number) made.writer.1;
    })
