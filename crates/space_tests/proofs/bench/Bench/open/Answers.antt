-- For the test's `Bench::open`: the first reader of the table has its turn.
use Rattle.std.proofs.Common.{◌%◌, Some, sym, ap, ◌∙◌}
use Rattle.vma_lock.specs.declared.view.View.{View}
use Rattle.node_slots.specs.declared.view.NodeView.{NodeView}
use Rattle.mm_state.specs.States.{StateView}
use Rattle.space_tests.proofs.bench.Bench.open.Goals as goal

pub invariant_of-result : goal.invariant_of-result
invariant_of-result c =
    let fresh = c.in_ok-table.ensures.fresh 0 c.in-Some.seat c.in-Some.ensures in
    let walker = c.in_ok-nodes.ensures.fresh 0 c.in-Some-first.node_seat c.in-Some-first.ensures in
    let state = c.in_ok-state.ensures in
    record {
      walker = (walker.0, ap (λ (v : NodeView). v.pin % 2) walker.1);
      mine = (fresh.0, sym c.in_ok-table.ensures.writer.0 ∙ sym (ap (λ (s : StateView). s.table) state));
      turn = (ap (λ (v : View). v.stage) fresh.1, ap (λ (v : View). v.turn) fresh.1 ∙ ap Some (sym (ap (λ (v : View). v.caller) fresh.1)));
      room = ap (λ (s : StateView). s.room) state;
    }
