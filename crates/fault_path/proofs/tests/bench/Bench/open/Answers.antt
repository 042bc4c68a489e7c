-- For the test's `Bench::open`: tree 0 has row 0 alone, and nothing was called.
use Rattle.std.proofs.Common.{◌≡◌, ◌+◌, ◌∙◌, [], sym, ap, arith}
use Rattle.node_slots.specs.declared.view.NodeView.{NodeView}
use Rattle.node_slots.specs.Seats.{free_of, retired_rows}
use Rattle.fault_path.proofs.Leaves.{first_alone}
use Rattle.vma_lock.specs.declared.view.View.{View}
use Rattle.vma_lock.specs.Seats.{lock_sight}
use Rattle.fault_path.proofs.Small.{opened_is_small}
use Rattle.fault_path.proofs.tests.bench.Bench.open.Goals as goal

pub publish_leaf-requires-clause-alone : goal.publish_leaf-requires-clause-alone
publish_leaf-requires-clause-alone g c =
    let made = c.in_ok-view.ensures.nodes in
    let writer = c.in_ok-view.nodes in
    let rows = ap (λ (v : NodeView). v.size.rows) made.view in
    let slots = ap (λ (v : NodeView). v.size.slots) made.view in
    let one = c.requires.areas in
    record {
      within = omega (arith, rows);
      alone = λ other low. first_alone (c.args.config.areas + 128) (free_of writer) (retired_rows writer) other made.free made.left (omega (arith, low, rows));
      slots = omega (arith, slots, one);
    }

pub invariant_of-result : goal.invariant_of-result
invariant_of-result g c =
    let made = c.in_ok-view.ensures in
    let empty : c.of.result ≡ [] = c.of.ensures ∙ c.new.ensures.items in
    record {
      sits = made.pass;
      table_is = made.tables.0;
      config_is = sym (ap (λ (v : View). v.config) made.writer);
      kept = opened_is_small c.args.config 1 (lock_sight c.in_ok-view.writer) c.of.result _ c.opening-counters.ensures made.writer empty;
    }
