-- For `are_in_order`: its goals.
use Rattle.std.proofs.Common.{refl}
use Rattle.history.specs.Runs.{place_key}
use Rattle.history.proofs.Orders.{rises_more, place_reached, place_falls, all_places, in_order_gathered, places_in_order}
use Rattle.history.proofs.ordering.are_in_order.Goals as goal

pub loop-item-preserved : goal.loop-item-preserved
loop-item-preserved c =
    let more = rises_more place_key c.args.items.now c.loop-item.item-index c.item-item.result c.loop-item.last c.place-now.result c.loop-item.invariant.rises
    c.loop-item.invariant.low c.item-item.is c.place-now.ensures c.if-now-last.false c.loop-item-test.true in
    record {
      rises = more.0;
      low = more.1;
      reached = place_reached c.args.items.now c.loop-item.item-index c.item-item.result c.place-now.result c.item-item.is c.place-now.ensures
          c.loop-item-test.true;
    }

pub returns-then-now-last-clause-pairs : goal.returns-then-now-last-clause-pairs
returns-then-now-last-clause-pairs c = (
  λ wrong. cc,
  λ pairs. absurd (place_falls c.args.items.now c.loop-item.item-index c.item-item.result c.loop-item.last c.place-now.result c.requires pairs
      c.loop-item.invariant.reached c.item-item.is c.place-now.ensures c.loop-item-test.true c.if-now-last.true),
)

pub returns-clause-order : goal.returns-clause-order
returns-clause-order c =
    in_order_gathered c.args.items.now
    (all_places c.args.items.now c.loop-item.item-index c.loop-item.invariant.rises c.loop-item-test.false) c.requires

pub returns-clause-pairs : goal.returns-clause-pairs
returns-clause-pairs c = (
  λ right. places_in_order 0 c.args.items.now
      (all_places c.args.items.now c.loop-item.item-index c.loop-item.invariant.rises c.loop-item-test.false) c.requires,
  λ pairs. refl,
)
