-- For `first_free`: one row more, and at the end all.
use Rattle.std.proofs.Common.{◌≡◌, ◌+◌, sym, ap, subst, arith}
use Rattle.node_slots.specs.Opening.{IsFreeFrom}
use Rattle.node_slots.specs.Kept.{free_numbers, FallsFrom}
use Rattle.node_slots.proofs.Counting.{free_more, free_none}
use Rattle.node_slots.proofs.Spots.{falls_none, falls_more}
use Rattle.node_slots.proofs.opening.first_free.Goals as goal

pub loop-row-init : goal.loop-row-init
loop-row-init c = record {
  room = c.in_ok-free.ensures.capacity;
  rows = rw c.in_ok-free.ensures.items (free_none 1);
  some = omega arith;
  order = rw c.in_ok-free.ensures.items falls_none;
}

pub loop-row-preserved : goal.loop-row-preserved
loop-row-preserved c =
    let free = c.loop-row.free.items in
    let row = c.loop-row.row in
    let kept = c.loop-row.invariant in
    let pushed = c.in_ok-push_front.ensures in
    record {
      room = omega (arith, kept.room, pushed.capacity);
      rows = subst (IsFreeFrom 1 (row + 1)) (sym (ap free_numbers pushed.items))
          (free_more 1 row (free_numbers free) kept.some kept.rows);
      some = omega (arith, kept.some);
      order = subst (FallsFrom (row + 1)) (sym (ap free_numbers pushed.items)) (falls_more row (free_numbers free) kept.order);
    }

pub returns-clause-free : goal.returns-clause-free
returns-clause-free c =
    let same : c.loop-row.row ≡ c.args.count = omega (arith, c.loop-row-test.false, c.loop-row.auto.row-end, c.requires) in
    subst (λ n. IsFreeFrom 1 n (free_numbers c.loop-row.free.items)) same c.loop-row.invariant.rows

pub returns-clause-order : goal.returns-clause-order
returns-clause-order c =
    let same : c.loop-row.row ≡ c.args.count = omega (arith, c.loop-row-test.false, c.loop-row.auto.row-end, c.requires) in
    subst (λ n. FallsFrom n (free_numbers c.loop-row.free.items)) same c.loop-row.invariant.order
