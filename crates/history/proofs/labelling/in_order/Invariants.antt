-- For `in_order`: the items up to the last call are in order, and the reads after it wait.
use Rattle.std.proofs.Common.{◌≡◌, ◌++◌, ◌<◌, ◌^◌, All}
use Rattle.std.specs.Vec.Iter.{into_iter_items}
use Rattle.history.proofs.Regrouping.{Halfway}
use Rattle.history.proofs.labelling.in_order.Given as goal

abbrev pub invariant-loop-item : goal.invariant-loop-item
invariant-loop-item l = record {
  all : l.yielded ++ into_iter_items l.item-iterator ≡ l.fn.items.items;
  half : Halfway l.yielded (into_iter_items l.item-iterator) l.done.items l.reads.items;
  small : All (λ item. item.caller < 2 ^ 32) l.reads.items;
}
