-- For `merged`: the entries up to a version and the reads so far are in order.
use Rattle.std.proofs.Common.{◌≡◌, ◌++◌}
use Rattle.std.specs.Vec.Iter.{into_iter_items}
use Rattle.history.proofs.Merging.{Merged}
use Rattle.history.proofs.gathering.merged.Given as goal

abbrev pub invariant-loop-read : goal.invariant-loop-read
invariant-loop-read l = record {
  all : l.yielded ++ into_iter_items l.read-iterator ≡ l.fn.reads.items;
  merged : Merged l.journal l.yielded (into_iter_items l.read-iterator) l.items.items l.next;
}
