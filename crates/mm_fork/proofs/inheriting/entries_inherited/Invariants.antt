-- For `entries_inherited`: the entries so far, as the child has them.
use Rattle.std.proofs.Common.{◌≡◌, map, take}
use Rattle.mm_fork.specs.Children.{as_inherited}
use Rattle.mm_fork.proofs.inheriting.entries_inherited.Given as goal

abbrev pub invariant-loop-entry : goal.invariant-loop-entry
invariant-loop-entry l = l.inherited.items ≡ map as_inherited (take l.entry-index l.entries)
