-- For `is_in_order`: the versions so far do not fall, up to the last, and where none falls the others are no lower.
use Rattle.std.proofs.Common.{◌≤◌, take, drop, All}
use Rattle.mm_types.proofs.Sorting.{Rises}
use Rattle.area_rules.specs.Journals.{version_of}
use Rattle.history.proofs.gathering.is_in_order.Given as goal

abbrev pub invariant-loop-read : goal.invariant-loop-read
invariant-loop-read l = record {
  rises : Rises version_of 0 (take l.read-index l.log);
  low : All (λ y. version_of y ≤ l.last) (take l.read-index l.log);
  later : Rises version_of 0 l.log → Rises version_of l.last (drop l.read-index l.log);
}
