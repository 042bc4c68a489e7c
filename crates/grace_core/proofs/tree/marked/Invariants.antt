-- What the loop of `marked` keeps: the rows so far are marked.
use Rattle.std.proofs.Common.{◌≡◌, length, take}
use Rattle.grace_core.specs.Internal.Trees.{AreMarks}
use Rattle.grace_core.proofs.tree.marked.Given as goal

abbrev pub invariant-loop-row : goal.invariant-loop-row
invariant-loop-row l = record {
  sized : length l.marks.items ≡ l.count;
  marks : AreMarks l.marks.items (take l.row-index l.rows);
}
