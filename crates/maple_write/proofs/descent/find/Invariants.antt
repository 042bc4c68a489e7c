-- For `find`: the item of the level reached that has the page.
use Rattle.std.proofs.Common.{◌-◌, ◌≤◌}
use Rattle.node_slots.specs.Built.{words_at}
use Rattle.maple_write.specs.Internal.Stores.{HasPage}
use Rattle.maple_write.proofs.descent.find.Given as goal

abbrev pub invariant-loop-begin : goal.invariant-loop-begin
invariant-loop-begin l = record {
  order : l.low ≤ l.begin.level;
  high : l.begin.level ≤ l.descent.tree.height;
  begins : HasPage (words_at l.writer) l.descent.tree l.begin.level l.page l.begin.place;
}

abbrev pub decreases-loop-begin : goal.decreases-loop-begin
decreases-loop-begin l = l.begin.level - l.low
