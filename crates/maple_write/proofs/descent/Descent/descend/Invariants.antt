-- For `descend`: the levels down to one are kept.
use Rattle.std.proofs.Common.{◌≡◌, ◌≤◌}
use Rattle.node_slots.specs.Built.{words_at}
use Rattle.maple_write.specs.Internal.Stores.{HasPage, IsDescent}
use Rattle.maple_write.proofs.descent.Descent.descend.Given as goal

abbrev pub invariant-loop-begin : goal.invariant-loop-begin
invariant-loop-begin l = record {
  high : l.begin.level ≤ l.tree.height;
  tree : l.self.tree ≡ l.tree;
  page : l.self.page ≡ l.page;
  begins : HasPage (words_at l.writer) l.tree l.begin.level l.page l.begin.place;
  places : IsDescent (words_at l.writer) l.begin.level l.self;
}

abbrev pub decreases-loop-begin : goal.decreases-loop-begin
decreases-loop-begin l = l.begin.level
