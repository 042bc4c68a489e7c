-- For `repeat`: the journal is the first entries.
use Rattle.std.proofs.Common.{◌≡◌, take}
use Rattle.mm_space.proofs.ready.repeat.Given as goal

abbrev pub invariant-loop-entry : goal.invariant-loop-entry
invariant-loop-entry g l = record {
  table : l.state.table ≡ l.fn.state.table;
  config : l.state.config ≡ l.fn.state.config;
  room : l.state.room ≡ l.fn.state.room;
  nodes : l.state.nodes ≡ l.fn.state.nodes;
  journal : l.state.journal ≡ take l.entry-index l.fn.before;
}
