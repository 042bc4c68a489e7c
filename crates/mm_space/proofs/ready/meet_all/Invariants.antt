-- For `meet_all`: the passes so far have seen the journal.
use Rattle.std.proofs.Common.{◌≡◌}
use Rattle.mm_space.specs.Opening.{met_space}
use Rattle.mm_space.proofs.Opening.{AreMet}
use Rattle.mm_space.proofs.ready.meet_all.Given as goal

abbrev pub invariant-loop-place : goal.invariant-loop-place
invariant-loop-place l = record {
  state : l.state ≡ l.fn.state;
  met : AreMet (met_space l.fn.state l.fn.passes) l.place l.passes;
}
