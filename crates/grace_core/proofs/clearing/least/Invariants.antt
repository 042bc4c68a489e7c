-- What the loop of `least` keeps: with what is left it makes the least of all.
use Rattle.std.proofs.Common.{◌≡◌, ◌≤◌, min, drop}
use Rattle.grace_core.specs.Steps.{cleared_up_to}
use Rattle.grace_core.proofs.clearing.least.Given as goal

abbrev pub invariant-loop-clearing : goal.invariant-loop-clearing
invariant-loop-clearing l = record {
  below : l.least ≤ l.number;
  rest : min l.least (cleared_up_to l.number (drop l.clearing-index l.clearings)) ≡ cleared_up_to l.number l.clearings;
}
