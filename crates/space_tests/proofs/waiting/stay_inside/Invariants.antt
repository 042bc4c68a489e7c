-- The loop of `stay_inside`: it ends once a reader has looked so often.
use Rattle.std.proofs.Common.{◌<◌}
use Rattle.space_tests.proofs.waiting.stay_inside.Given as goal

abbrev pub invariant-loop : goal.invariant-loop
invariant-loop l = l.looks < 1000000
