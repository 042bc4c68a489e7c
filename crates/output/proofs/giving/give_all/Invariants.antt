-- The proof of `give_all`: what its loop keeps, and that it ends.
use Rattle.std.proofs.Common.{◌-◌, ◌≤◌, length, take}
use Rattle.output.specs.Giving.{Gave}
use Rattle.output.proofs.giving.give_all.Given as goal

-- the text before this place was given, and nothing else
abbrev pub invariant-loop-given : goal.invariant-loop-given
invariant-loop-given g l = record {
  gave : Gave (g.K.Sink.seen l.fn.sink) (g.K.Sink.seen l.sink) (take l.given l.text);
  within : l.given ≤ length l.text;
}

abbrev pub decreases-loop-given : goal.decreases-loop-given
decreases-loop-given g l = length l.text - l.given
