-- For `first_low`: what the loop keeps.
use Rattle.std.proofs.Common.{◌-◌, ◌≤◌, length}
use Rattle.text_lexer.proofs.WordParts.{AreHigh}
use Rattle.text_lexer.proofs.words.first_low.Given as goal

abbrev pub invariant-loop-from : goal.invariant-loop-from
invariant-loop-from l = record { within : l.from ≤ length l.text; high : AreHigh l.text l.from }

abbrev pub decreases-loop-from : goal.decreases-loop-from
decreases-loop-from l = length l.text - l.from
