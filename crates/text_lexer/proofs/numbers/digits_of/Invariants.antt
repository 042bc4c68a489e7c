-- For `digits_of`: what each loop keeps.
use Rattle.std.proofs.Common.{◌<◌, ◌^◌}
use Rattle.text_lexer.proofs.Digits.{AreRead}
use Rattle.text_lexer.proofs.numbers.digits_of.Given as goal

-- the bytes so far are digits, whose value is known
abbrev pub invariant-loop-byte : goal.invariant-loop-byte
invariant-loop-byte l = record { read : AreRead l.base l.digits l.byte-index l.value; fits : l.value < 2 ^ 64 }
