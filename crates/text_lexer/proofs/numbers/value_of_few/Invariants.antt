-- For `value_of_few`: what each loop keeps.
use Rattle.text_lexer.proofs.Digits.{AreRead}
use Rattle.text_lexer.proofs.numbers.value_of_few.Given as goal

-- the bytes so far are digits, whose value is known
abbrev pub invariant-loop-byte : goal.invariant-loop-byte
invariant-loop-byte l = AreRead l.base l.digits l.byte-index l.value
