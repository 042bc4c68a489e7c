-- The causes for which a line is bad, and how the first of them is found.
use Rattle.std.specs.Prelude.{ℕ, List, codes, Option, Some, None, Result, Ok, Err}
use Rattle.text_lexer.specs.declared.error.Cause.{Cause}
use Rattle.text_lexer.specs.declared.error.Cause.TheVariants.{Header, TooLong, Word, Number, Flag, Arity, Thread, TooMany, FileTwice, Utf8, NoEnd, After, Child, MapsLine, MapsOrder, NotOurs}

-- the number of a cause; none has the number 12
abbrev pub cause_number : Cause → ℕ
cause_number Header = 1
cause_number TooLong = 2
cause_number Word = 3
cause_number Number = 4
cause_number Flag = 5
cause_number Arity = 6
cause_number Thread = 7
cause_number TooMany = 8
cause_number FileTwice = 9
cause_number Utf8 = 10
cause_number NoEnd = 11
cause_number After = 13
cause_number Child = 14
cause_number MapsLine = 15
cause_number MapsOrder = 16
cause_number NotOurs = 17

-- the name of a cause
abbrev pub cause_name : Cause → List ℕ
cause_name Header = codes "Header"
cause_name TooLong = codes "TooLong"
cause_name Word = codes "Word"
cause_name Number = codes "Number"
cause_name Flag = codes "Flag"
cause_name Arity = codes "Arity"
cause_name Thread = codes "Thread"
cause_name TooMany = codes "TooMany"
cause_name FileTwice = codes "FileTwice"
cause_name Utf8 = codes "Utf8"
cause_name NoEnd = codes "NoEnd"
cause_name After = codes "After"
cause_name Child = codes "Child"
cause_name MapsLine = codes "MapsLine"
cause_name MapsOrder = codes "MapsOrder"
cause_name NotOurs = codes "NotOurs"

infixl 10 ◌>>=◌
-- one reading and then another, unless the first has a cause
abbrev pub ◌>>=◌ : {A B : Type 0} → Result A Cause → (A → Result B Cause) → Result B Cause
(Ok x) >>= f = f x
(Err cause) >>= f = Err cause

-- what is read, unless there is a cause
abbrev pub unless : {A : Type 0} → Option Cause → Result A Cause → Result A Cause
unless None read = read
unless (Some cause) read = Err cause
