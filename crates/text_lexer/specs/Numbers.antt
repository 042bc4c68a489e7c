-- The numbers that words are.
use Rattle.std.specs.Prelude.{ℕ, ◌^◌, ◌&&◌, ◌||◌, Bool, List, length, drop, codes, nat_eq, nat_lt, nat_le, Option, Some, None, Result, Ok, Err, ok_or, if◌then◌else◌}
use Rattle.std.specs.Char.{is_digit, is_ascii_digit}
use Rattle.std.specs.List.{list_all, starts_with}
use Rattle.std.specs.Str.{byte}
use Rattle.std.specs.Str.Parse.{digits_value}
use Rattle.text_lexer.specs.declared.error.Cause.{Cause}
use Rattle.text_lexer.specs.declared.error.Cause.TheVariants.{Number}
use Rattle.text_lexer.specs.Causes.{◌>>=◌}

-- the value below 2^64 that at least one and at most so many digits of a base spell
unfoldable pub digits_of : ℕ → ℕ → List ℕ → Option ℕ
digits_of base most word =
    if nat_lt 0 (length word) && (nat_le (length word) most
    && (list_all (λ c. is_digit c base) word && nat_lt (digits_value base word) (2 ^ 64)))
    then Some (digits_value base word) else None

-- the number that a word of decimal digits is: 1 to 20 of them and nothing else
abbrev pub decimal_of : List ℕ → Option ℕ
decimal_of word = digits_of 10 20 word

-- the number that a word is: 1 to 20 decimal digits, or `0x` and 1 to 16 hexadecimal digits
unfoldable pub number_of : List ℕ → Option ℕ
number_of word = if starts_with nat_eq word (codes "0x") then digits_of 16 16 (drop 2 word) else decimal_of word

-- a digit of lower-case hexadecimal
unfoldable pub is_lower_digit : ℕ → Bool
is_lower_digit c = is_ascii_digit c || nat_le (byte "a") c && nat_le c (byte "f")

-- the number that a word of lower-case hexadecimal digits is: 1 to so many of them and nothing else
unfoldable pub lower_hexadecimal_of : ℕ → List ℕ → Option ℕ
lower_hexadecimal_of most word = if list_all is_lower_digit word then digits_of 16 most word else None

-- any number
unfoldable pub number : List ℕ → Result ℕ Cause
number word = ok_or (number_of word) Number

-- a number from low up to and including high
unfoldable pub number_in : ℕ → ℕ → List ℕ → Result ℕ Cause
number_in low high word = do
  n ← number word
  if nat_le low n && nat_le n high then Ok n else Err Number
