-- What the text of a line says.
use Rattle.std.specs.Prelude.{ℕ, zero, suc, Bool, true, false, not, List, [], ◌∷◌, drop, nat_eq, Result, Ok, Err, ok_or, if◌then◌else◌}
use Rattle.std.specs.List.{before_first, after_first, position_or_len}
use Rattle.std.specs.Str.{byte}
use Rattle.mm_types.specs.declared.area.Prot.{Prot}
use Rattle.text_lexer.specs.declared.error.Cause.{Cause}
use Rattle.text_lexer.specs.declared.error.Cause.TheVariants as causes
use Rattle.text_lexer.specs.Causes.{◌>>=◌}
use Rattle.text_lexer.specs.Numbers.{decimal_of, lower_hexadecimal_of}
use Rattle.maps_read.specs.declared.fields.LineNumbers.{LineNumbers}
use Rattle.maps_read.specs.declared.maps.MapsLine.{MapsLine}

-- what stands before the first of these bytes in a text, or all of it where there is none
abbrev pub front : ℕ → List ℕ → List ℕ
front at text = before_first (λ c. nat_eq c at) text

-- what follows the first of these bytes in a text, or nothing where there is none
abbrev pub behind : ℕ → List ℕ → List ℕ
behind at text = after_first (λ c. nat_eq c at) text

-- what follows the first so many words of a line, each with the one space after it
abbrev pub behind_words : ℕ → List ℕ → List ℕ
behind_words zero text = text
behind_words (suc count) text = behind_words count (behind (byte " ") text)

-- the word of a line that has so many words before it
abbrev pub word_behind : ℕ → List ℕ → List ℕ
word_behind place text = front (byte " ") (behind_words place text)

-- no space
abbrev pub is_no_space : ℕ → Bool
is_no_space c = not (nat_eq c (byte " "))

-- how many spaces a text begins with
unfoldable pub leading_spaces : List ℕ → ℕ
leading_spaces text = position_or_len is_no_space text

-- a text without the spaces that it begins with
unfoldable pub without_leading_spaces : List ℕ → List ℕ
without_leading_spaces text = drop (leading_spaces text) text

-- a number of 1 to so many digits of lower-case hexadecimal
unfoldable pub read_hexadecimal : ℕ → List ℕ → Result ℕ Cause
read_hexadecimal most word = ok_or (lower_hexadecimal_of most word) causes.MapsLine

-- a number of 1 to 20 decimal digits, below 2^64
unfoldable pub decimal : List ℕ → Result ℕ Cause
decimal word = ok_or (decimal_of word) causes.MapsLine

-- the addresses of a line, `<lo>-<hi>`
unfoldable pub bounds : List ℕ → Result (ℕ × ℕ) Cause
bounds word = do
  lo ← read_hexadecimal 16 (front (byte "-") word)
  hi ← read_hexadecimal 16 (behind (byte "-") word)
  Ok (lo, hi)

-- the number of a device, `<major>:<minor>`
unfoldable pub read_maps_device : List ℕ → Result (ℕ × ℕ) Cause
read_maps_device word = do
  major ← read_hexadecimal 8 (front (byte ":") word)
  minor ← read_hexadecimal 8 (behind (byte ":") word)
  Ok (major, minor)

-- one of two letters: whether it is the first of them
unfoldable pub read_letter : ℕ → ℕ → ℕ → Result Bool Cause
read_letter set unset c = if nat_eq c set then Ok true else (if nat_eq c unset then Ok false else Err causes.MapsLine)

-- what is allowed, and whether it is shared: four letters
unfoldable pub read_perms : List ℕ → Result (Prot × Bool) Cause
read_perms (r ∷ w ∷ x ∷ s ∷ []) = do
  read ← read_letter (byte "r") (byte "-") r
  write ← read_letter (byte "w") (byte "-") w
  exec ← read_letter (byte "x") (byte "-") x
  shared ← read_letter (byte "s") (byte "p") s
  Ok (record { read = read; write = write; exec = exec }, shared)
read_perms _ = Err causes.MapsLine

-- the line of these numbers and this name
abbrev pub with_line_name : LineNumbers → List ℕ → MapsLine
with_line_name numbers name = record {
  lo = numbers.lo;
  hi = numbers.hi;
  prot = numbers.prot;
  shared = numbers.shared;
  offset = numbers.offset;
  major = numbers.major;
  minor = numbers.minor;
  inode = numbers.inode;
  name = name;
}

-- the line of these words and this name
unfoldable pub maps_line_of_words : List ℕ → List ℕ → List ℕ → List ℕ → List ℕ → List ℕ → Result MapsLine Cause
maps_line_of_words addresses letters start numbers node name = do
  b ← bounds addresses
  p ← read_perms letters
  offset ← read_hexadecimal 16 start
  d ← read_maps_device numbers
  inode ← decimal node
  Ok (record { lo = b.0; hi = b.1; prot = p.0; shared = p.1; offset = offset; major = d.0; minor = d.1; inode = inode; name = name })

-- what a line says: five words with one space after each but the last, and a name after the spaces that follow that one, if there are any
unfoldable pub read_maps_line : List ℕ → Result MapsLine Cause
read_maps_line text = maps_line_of_words (word_behind 0 text) (word_behind 1 text) (word_behind 2 text) (word_behind 3 text) (word_behind 4 text)
    (without_leading_spaces (behind_words 5 text))
