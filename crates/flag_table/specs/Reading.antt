-- What a text of flags reads as.
use Rattle.std.specs.Prelude.{ℕ, ◌≡◌, Bool, true, ◌==◌, ◌&&◌, ◌||◌, List, [], ◌∷◌, ◌++◌, Option, Some, None, is_none, Result, Ok, Err, IsErr, if◌then◌else◌, codes, bytes_eq, nat_eq, filter_map, drop, length}
use Rattle.std.specs.List.{list_any, starts_with, before_first}
use Rattle.std.specs.Option.{option_or}
use Rattle.flag_table.specs.Tables.{Row, FlagNames, bar, bits_of, row_named, bar_words}
use Rattle.flag_table.specs.declared.error.BadWord.{BadWord}
use Rattle.flag_table.specs.declared.error.BadWord.TheVariants as bad
use Rattle.flag_table.specs.declared.error.NameError.{NameError}
use Rattle.flag_table.specs.declared.error.NameError.TheVariants.{Unknown, Twice, NoMemory}

-- whether a word is one of these
abbrev pub is_among : List (List ℕ) → List ℕ → Bool
is_among words word = list_any (λ other. bytes_eq other word) words

-- what is wrong with a word after these: it names no row, or it is one of them
abbrev pub error_of : List Row → List (List ℕ) → List ℕ → Option NameError
error_of rows before word = if is_none (row_named rows word) then Some (Unknown word)
    else (if is_among before word then Some (Twice word) else None)

-- the error of the first bad one of these words, after the words before
abbrev pub first_error : List Row → List (List ℕ) → List (List ℕ) → Option NameError
first_error rows before [] = None
first_error rows before (word ∷ words) =
    option_or (error_of rows before word) (first_error rows (before ++ word ∷ []) words)

-- an error where there is one, and else the bits
abbrev pub unless_error : Option NameError → ℕ → Result ℕ NameError
unless_error None bits = Ok bits
unless_error (Some error) bits = Err error

-- the error of the first bad word, or else the bits of the named rows together
unfoldable pub read_words : List Row → List (List ℕ) → Result ℕ NameError
read_words rows words = unless_error (first_error rows [] words) (bits_of (filter_map (row_named rows) words))

-- whether a text is `0` or the name for no flag
unfoldable pub is_zero : FlagNames → List ℕ → Bool
is_zero table text = bytes_eq text (codes "0") || bytes_eq text table.zero

-- what a text reads as: no flag, or the words between its bars
unfoldable pub reading : FlagNames → List ℕ → Result ℕ NameError
reading table text = if is_zero table text then Ok 0 else read_words table.rows (bar_words text)

-- whether a word ends before these bytes: there are none, or a bar stands first
unfoldable pub is_word_end : List ℕ → Bool
is_word_end [] = true
is_word_end (c ∷ text) = c == bar

-- whether a name is the first word of a text
unfoldable pub is_first_word : List ℕ → List ℕ → Bool
is_first_word text name = starts_with nat_eq text name && is_word_end (drop (length name) text)

-- the bit of the first of some rows whose name is the first word of a text, and what follows the name
unfoldable pub bit_ahead : List Row → List ℕ → Option (ℕ × List ℕ)
bit_ahead [] text = None
bit_ahead (row ∷ rows) text = if is_first_word text row.name
    then Some (row.bit, drop (length row.name) text) else bit_ahead rows text

-- the first word of a text
abbrev pub first_word : List ℕ → List ℕ
first_word text = before_first (λ c. c == bar) text

-- the error of a bad word
abbrev pub error_named : BadWord → NameError
error_named (bad.Unknown word) = Unknown word.now
error_named (bad.Twice word) = Twice word.now

-- what was answered without memory is what was to be read
abbrev pub ReadsBits : Result ℕ BadWord → Result ℕ NameError → Type 0
ReadsBits (Ok bits) read = read ≡ Ok bits
ReadsBits (Err word) read = read ≡ Err (error_named word)

-- an error that was kept, unless no memory was left to keep it
abbrev pub IsErrorKept : NameError → NameError → Type 0
IsErrorKept NoMemory error = Unit {0}
IsErrorKept (Unknown word) error = error ≡ Unknown word
IsErrorKept (Twice word) error = error ≡ Twice word

-- An answer gives what was to be read, except that it may be out of memory in place of an error.
abbrev pub GivesBits : Result ℕ NameError → Result ℕ NameError → Type 0
GivesBits (Ok bits) read = read ≡ Ok bits
GivesBits (Err NoMemory) read = IsErr read
GivesBits (Err (Unknown word)) read = read ≡ Err (Unknown word)
GivesBits (Err (Twice word)) read = read ≡ Err (Twice word)
