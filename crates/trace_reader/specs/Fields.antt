-- The fields of a line, each a word.
use Rattle.std.specs.Prelude.{ℕ, ◌-◌, ◌%◌, ◌^◌, Bool, true, false, ◌&&◌, List, codes, bytes_eq, nat_eq, nat_le, ℤ, pos, negsuc, Option, Some, None, option_and_then, Result, Ok, Err, ok_or, if◌then◌else◌}
use Rattle.std.specs.List.{before_first, after_first}
use Rattle.std.specs.Str.{byte}
use Rattle.mm_types.specs.declared.area.Access.{Access}
use Rattle.mm_types.specs.declared.area.Access.TheVariants.{Read, Write, Exec}
use Rattle.mm_types.specs.declared.area.Prot.{Prot}
use Rattle.mm_types.specs.declared.config.TheConstants.{PAGE_SIZE, ADDRESS_LIMIT}
use Rattle.mm_types.specs.declared.flags.TheConstants.{PROT_READ, PROT_WRITE, PROT_EXEC}
use Rattle.mm_types.specs.Flags.{has_flag}
use Rattle.flag_table.specs.Reading.{reading}
use Rattle.flag_table.specs.Tables.{FlagNames, prot_flags}
use Rattle.flag_table.specs.declared.error.NameError.{NameError}
use Rattle.text_lexer.specs.declared.error.Cause.{Cause}
use Rattle.text_lexer.specs.declared.error.Cause.TheVariants.{Word, Number, Flag}
use Rattle.trace_reader.specs.declared.limits.TheConstants.{GREATEST_THREAD, MAJOR_DIGITS, MINOR_DIGITS}
use Rattle.text_lexer.specs.Causes.{◌>>=◌}
use Rattle.text_lexer.specs.Numbers.{decimal_of, digits_of, number, number_in}

-- the thread that a word is: 1 to 20 decimal digits with a value of at most 63
unfoldable pub read_thread : List ℕ → Option ℕ
read_thread word = option_and_then (λ n. if nat_le n GREATEST_THREAD then Some n else None) (decimal_of word)

-- an address that may bound the memory: a multiple of the page size, from one page up to the address limit
unfoldable pub bound : List ℕ → Result ℕ Cause
bound word = do
  n ← number word
  if nat_eq (n % PAGE_SIZE) 0 && (nat_le PAGE_SIZE n && nat_le n ADDRESS_LIMIT) then Ok n else Err Number

-- the descriptor of a file: a number that fits 31 bits
unfoldable pub descriptor : List ℕ → Result ℤ Cause
descriptor word = do
  n ← number_in 0 (2 ^ 31 - 1) word
  Ok (pos n)

-- the descriptor of a mapping, which may be -1
unfoldable pub mapped_descriptor : List ℕ → Result ℤ Cause
mapped_descriptor word = if bytes_eq word (codes "-1") then Ok (negsuc 0) else descriptor word

-- a half of a device number: at most so many hexadecimal digits
unfoldable pub device_part : ℕ → List ℕ → Result ℕ Cause
device_part most word = ok_or (digits_of 16 most word) Number

-- a device number: 1 to 3 digits before the first colon, and 1 to 5 digits after it
unfoldable pub read_device : List ℕ → Result (ℕ × ℕ) Cause
read_device word = do
  major ← device_part MAJOR_DIGITS (before_first (λ c. nat_eq c (byte ":")) word)
  minor ← device_part MINOR_DIGITS (after_first (λ c. nat_eq c (byte ":")) word)
  Ok (major, minor)

-- how a file is open: for reading, and for writing
unfoldable pub mode : List ℕ → Result (Bool × Bool) Cause
mode word = if bytes_eq word (codes "r") then Ok (true, false)
    else (if bytes_eq word (codes "w") then Ok (false, true)
    else (if bytes_eq word (codes "rw") then Ok (true, true) else Err Word))

-- what a page fault wants to do
unfoldable pub access : List ℕ → Result Access Cause
access word = if bytes_eq word (codes "r") then Ok Read
    else (if bytes_eq word (codes "w") then Ok Write
    else (if bytes_eq word (codes "x") then Ok Exec else Err Word))

-- the bits of a text of flags, where it was one
abbrev pub or_flag : Result ℕ NameError → Result ℕ Cause
or_flag (Ok bits) = Ok bits
or_flag (Err fault) = Err Flag

-- flags of a table
unfoldable pub flags : FlagNames → List ℕ → Result ℕ Cause
flags table word = or_flag (reading table word)

-- the accesses that bits allow
unfoldable pub prot_of_bits : ℕ → Prot
prot_of_bits bits =
    record { read = has_flag bits PROT_READ; write = has_flag bits PROT_WRITE; exec = has_flag bits PROT_EXEC }

-- a protection of mmap(2) and mprotect(2)
unfoldable pub read_prot : List ℕ → Result Prot Cause
read_prot word = do
  bits ← flags prot_flags word
  Ok (prot_of_bits bits)
