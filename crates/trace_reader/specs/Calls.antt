-- The calls that the words of a line ask for.
use Rattle.std.specs.Prelude.{ℕ, Bool, true, not, List, [], ◌∷◌, length, codes, bytes_eq, nat_eq, Option, Some, None, unwrap_or, Result, Ok, Err, if◌then◌else◌}
use Rattle.mm_types.specs.declared.call.Call.{Call}
use Rattle.mm_types.specs.declared.call.Call.TheVariants.{Mmap, Munmap, Mprotect, Mremap, Brk, Mseal}
use Rattle.mm_types.specs.declared.flags.TheConstants.{MREMAP_FIXED}
use Rattle.mm_types.specs.Flags.{has_flag}
use Rattle.flag_table.specs.Tables.{map_flags, mremap_flags}
use Rattle.text_lexer.specs.declared.error.Cause.{Cause}
use Rattle.text_lexer.specs.declared.error.Cause.TheVariants.{Word, Arity}
use Rattle.trace_reader.specs.declared.calls.TheConstants.{WORDS_WITH_NEW}
use Rattle.text_lexer.specs.Causes.{◌>>=◌}
use Rattle.text_lexer.specs.Numbers.{number}
use Rattle.trace_reader.specs.Fields.{mapped_descriptor, flags, read_prot}
use Rattle.text_lexer.specs.Words.{words_of}

-- the mmap(2) of these words
unfoldable pub read_mmap : List ℕ → List ℕ → List ℕ → List ℕ → List ℕ → List ℕ → Result Call Cause
read_mmap addr len allowed options fd offset = do
  a ← number addr
  l ← number len
  p ← read_prot allowed
  f ← flags map_flags options
  d ← mapped_descriptor fd
  o ← number offset
  Ok (Mmap (record { addr = a; len = l; prot = p; flags = f; fd = d; offset = o }))

-- `mmap ADDR LEN PROT FLAGS FD OFF`, from the words after `mmap`
unfoldable pub mmap_of : List (List ℕ) → Result Call Cause
mmap_of (addr ∷ len ∷ allowed ∷ options ∷ fd ∷ offset ∷ []) = read_mmap addr len allowed options fd offset
mmap_of _ = Err Arity

-- the munmap(2) of these words
unfoldable pub read_munmap : List ℕ → List ℕ → Result Call Cause
read_munmap addr len = do
  a ← number addr
  l ← number len
  Ok (Munmap a l)

-- `munmap ADDR LEN`
unfoldable pub munmap_of : List (List ℕ) → Result Call Cause
munmap_of (addr ∷ len ∷ []) = read_munmap addr len
munmap_of _ = Err Arity

-- the mprotect(2) of these words
unfoldable pub read_mprotect : List ℕ → List ℕ → List ℕ → Result Call Cause
read_mprotect addr len allowed = do
  a ← number addr
  l ← number len
  p ← read_prot allowed
  Ok (Mprotect a l p)

-- `mprotect ADDR LEN PROT`
unfoldable pub mprotect_of : List (List ℕ) → Result Call Cause
mprotect_of (addr ∷ len ∷ allowed ∷ []) = read_mprotect addr len allowed
mprotect_of _ = Err Arity

-- a number, where its word is there
unfoldable pub number_if : Option (List ℕ) → Result (Option ℕ) Cause
number_if None = Ok None
number_if (Some word) = do
  n ← number word
  Ok (Some n)

-- the mremap(2) of these words, where a NEW that is not there is 0
unfoldable pub read_mremap : List ℕ → List ℕ → List ℕ → List ℕ → Option (List ℕ) → Result Call Cause
read_mremap old old_len new_len options new = do
  o ← number old
  l ← number old_len
  n ← number new_len
  f ← flags mremap_flags options
  a ← number_if new
  Ok (Mremap o l n f (unwrap_or a 0))

-- `mremap OLD OLDLEN NEWLEN FLAGS`, or with a fifth word NEW
unfoldable pub mremap_of : List (List ℕ) → Result Call Cause
mremap_of (old ∷ old_len ∷ new_len ∷ options ∷ []) = read_mremap old old_len new_len options None
mremap_of (old ∷ old_len ∷ new_len ∷ options ∷ new ∷ []) = read_mremap old old_len new_len options (Some new)
mremap_of _ = Err Arity

-- `brk ADDR`
unfoldable pub brk_of : List (List ℕ) → Result Call Cause
brk_of (addr ∷ []) = do
  a ← number addr
  Ok (Brk a)
brk_of _ = Err Arity

-- the mseal(2) of these words, all of them numbers
unfoldable pub read_mseal : List ℕ → List ℕ → List ℕ → Result Call Cause
read_mseal addr len options = do
  a ← number addr
  l ← number len
  f ← number options
  Ok (Mseal a l f)

-- `mseal ADDR LEN FLAGS`
unfoldable pub mseal_of : List (List ℕ) → Result Call Cause
mseal_of (addr ∷ len ∷ options ∷ []) = read_mseal addr len options
mseal_of _ = Err Arity

-- the call of one of the four names, from the words after it
unfoldable pub call_named : List ℕ → List (List ℕ) → Result Call Cause
call_named name words = if bytes_eq name (codes "mmap") then mmap_of words
    else (if bytes_eq name (codes "munmap") then munmap_of words
    else (if bytes_eq name (codes "mprotect") then mprotect_of words
    else (if bytes_eq name (codes "mremap") then mremap_of words else Err Word)))

-- of the words of an mremap(2) with its name NEW is the sixth: it is there exactly where the flags have MREMAP_FIXED
unfoldable pub has_its_new : Call → List (List ℕ) → Bool
has_its_new (Mremap old old_len new_len bits new) words =
    if has_flag bits MREMAP_FIXED then nat_eq (length words) WORDS_WITH_NEW else not (nat_eq (length words) WORDS_WITH_NEW)
has_its_new _ words = true

-- the words of a call: its name, and the words of its form
unfoldable pub call_of_words : List (List ℕ) → Result Call Cause
call_of_words [] = Err Arity
call_of_words (name ∷ words) = do
  call ← call_named name words
  if has_its_new call (name ∷ words) then Ok call else Err Arity

-- the text of a call, as it stands after a thread
unfoldable pub read_call : List ℕ → Result Call Cause
read_call text = call_of_words (words_of text)
