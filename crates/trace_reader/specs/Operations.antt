-- What a line with a thread asks for.
use Rattle.std.specs.Prelude.{ℕ, ◌/◌, ◌-◌, Bool, true, ◌&&◌, List, [], ◌∷◌, length, take, drop, codes, bytes_eq, nat_eq, nat_lt, get_or, Option, Some, None, is_some, Result, Ok, Err, ok_or, if◌then◌else◌}
use Rattle.std.specs.List.{starts_with}
use Rattle.mm_types.specs.declared.call.Call.{Call}
use Rattle.mm_types.specs.declared.config.TheConstants.{PAGE_SIZE}
use Rattle.trace_reader.specs.declared.trace.Op.{Op}
use Rattle.trace_reader.specs.declared.trace.Op.TheVariants as ops
use Rattle.trace_reader.specs.declared.trace.TraceLine.{TraceLine}
use Rattle.text_lexer.specs.declared.error.Cause.{Cause}
use Rattle.text_lexer.specs.declared.error.Cause.TheVariants.{Number, Arity, Thread}
use Rattle.trace_reader.specs.Calls.{call_named, brk_of, mseal_of, has_its_new}
use Rattle.text_lexer.specs.Causes.{◌>>=◌}
use Rattle.text_lexer.specs.Numbers.{number, decimal_of}
use Rattle.trace_reader.specs.Fields.{access, read_thread}

-- the page fault of these words: the page of the address, and the access
unfoldable pub read_fault : List ℕ → List ℕ → Result Op Cause
read_fault addr wanted = do
  a ← number addr
  w ← access wanted
  Ok (ops.Fault (record { 0 = a / PAGE_SIZE }) w)

-- `fault ADDR A`
unfoldable pub fault_of : List (List ℕ) → Result Op Cause
fault_of (addr ∷ wanted ∷ []) = read_fault addr wanted
fault_of _ = Err Arity

-- `maps`
unfoldable pub read_maps : List (List ℕ) → Result Op Cause
read_maps [] = Ok ops.Maps
read_maps _ = Err Arity

-- `fork C`, where C is a thread
unfoldable pub read_fork : List (List ℕ) → Result Op Cause
read_fork (child ∷ []) = do
  c ← ok_or (read_thread child) Number
  Ok (ops.Fork c)
read_fork _ = Err Arity

-- the operation that a call is
abbrev pub read_op_of_call : Result Call Cause → Result Op Cause
read_op_of_call read = read >>= λ call. Ok (ops.Call call)

-- the operation of this name, from the words after it
unfoldable pub op_named : List ℕ → List (List ℕ) → Result Op Cause
op_named name words = if bytes_eq name (codes "fault") then fault_of words
    else (if bytes_eq name (codes "maps") then read_maps words
    else (if bytes_eq name (codes "fork") then read_fork words
    else (if bytes_eq name (codes "brk") then read_op_of_call (brk_of words)
    else (if bytes_eq name (codes "mseal") then read_op_of_call (mseal_of words)
    else read_op_of_call (call_named name words)))))

-- the words after a thread: the name of an operation, and the words of its form
unfoldable pub read_op : List (List ℕ) → Result Op Cause
read_op [] = Err Arity
read_op (name ∷ words) = op_named name words

-- `after=`
abbrev pub note : List ℕ
note = codes "after="

-- the last of words
abbrev pub last_word : List (List ℕ) → List ℕ
last_word words = get_or words (length words - 1) []

-- LINE of `after=LINE`, where that is the last of the words after a thread and stands behind the name of the operation
unfoldable pub read_note : List (List ℕ) → Option (List ℕ)
read_note words = if nat_lt 1 (length words) && starts_with nat_eq (last_word words) note
    then Some (drop (length note) (last_word words)) else None

-- the words without that one
unfoldable pub without_note : List (List ℕ) → List (List ℕ)
without_note words = if is_some (read_note words) then take (length words - 1) words else words

-- LINE: the number of a line, where its word is there
unfoldable pub line_named : Option (List ℕ) → Result (Option ℕ) Cause
line_named None = Ok None
line_named (Some word) = do
  n ← ok_or (decimal_of word) Number
  Ok (Some n)

-- an mremap(2) among these words has NEW where it is to have it
abbrev pub op_has_its_new : Op → List (List ℕ) → Bool
op_has_its_new (ops.Call call) words = has_its_new call words
op_has_its_new (ops.Fault page wanted) words = true
op_has_its_new ops.Maps words = true
op_has_its_new (ops.Fork child) words = true

-- The line of this number that these words are, by its tests in their order: the thread; the name of the operation; how many
-- words there are; each of them, from the left; LINE; and NEW against the flags of an mremap(2).
unfoldable pub read_line : ℕ → List ℕ → List (List ℕ) → Result TraceLine Cause
read_line number first words = do
  thread ← ok_or (read_thread first) Thread
  op ← read_op (without_note words)
  after ← line_named (read_note words)
  if op_has_its_new op (without_note words)
      then Ok (record { number = number; thread = thread; op = op; after = after }) else Err Arity
