-- The events of the lock core, each from the words after its name.
use Rattle.std.specs.Prelude.{ℕ, Bool, List, [], ◌∷◌, codes, bytes_eq, Result, Ok, Err, if◌then◌else◌}
use Rattle.lock_core.specs.declared.events.LockEvent.{LockEvent}
use Rattle.lock_core.specs.declared.events.LockEvent.TheVariants.{Add, Look, Field, Sub, Begin, Mark, Store, End}
use Rattle.text_lexer.specs.declared.error.Cause.{Cause}
use Rattle.text_lexer.specs.declared.error.Cause.TheVariants.{Word, Arity}
use Rattle.trace_reader.specs.Calls.{read_call}
use Rattle.text_lexer.specs.Causes.{◌>>=◌}
use Rattle.text_lexer.specs.Numbers.{number}
use Rattle.text_lexer.specs.Words.{text_after_words}
use Rattle.step_script.specs.Fields.{read_index, read_caller, read_reader}

-- the add of these words
unfoldable pub add : ℕ → ℕ → List ℕ → List ℕ → Result LockEvent Cause
add readers slots reader slot = do
  r ← read_index readers reader
  k ← read_index slots slot
  Ok (Add r (record { 0 = k }))

-- `add R K`
unfoldable pub add_of : ℕ → ℕ → List (List ℕ) → Result LockEvent Cause
add_of readers slots (reader ∷ slot ∷ []) = add readers slots reader slot
add_of readers slots _ = Err Arity

-- `look R`
unfoldable pub look_of : ℕ → List (List ℕ) → Result LockEvent Cause
look_of readers words = do
  r ← read_reader readers words
  Ok (Look r)

-- the read of a field that these words ask for
unfoldable pub field : ℕ → List ℕ → List ℕ → Result LockEvent Cause
field readers reader place = do
  r ← read_index readers reader
  i ← read_index 4 place
  Ok (Field r i)

-- `field R I`
unfoldable pub field_of : ℕ → List (List ℕ) → Result LockEvent Cause
field_of readers (reader ∷ place ∷ []) = field readers reader place
field_of readers _ = Err Arity

-- `sub R`
unfoldable pub sub_of : ℕ → List (List ℕ) → Result LockEvent Cause
sub_of readers words = do
  r ← read_reader readers words
  Ok (Sub r)

-- `begin`
unfoldable pub begin_of : List (List ℕ) → Result LockEvent Cause
begin_of [] = Ok Begin
begin_of _ = Err Arity

-- `mark K`
unfoldable pub mark_of : ℕ → List (List ℕ) → Result LockEvent Cause
mark_of slots (slot ∷ []) = do
  k ← read_index slots slot
  Ok (Mark (record { 0 = k }))
mark_of slots _ = Err Arity

-- the store of these words
unfoldable pub store : ℕ → List ℕ → List ℕ → List ℕ → Result LockEvent Cause
store slots slot field word = do
  k ← read_index slots slot
  i ← read_index 4 field
  x ← number word
  Ok (Store (record { 0 = k }) i x)

-- `store K I X`
unfoldable pub store_of : ℕ → List (List ℕ) → Result LockEvent Cause
store_of slots (slot ∷ field ∷ word ∷ []) = store slots slot field word
store_of slots _ = Err Arity

-- the end of a call of this caller, where the call is what follows two words of the line's text
unfoldable pub end_by : List ℕ → List ℕ → Result LockEvent Cause
end_by text caller = do
  t ← read_caller caller
  call ← read_call (text_after_words 2 text)
  Ok (End t call)

-- `end T CALL`
unfoldable pub read_end : List ℕ → List (List ℕ) → Result LockEvent Cause
read_end text (caller ∷ name ∷ more) = end_by text caller
read_end text _ = Err Arity

-- whether a word is the name of the event that has a call
abbrev pub is_end : List ℕ → Bool
is_end name = bytes_eq name (codes "end")

-- the event of this name, in a line of this text
unfoldable pub lock_event : ℕ → ℕ → List ℕ → List ℕ → List (List ℕ) → Result LockEvent Cause
lock_event readers slots text name words = if bytes_eq name (codes "add") then add_of readers slots words
    else (if bytes_eq name (codes "look") then look_of readers words
    else (if bytes_eq name (codes "field") then field_of readers words
    else (if bytes_eq name (codes "sub") then sub_of readers words
    else (if bytes_eq name (codes "begin") then begin_of words
    else (if bytes_eq name (codes "mark") then mark_of slots words
    else (if bytes_eq name (codes "store") then store_of slots words
    else (if is_end name then read_end text words else Err Word)))))))
