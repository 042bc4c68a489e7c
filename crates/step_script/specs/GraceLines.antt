-- The events of the grace core, each from the words after its name.
use Rattle.std.specs.Prelude.{ℕ, Bool, List, [], ◌∷◌, codes, bytes_eq, Result, Ok, Err, if◌then◌else◌}
use Rattle.mm_types.specs.declared.slot.Row.{Row}
use Rattle.grace_core.specs.declared.events.GraceEvent.{GraceEvent}
use Rattle.grace_core.specs.declared.events.GraceEvent.TheVariants as events
use Rattle.text_lexer.specs.declared.error.Cause.{Cause}
use Rattle.text_lexer.specs.declared.error.Cause.TheVariants.{Word, Arity}
use Rattle.text_lexer.specs.Causes.{◌>>=◌}
use Rattle.text_lexer.specs.Numbers.{number}
use Rattle.step_script.specs.Fields.{read_index, read_reader}

-- `open R`
unfoldable pub open_of : ℕ → List (List ℕ) → Result GraceEvent Cause
open_of readers words = do
  r ← read_reader readers words
  Ok (events.Open r)

-- `root R`
unfoldable pub read_root : ℕ → List (List ℕ) → Result GraceEvent Cause
read_root readers words = do
  r ← read_reader readers words
  Ok (events.Root r)

-- the load of a word that these words ask for
unfoldable pub read_load_of_word : ℕ → ℕ → List ℕ → List ℕ → Result GraceEvent Cause
read_load_of_word readers rows reader row = do
  r ← read_index readers reader
  w ← read_index rows row
  Ok (events.Word r (record { 0 = w }))

-- `word R W`
unfoldable pub read_word : ℕ → ℕ → List (List ℕ) → Result GraceEvent Cause
read_word readers rows (reader ∷ row ∷ []) = read_load_of_word readers rows reader row
read_word readers rows _ = Err Arity

-- `close R`
unfoldable pub close_of : ℕ → List (List ℕ) → Result GraceEvent Cause
close_of readers words = do
  r ← read_reader readers words
  Ok (events.Close r)

-- the fill of these words
unfoldable pub fill : ℕ → List ℕ → List ℕ → Result GraceEvent Cause
fill rows row value = do
  w ← read_index rows row
  x ← number value
  Ok (events.Fill (record { 0 = w }) x)

-- `fill W X`
unfoldable pub fill_of : ℕ → List (List ℕ) → Result GraceEvent Cause
fill_of rows (row ∷ value ∷ []) = fill rows row value
fill_of rows _ = Err Arity

-- rows, each a word
abbrev pub read_row_words : ℕ → List (List ℕ) → Result (List Row) Cause
read_row_words rows [] = Ok []
read_row_words rows (word ∷ words) = do
  w ← read_index rows word
  listed ← read_row_words rows words
  Ok (record { 0 = w } ∷ listed)

-- `publish N` and one or more rows
unfoldable pub publish_of : ℕ → List (List ℕ) → Result GraceEvent Cause
publish_of rows (tree ∷ root ∷ more) = do
  n ← number tree
  listed ← read_row_words rows (root ∷ more)
  Ok (events.Publish n listed)
publish_of rows _ = Err Arity

-- `scan R`
unfoldable pub scan_of : ℕ → List (List ℕ) → Result GraceEvent Cause
scan_of readers words = do
  r ← read_reader readers words
  Ok (events.Scan r)

-- whether a word is the name of the event that lists rows
abbrev pub is_publish : List ℕ → Bool
is_publish name = bytes_eq name (codes "publish")

-- the event of this name
unfoldable pub grace_event : ℕ → ℕ → List ℕ → List (List ℕ) → Result GraceEvent Cause
grace_event readers rows name words = if bytes_eq name (codes "open") then open_of readers words
    else (if bytes_eq name (codes "root") then read_root readers words
    else (if bytes_eq name (codes "word") then read_word readers rows words
    else (if bytes_eq name (codes "close") then close_of readers words
    else (if bytes_eq name (codes "fill") then fill_of rows words
    else (if is_publish name then publish_of rows words
    else (if bytes_eq name (codes "scan") then scan_of readers words else Err Word))))))
