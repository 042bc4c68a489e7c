-- For `retraced_text_makes_the_maps`: a line that opens one file behind the header alone opens it behind other files, too.
use Rattle.std.proofs.Common.{◌≡◌, ℕ, ◌+◌, ◌<◌, ◌≤◌, Bool, true, false, not, ◌||◌, if◌then◌else◌, nat_eq, nat_lt, nat_le, bytes_eq, List, [], ◌∷◌, ◌++◌, length, codes, All, Option, Some, None, Result, Ok, Err, refl, sym, ap, ◌∙◌, arith}
use Rattle.std.specs.Str.{is_utf8}
use Rattle.std.proofs.lemmas.Bool.{cond-false, ne_eqb}
use Rattle.std.proofs.lemmas.Bool.Decides.{nat_tests}
use Rattle.mm_types.specs.declared.files.FileRow.{FileRow}
use Rattle.mm_types.specs.Config.{default_config}
use Rattle.mm_types.specs.Rows.{first_row}
use Rattle.text_lexer.specs.declared.error.Cause.{Cause}
use Rattle.text_lexer.specs.declared.error.Cause.TheVariants.{Header, Word, TooLong, NoEnd, Utf8}
use Rattle.text_lexer.specs.Causes.{◌>>=◌, unless}
use Rattle.text_lexer.specs.BadLines.{bad_line, at_line}
use Rattle.trace_reader.specs.Grammar.{nothing, after_trace_lines, lines_read, config_of, whole_trace, trace_of}
use Rattle.trace_reader.specs.Lines.{SoFar, with_limit, with_top, with_min, with_heap, has_descriptor, with_file, after_setting, with_line, with_one, after_words, after_trace_line}
use Rattle.text_lexer.specs.Lines.{input_limit, raw_line, is_newline, is_longer_than, text_within}
use Rattle.text_lexer.specs.Words.{is_comment, begins_with_digit, words_of, text_after_words}
use Rattle.trace_reader.specs.Operations.{read_line}
use Rattle.trace_reader.specs.Settings.{limit_of, bound_of, read_file}
use Rattle.text_lexer.proofs.RawPieces.{lines_from-nil}
use Rattle.trace_reader.proofs.LinesRead.{text_of-utf8, lines_from-text, lines_read-header}
use Rattle.trace_reader.specs.LineTexts.{header}
use Rattle.maps_read.specs.FileLines.{files_of, files_opened}

abbrev ok_of : {A E : Type 0} → A → Result A E
ok_of a = Ok a

same_ok : {A E : Type 0} (a b : A) → ok_of {A = A} {E = E} a ≡ ok_of {A = A} {E = E} b → a ≡ b
same_ok a b e = cc

-- so many files more
abbrev pub with_files : SoFar → List FileRow → SoFar
with_files so_far more = record so_far { files = so_far.files ++ more }

-- what a line leaves adds this file, where behind nothing it leaves it alone
abbrev Adds : SoFar → FileRow → Result SoFar Cause → Result SoFar Cause → Type 0
Adds so_far file alone behind = (next : SoFar) → alone ≡ Ok next → next.files ≡ file ∷ [] → behind ≡ Ok (with_files so_far (file ∷ []))

-- what leaves no file behind nothing
abbrev LeavesNone : Result SoFar Cause → Type 0
LeavesNone alone = (next : SoFar) → alone ≡ Ok next → next.files ≡ []

never : (so_far : SoFar) (file : FileRow) (alone behind : Result SoFar Cause) → LeavesNone alone → Adds so_far file alone behind
never so_far file alone behind none next is files = absurd (cc (none next is, files))

choice : (so_far : SoFar) (file : FileRow) (test : Bool) (a b c d : Result SoFar Cause) → Adds so_far file a c → Adds so_far file b d
    → Adds so_far file (if test then a else b) (if test then c else d)
choice so_far file true a b c d first second = first
choice so_far file false a b c d first second = second

none_refused : (cause : Cause) → LeavesNone (Err cause)
none_refused cause next is = absurd (cc is)

none_ok : (so_far : SoFar) → so_far.files ≡ [] → LeavesNone (Ok so_far)
none_ok so_far none next is = ap (λ (s : SoFar). s.files) (sym (same_ok so_far next is)) ∙ none

none_bound : {A : Type 0} (read : Result A Cause) (f : A → Result SoFar Cause) → ((a : A) → LeavesNone (f a)) → LeavesNone (read >>= f)
none_bound (Ok a) f none = none a
none_bound (Err cause) f none = none_refused cause

none_unless : (answer : Option Cause) (so_far : SoFar) → so_far.files ≡ [] → LeavesNone (unless answer (Ok so_far))
none_unless None so_far none = none_ok so_far none
none_unless (Some cause) so_far none = none_refused cause

line_none : (number : ℕ) (first : List ℕ) (words : List (List ℕ)) → LeavesNone (read_line number first words >>= λ line. with_line nothing line)
unfolding with_line with_one
line_none number first words = none_bound (read_line number first words) (λ line. with_line nothing line) (λ line. none_unless _ (with_one nothing line) refl)

limit_none : (words : List (List ℕ)) → LeavesNone (with_limit nothing words)
unfolding with_limit
limit_none words = none_bound (limit_of words) (λ n. Ok (record nothing { areas = Some n })) (λ n. none_ok (record nothing { areas = Some n }) refl)

top_none : (words : List (List ℕ)) → LeavesNone (with_top nothing words)
unfolding with_top
top_none words = none_bound (bound_of words) (λ n. Ok (record nothing { top = Some n })) (λ n. none_ok (record nothing { top = Some n }) refl)

min_none : (words : List (List ℕ)) → LeavesNone (with_min nothing words)
unfolding with_min
min_none words = none_bound (bound_of words) (λ n. Ok (record nothing { min = Some n })) (λ n. none_ok (record nothing { min = Some n }) refl)

heap_none : (words : List (List ℕ)) → LeavesNone (with_heap nothing words)
unfolding with_heap
heap_none words = none_bound (bound_of words) (λ n. Ok (record nothing { heap = Some n })) (λ n. none_ok (record nothing { heap = Some n }) refl)

module _ (so_far : SoFar) (file : FileRow) (before : so_far.lines ≡ []) (new : has_descriptor so_far.files file.fd ≡ false)
    (room : length so_far.files < 1024) where
  file_adds : (read : Result FileRow Cause)
      → Adds so_far file (read >>= λ row. with_file nothing row) (read >>= λ row. with_file so_far row)
  unfolding with_file has_descriptor
  file_adds (Ok row) next is files =
      let few : nat_le 1024 (length so_far.files) ≡ false = grind (arith, nat_tests) in
      let left : record nothing { files = row ∷ [] } ≡ next = same_ok _ next is in
      let one : row ∷ [] ≡ file ∷ [] = ap (λ (s : SoFar). s.files) left ∙ files in
      let same : row ≡ file = cc one in
      ap (λ (r : FileRow). with_file so_far r) same ∙ rw (new, few) refl
  file_adds (Err cause) next is files = absurd (cc is)

  setting_adds : (text first : List ℕ) (words : List (List ℕ))
      → Adds so_far file (after_setting nothing text first words) (after_setting so_far text first words)
  unfolding after_setting
  setting_adds text first words next is files =
      ap (λ lines. if nat_lt 0 (length lines) then Err Word
      else (if bytes_eq first (codes "limit") then with_limit so_far words
      else (if bytes_eq first (codes "top") then with_top so_far words
      else (if bytes_eq first (codes "min") then with_min so_far words
      else (if bytes_eq first (codes "heap") then with_heap so_far words
      else (if bytes_eq first (codes "file") then (read_file words (text_after_words 6 text) >>= λ row. with_file so_far row)
      else Err Word)))))) before
      ∙ choice so_far file (bytes_eq first (codes "limit")) _ _ _ _ (never so_far file _ _ (limit_none words))
      (choice so_far file (bytes_eq first (codes "top")) _ _ _ _ (never so_far file _ _ (top_none words))
      (choice so_far file (bytes_eq first (codes "min")) _ _ _ _ (never so_far file _ _ (min_none words))
      (choice so_far file (bytes_eq first (codes "heap")) _ _ _ _ (never so_far file _ _ (heap_none words))
      (choice so_far file (bytes_eq first (codes "file")) _ _ _ _ (file_adds (read_file words (text_after_words 6 text)))
      (never so_far file _ _ (none_refused Word)))))) next is files

  words_add : (number : ℕ) (text : List ℕ) (words : List (List ℕ))
      → Adds so_far file (after_words nothing 2 text words) (after_words so_far number text words)
  unfolding after_words
  words_add number text [] = never so_far file _ _ (none_ok nothing refl)
  words_add number text (first ∷ words) =
      choice so_far file (is_comment first) _ _ _ _ (never so_far file _ _ (none_ok nothing refl))
      (choice so_far file (begins_with_digit first) _ _ _ _ (never so_far file _ _ (line_none 2 first words))
      (setting_adds text first words))

-- what the tests of its bytes leave of a line
record IsAlone (text : List ℕ) (next : SoFar) : Type 0 where
  utf8 : is_utf8 text ≡ true
  short : length text ≤ 4096
  words : after_words nothing 2 text (words_of text) ≡ Ok next

short_test : (n m most : ℕ) → (nat_lt 4096 n || nat_lt most m) ≡ false → n ≤ 4096
short_test n m most e = grind (arith, nat_tests)

by_tests : (long utf8 : Bool) (text : List ℕ) (rest : List ℕ → Result SoFar Cause) (next : SoFar)
    → (unless (first_row ((long, TooLong) ∷ (not true, NoEnd) ∷ (not utf8, Utf8) ∷ [])) (Ok text) >>= rest) ≡ Ok next
    → (long ≡ false) × (utf8 ≡ true) × (rest text ≡ Ok next)
by_tests true utf8 text rest next e = absurd (cc e)
by_tests false true text rest next e = (refl, refl, e)
by_tests false false text rest next e = absurd (cc e)

alone : (text : List ℕ) (next : SoFar) → after_trace_line nothing (raw_line 2 11 text true) ≡ Ok next → IsAlone text next
unfolding after_trace_line text_within is_longer_than
alone text next e =
    let parts = by_tests (nat_lt 4096 (length text) || nat_lt input_limit (11 + length text + 1)) (is_utf8 text) text
    (λ t. after_words nothing 2 t (words_of t)) next e in
    record { utf8 = parts.1; short = short_test (length text) (11 + length text + 1) input_limit parts.0; words = parts.2 }

-- a line that leaves this file behind nothing adds it to others, of which none has its descriptor
line_adds : (so_far next : SoFar) (file : FileRow) (number start : ℕ) (text : List ℕ) → so_far.lines ≡ []
    → has_descriptor so_far.files file.fd ≡ false → length so_far.files < 1024 → 1 < number → start + length text + 1 ≤ input_limit
    → after_trace_line nothing (raw_line 2 11 text true) ≡ Ok next → next.files ≡ file ∷ []
    → after_trace_line so_far (raw_line number start text true) ≡ Ok (with_files so_far (file ∷ []))
unfolding after_trace_line
line_adds so_far next file number start text before new room later within is files =
    let found = alone text next is in
    let read = text_of-utf8 number start text found.utf8 found.short within in
    let other : nat_eq number 1 ≡ false = grind (arith, nat_tests) in
    rw (read, other) (words_add so_far file before new room number text (words_of text) next found.words files)

-- what a line leaves that opens this file
record LeavesFile (text : List ℕ) (file : FileRow) : Type 0 where
  next : SoFar
  is : after_trace_line nothing (raw_line 2 11 text true) ≡ Ok next
  files : next.files ≡ file ∷ []

left_by : (text : List ℕ) (file : FileRow) (left : Result SoFar Cause) → after_trace_line nothing (raw_line 2 11 text true) ≡ left
    → files_of (whole_trace (at_line 2 left (λ next. Ok next))) ≡ file ∷ [] → LeavesFile text file
unfolding config_of default_config
left_by text file (Ok next) is files = record { next = next; is = is; files = files }
left_by text file (Err cause) is files = absurd (cc files)

leaves : (text : List ℕ) (file : FileRow) → All (λ c. is_newline c ≡ false) text → files_opened (text ++ codes "\n") ≡ file ∷ []
    → LeavesFile text file
unfolding files_opened trace_of
leaves text file single opened =
    let bytes = header ++ (text ++ codes "\n") in
    let some : nat_eq (length bytes) 0 ≡ false = ne_eqb (length bytes) 0 (λ none. omega arith) in
    let read : lines_read bytes ≡ at_line 2 (after_trace_line nothing (raw_line 2 11 text true)) (λ next. Ok next) =
    lines_read-header (text ++ codes "\n") ∙ ap (after_trace_lines nothing) (lines_from-text 2 11 text [] single)
    ∙ ap (λ rest. at_line 2 (after_trace_line nothing (raw_line 2 11 text true)) (λ next. after_trace_lines next rest)) (lines_from-nil 3 (11 + length text + 1)) in
    left_by text file (after_trace_line nothing (raw_line 2 11 text true)) refl
    (ap (λ r. files_of (whole_trace r)) (sym read)
    ∙ ap files_of (sym (cond-false (nat_eq (length bytes) 0) (Err (bad_line 1 Header)) (whole_trace (lines_read bytes)) some))
    ∙ opened)

-- a line that opens this file in a trace of it alone adds it to others, of which none has its descriptor
pub opens_behind : (so_far : SoFar) (file : FileRow) (number start : ℕ) (text : List ℕ) → so_far.lines ≡ []
    → has_descriptor so_far.files file.fd ≡ false → length so_far.files < 1024 → 1 < number → start + length text + 1 ≤ input_limit
    → All (λ c. is_newline c ≡ false) text → files_opened (text ++ codes "\n") ≡ file ∷ []
    → after_trace_line so_far (raw_line number start text true) ≡ Ok (with_files so_far (file ∷ []))
opens_behind so_far file number start text before new room later within single opened =
    let left = leaves text file single opened in
    line_adds so_far left.next file number start text before new room later within left.is left.files

-- and is not long
pub opens_short : (file : FileRow) (text : List ℕ) → All (λ c. is_newline c ≡ false) text → files_opened (text ++ codes "\n") ≡ file ∷ []
    → length text ≤ 4096
opens_short file text single opened = let left = leaves text file single opened in (alone text left.next left.is).short
