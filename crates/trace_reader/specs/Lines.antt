-- What one line does to what was read before it, or the first test that it fails.
use Rattle.std.specs.Prelude.{ℕ, ◌+◌, Bool, true, false, not, ◌&&◌, ◌||◌, List, [], ◌∷◌, ◌++◌, length, codes, bytes_eq, nat_eq, nat_lt, nat_le, ℤ, Option, Some, None, is_some, option_to_list, Result, Ok, Err, ok_or, if◌then◌else◌}
use Rattle.std.specs.List.{list_any}
use Rattle.std.specs.Ordering.{int_eq}
use Rattle.mm_types.specs.declared.config.TheConstants.{MOST_FILES}
use Rattle.mm_types.specs.declared.files.FileRow.{FileRow}
use Rattle.mm_types.specs.Rows.{first_row}
use Rattle.trace_reader.specs.declared.trace.TraceLine.{TraceLine}
use Rattle.trace_reader.specs.declared.builder.TheConstants.{WORDS_BEFORE_PATH}
use Rattle.trace_reader.specs.declared.builder.Version.{Version}
use Rattle.trace_reader.specs.declared.builder.Version.TheVariants.{Narrow, Wide}
use Rattle.text_lexer.specs.declared.error.Cause.{Cause}
use Rattle.text_lexer.specs.declared.error.Cause.TheVariants.{Header, Word, TooMany, FileTwice, After, Child}
use Rattle.trace_reader.specs.declared.limits.TheConstants.{MOST_LINES, MOST_MAPS, MOST_NAMED, MOST_FORKS}
use Rattle.text_lexer.specs.Causes.{◌>>=◌, unless}
use Rattle.trace_reader.specs.Operations.{read_line}
use Rattle.text_lexer.specs.Lines.{RawLine, text_of}
use Rattle.trace_reader.specs.Settings.{limit_of, bound_of, read_file}
use Rattle.trace_reader.specs.Values.{is_call_op, is_maps, child_of}
use Rattle.text_lexer.specs.Words.{words_of, text_after_words, is_header, is_comment, begins_with_digit}

-- whether a test holds of the value of an option, where it has one
abbrev pub all_some : (ℕ → Bool) → Option ℕ → Bool
all_some test None = true
all_some test (Some n) = test n

-- What the lines so far say: the version of the trace, what `limit`, `top`, `min` and `heap` set, the files, the lines with a
-- thread, the children that they fork, and how many of them are `maps`, and how many name a line.
pub record SoFar : Type 0 where
  pub version : Version
  pub areas : Option ℕ
  pub top : Option ℕ
  pub min : Option ℕ
  pub heap : Option ℕ
  pub files : List FileRow
  pub lines : List TraceLine
  pub children : List ℕ
  pub maps : ℕ
  pub named : ℕ

-- the version of the header: `vmatrace 1` or `vmatrace 2`
unfoldable pub read_version : List (List ℕ) → Option Version
read_version words = if is_header (codes "vmatrace") (codes "1") words then Some Narrow
    else (if is_header (codes "vmatrace") (codes "2") words then Some Wide else None)

-- the first line
unfoldable pub with_header : SoFar → List (List ℕ) → Result SoFar Cause
with_header so_far words = do
  version ← ok_or (read_version words) Header
  Ok (record so_far { version = version })

-- whether a thread is a child so far
abbrev pub has_child : List ℕ → ℕ → Bool
has_child children thread = list_any (λ child. nat_eq child thread) children

-- whether a line has this number, is a call, and is of another thread than this one that is no child
abbrev pub is_told : List ℕ → ℕ → ℕ → TraceLine → Bool
is_told children thread number other = nat_eq other.number number && (is_call_op other.op
    && (not (nat_eq other.thread thread) && not (has_child children other.thread)))

-- whether a line of this thread may name the line of this number: no child names one, and a line so far is told
unfoldable pub may_name : SoFar → ℕ → ℕ → Bool
may_name so_far thread number = not (has_child so_far.children thread)
    && list_any (is_told so_far.children thread number) so_far.lines

-- whether a thread may fork this child: no child forks, and the child is another thread, which does not stand so far
unfoldable pub may_fork : SoFar → ℕ → ℕ → Bool
may_fork so_far thread child = not (has_child so_far.children thread) && (not (nat_eq child thread)
    && (not (has_child so_far.children child) && not (list_any (λ other. nat_eq other.thread child) so_far.lines)))

-- whether a line may name the line that it names, if it names one
unfoldable pub names_rightly : SoFar → TraceLine → Bool
names_rightly so_far line = all_some (may_name so_far line.thread) line.after

-- whether a line may fork its child, if it forks one
unfoldable pub forks_rightly : SoFar → TraceLine → Bool
forks_rightly so_far line = all_some (may_fork so_far line.thread) (child_of line.op)

-- whether there are as many lines as a trace may have, or as many of those that read the list, name a line or fork
unfoldable pub is_full : SoFar → TraceLine → Bool
is_full so_far line = nat_le MOST_LINES (length so_far.lines) || (is_maps line.op && nat_le MOST_MAPS so_far.maps
    || (is_some line.after && nat_le MOST_NAMED so_far.named || is_some (child_of line.op) && nat_le MOST_FORKS (length so_far.children)))

-- with one line more
unfoldable pub with_one : SoFar → TraceLine → SoFar
with_one so_far line = record so_far {
  lines = so_far.lines ++ line ∷ [];
  children = so_far.children ++ option_to_list (child_of line.op);
  maps = if is_maps line.op then so_far.maps + 1 else so_far.maps;
  named = if is_some line.after then so_far.named + 1 else so_far.named;
}

-- what a line with a thread adds, by its last tests in their order: the line that it names, the child, and how many there may be
unfoldable pub with_line : SoFar → TraceLine → Result SoFar Cause
with_line so_far line = unless
    (first_row
    ((not (names_rightly so_far line), After)
    ∷ (not (forks_rightly so_far line), Child)
    ∷ (is_full so_far line, TooMany)
    ∷ []))
    (Ok (with_one so_far line))

-- a reading that may come once
abbrev pub once : {A B : Type 0} → Option A → Result B Cause → Result B Cause
once seen read = if is_some seen then Err Word else read

-- a `limit` line
unfoldable pub with_limit : SoFar → List (List ℕ) → Result SoFar Cause
with_limit so_far words = once so_far.areas (limit_of words >>= λ n. Ok (record so_far { areas = Some n }))

-- a `top` line
unfoldable pub with_top : SoFar → List (List ℕ) → Result SoFar Cause
with_top so_far words = once so_far.top (bound_of words >>= λ n. Ok (record so_far { top = Some n }))

-- a `min` line
unfoldable pub with_min : SoFar → List (List ℕ) → Result SoFar Cause
with_min so_far words = once so_far.min (bound_of words >>= λ n. Ok (record so_far { min = Some n }))

-- a `heap` line
unfoldable pub with_heap : SoFar → List (List ℕ) → Result SoFar Cause
with_heap so_far words = once so_far.heap (bound_of words >>= λ n. Ok (record so_far { heap = Some n }))

-- whether a file has this descriptor
unfoldable pub has_descriptor : List FileRow → ℤ → Bool
has_descriptor files fd = list_any (λ file. int_eq file.fd fd) files

-- what a file adds
unfoldable pub with_file : SoFar → FileRow → Result SoFar Cause
with_file so_far file = unless
    (first_row
    ((has_descriptor so_far.files file.fd, FileTwice)
    ∷ (nat_le MOST_FILES (length so_far.files), TooMany)
    ∷ []))
    (Ok (record so_far { files = so_far.files ++ file ∷ [] }))

-- a line whose first word begins with no digit
unfoldable pub after_setting : SoFar → List ℕ → List ℕ → List (List ℕ) → Result SoFar Cause
after_setting so_far text first words = if nat_lt 0 (length so_far.lines) then Err Word
    else (if bytes_eq first (codes "limit") then with_limit so_far words
    else (if bytes_eq first (codes "top") then with_top so_far words
    else (if bytes_eq first (codes "min") then with_min so_far words
    else (if bytes_eq first (codes "heap") then with_heap so_far words
    else (if bytes_eq first (codes "file") then (read_file words (text_after_words WORDS_BEFORE_PATH text) >>= λ file. with_file so_far file)
    else Err Word)))))

-- a line below the header by its words: one without words, and a comment, is passed over
unfoldable pub after_words : SoFar → ℕ → List ℕ → List (List ℕ) → Result SoFar Cause
after_words so_far number text [] = Ok so_far
after_words so_far number text (first ∷ words) = if is_comment first then Ok so_far
    else (if begins_with_digit first then (read_line number first words >>= λ line. with_line so_far line)
    else after_setting so_far text first words)

-- the line of this number by its text and its words: line 1 is the header
abbrev pub after_text : SoFar → ℕ → List ℕ → List (List ℕ) → Result SoFar Cause
after_text so_far number text words = if nat_eq number 1 then with_header so_far words else after_words so_far number text words

-- a line: the tests of its bytes, and then those of its words
unfoldable pub after_trace_line : SoFar → RawLine → Result SoFar Cause
after_trace_line so_far line = do
  text ← text_of line
  after_text so_far line.number text (words_of text)
