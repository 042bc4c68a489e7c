-- Which trace makes a maps text, or else which of its lines is first none of ours.
use Rattle.std.specs.Prelude.{ℕ, ◌+◌, ◌-◌, Bool, true, false, not, ◌&&◌, List, [], ◌∷◌, ◌++◌, length, codes, bytes_eq, nat_eq, nat_lt, nat_le, flat_map, slice_get, Option, Some, None, unwrap_or, Result, Ok, Err, if◌then◌else◌}
use Rattle.std.specs.Option.{option_map_or}
use Rattle.mm_types.specs.declared.area.Record.{Record}
use Rattle.mm_types.specs.declared.config.TheConstants.{ADDRESS_LIMIT, DEFAULT_MIN, MOST_AREAS, MOST_FILES}
use Rattle.mm_types.specs.declared.files.FileRow.{FileRow}
use Rattle.mm_types.specs.MapsText.{area_text}
use Rattle.mm_types.specs.Packed.{is_valid}
use Rattle.area_list.specs.Areas.{page_of, joins}
use Rattle.text_lexer.specs.declared.error.Cause.{Cause}
use Rattle.text_lexer.specs.declared.error.Cause.TheVariants.{NotOurs}
use Rattle.text_lexer.specs.declared.error.BadLine.{BadLine}
use Rattle.text_lexer.specs.Causes.{◌>>=◌}
use Rattle.text_lexer.specs.BadLines.{at_line}
use Rattle.text_lexer.specs.Lines.{RawLine, raw_lines}
use Rattle.maps_read.specs.declared.maps.MapsLine.{MapsLine}
use Rattle.maps_read.specs.Maps.{maps_of}
use Rattle.maps_read.specs.declared.file_lines.TheConstants.{FIRST_DESCRIPTOR}
use Rattle.trace_reader.specs.LineTexts.{header}
use Rattle.maps_read.specs.FileLines.{first_line_of_file, file_text, file_texts, files_opened, are_one_file}
use Rattle.maps_read.specs.Mappings.{mapping_text}

-- What was taken of the lines so far: those that show a file first, for each the files that its line of the trace opens, which are one,
-- and the areas.
pub record Taken : Type 0 where
  pub named : List MapsLine
  pub opened : List (List FileRow)
  pub areas : List Record

-- before the first line
abbrev pub nothing_taken : Taken
nothing_taken = record { named = []; opened = []; areas = [] }

-- all files, in the order of first use
abbrev pub files_taken : Taken → List FileRow
files_taken taken = flat_map (λ files. files) taken.opened

-- the area of a line that maps this object: all may be allowed there, and it neither grows nor is it sealed or part of the heap
unfoldable pub area_of : ℕ → MapsLine → Record
area_of object line = record {
  span = record { lo = page_of line.lo; hi = page_of line.hi };
  attr = record {
    prot = line.prot;
    most = record { read = true; write = true; exec = true };
    shared = line.shared;
    grows = false;
    sealed = false;
    heap = false;
  };
  object = object;
  offset = page_of line.offset;
}

-- Whether an area may follow others in a sound list of the default configuration: it is valid and ends at or below the limit, the last
-- one ends at or below its begin and does not join it, and there is room for one more.
unfoldable pub may_follow : List Record → Record → Bool
may_follow areas area = is_valid area && (nat_le area.span.hi (page_of ADDRESS_LIMIT) && (nat_lt (length areas) MOST_AREAS
    && option_map_or (λ last. nat_le last.span.hi area.span.lo && not (joins last area)) (slice_get areas (length areas - 1)) true))

-- whether a text is that of the line of an area that maps nothing or the one of these files
abbrev pub is_text_of : List FileRow → MapsLine → List ℕ → Bool
is_text_of files line text = bytes_eq (area_text files (area_of (length files) line)) (text ++ codes "\n")

-- whether a line may be mapped behind areas, as that of an object: its area may follow, and it does not begin below the minimum
abbrev pub may_map : List Record → ℕ → MapsLine → Bool
may_map areas object line = may_follow areas (area_of object line) && nat_le DEFAULT_MIN line.lo

-- Whether a line that shows these files, none or one, is ours, as the area of an object behind others: its bytes are those of a maps
-- text, and it may be mapped.
unfoldable pub is_ours : List Record → List FileRow → ℕ → MapsLine → List ℕ → Bool
is_ours areas files object line text = is_text_of files line text && may_map areas object line

-- the areas, and behind them that of a line that shows these files
unfoldable pub areas_with : List Record → List FileRow → ℕ → MapsLine → List ℕ → Result (List Record) Cause
areas_with areas files object line text = if is_ours areas files object line text then Ok (areas ++ area_of object line ∷ []) else Err NotOurs

-- with the area of a line that shows these files
abbrev pub with_area : Taken → List FileRow → ℕ → MapsLine → List ℕ → Result Taken Cause
with_area taken files object line text = areas_with taken.areas files object line text >>= λ areas. Ok (record taken { areas = areas })

-- with the file of a line that shows it first: there is room for one more, and its line of a trace opens it under the next descriptor
unfoldable pub with_next_file : Taken → MapsLine → Result Taken Cause
with_next_file taken line =
    let fd = FIRST_DESCRIPTOR + length taken.named in
    let files = files_opened (file_text fd line) in
    if nat_lt (length taken.named) MOST_FILES && are_one_file fd files
    then Ok (record taken { named = taken.named ++ line ∷ []; opened = taken.opened ++ files ∷ [] }) else Err NotOurs

-- with the file of a line, and its place: that of a line so far, or the next
abbrev pub with_file_at : Taken → Option ℕ → MapsLine → Result (Taken × ℕ) Cause
with_file_at taken (Some place) line = Ok (taken, place)
with_file_at taken None line = with_next_file taken line >>= λ next. Ok (next, length taken.named)

-- the same, where its place is found by what the lines so far show
unfoldable pub with_file_taken : Taken → MapsLine → Result (Taken × ℕ) Cause
with_file_taken taken line = with_file_at taken (first_line_of_file taken.named line) line

-- the one file at a place
abbrev pub file_at : Taken → ℕ → List FileRow
file_at taken place = unwrap_or (slice_get taken.opened place) []

-- with a line and its text: without a name it shows no file, and maps object 0; else it maps its file, the first of which is object 1
unfoldable pub with_line_taken : Taken → MapsLine → List ℕ → Result Taken Cause
with_line_taken taken line text = if nat_eq (length line.name) 0 then with_area taken [] 0 line text
    else (with_file_taken taken line >>= λ found. with_area found.0 (file_at found.0 found.1) (found.1 + 1) line text)

-- with lines, each with its text, or the first that is not ours
abbrev pub with_lines : Taken → List RawLine → List MapsLine → Result Taken BadLine
with_lines taken (raw ∷ raws) (line ∷ lines) = at_line raw.number (with_line_taken taken line raw.text) (λ next. with_lines next raws lines)
with_lines taken _ _ = Ok taken

-- the trace of what was taken: the header, a line for each file, and a line for each area
unfoldable pub taken_text : Taken → List ℕ
taken_text taken = header ++ (file_texts FIRST_DESCRIPTOR taken.named ++ flat_map mapping_text taken.areas)

-- the trace of what was taken, where all lines are ours
abbrev pub text_taken : Result Taken BadLine → Result (List ℕ) BadLine
text_taken (Ok taken) = Ok (taken_text taken)
text_taken (Err first) = Err first

-- what is taken of the lines of a maps text, which the bytes are
unfoldable pub lines_taken : List ℕ → List MapsLine → Result Taken BadLine
lines_taken bytes lines = with_lines nothing_taken (raw_lines bytes) lines

-- the trace that makes the maps text of these lines, which the bytes are, or the first line that is not ours
abbrev pub retrace_of : List ℕ → List MapsLine → Result (List ℕ) BadLine
retrace_of bytes lines = text_taken (lines_taken bytes lines)

-- the same of the lines that were read, if they were
abbrev pub retrace_read : List ℕ → Result (List MapsLine) BadLine → Result (List ℕ) BadLine
retrace_read bytes (Ok lines) = retrace_of bytes lines
retrace_read bytes (Err first) = Err first

-- the trace that makes the maps text that the bytes are, or its first bad line and the cause
unfoldable pub retraced_of : List ℕ → Result (List ℕ) BadLine
retraced_of bytes = retrace_read bytes (maps_of bytes)
