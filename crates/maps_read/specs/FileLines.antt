-- The lines of a trace that open files.
use Rattle.std.specs.Prelude.{ℕ, ◌+◌, Bool, false, ◌&&◌, List, [], ◌∷◌, ◌++◌, codes, decimal, nat_eq, bytes_eq, position, Option, Result, Ok, Err, pos}
use Rattle.std.specs.Ordering.{int_eq}
use Rattle.mm_types.specs.declared.files.FileRow.{FileRow}
use Rattle.mm_types.specs.MapsText.{hex}
use Rattle.text_lexer.specs.declared.error.BadLine.{BadLine}
use Rattle.trace_reader.specs.declared.trace.Trace.{Trace}
use Rattle.trace_reader.specs.Grammar.{trace_of}
use Rattle.trace_reader.specs.LineTexts.{header}
use Rattle.maps_read.specs.declared.maps.MapsLine.{MapsLine}

-- whether two lines show one file: the same numbers and name
abbrev pub same_file : MapsLine → MapsLine → Bool
same_file a b = nat_eq a.major b.major && (nat_eq a.minor b.minor && (nat_eq a.inode b.inode && bytes_eq a.name b.name))

-- the place among lines of the one that shows the file of this one
abbrev pub first_line_of_file : List MapsLine → MapsLine → Option ℕ
first_line_of_file named line = position (λ other. same_file other line) named

-- the line that opens the file of a line under this descriptor, to be read and written, as large as a file may be
unfoldable pub file_text : ℕ → MapsLine → List ℕ
file_text fd line = codes "file " ++ (decimal fd ++ (codes " rw 9223372036854775807 " ++ (hex 2 line.major ++ (codes ":" ++ (hex 2 line.minor
    ++ (codes " " ++ (decimal line.inode ++ (codes " " ++ (line.name ++ codes "\n")))))))))

-- the lines that open the files of some lines, under the descriptors from this one on
unfoldable pub file_texts : ℕ → List MapsLine → List ℕ
file_texts fd [] = []
file_texts fd (line ∷ lines) = file_text fd line ++ file_texts (fd + 1) lines

-- the files of what was read as a trace
abbrev pub files_of : Result Trace BadLine → List FileRow
files_of (Ok trace) = trace.config.files
files_of (Err first) = []

-- the files that a line opens: those of the trace that is its header and that line
unfoldable pub files_opened : List ℕ → List FileRow
files_opened text = files_of (trace_of (header ++ text))

-- whether these are one file, which has this descriptor and may be read and written
abbrev pub are_one_file : ℕ → List FileRow → Bool
are_one_file fd (file ∷ []) = int_eq file.fd (pos fd) && (file.read && file.write)
are_one_file fd _ = false
