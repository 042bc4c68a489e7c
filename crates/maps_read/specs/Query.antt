-- Which line an address asks for, and what is printed for it.
use Rattle.std.specs.Prelude.{ℕ, ◌++◌, List, codes, nat_lt, position, slice_get, Option, Some, None, Result, Ok, Err}
use Rattle.text_lexer.specs.declared.error.BadLine.{BadLine}
use Rattle.text_lexer.specs.Lines.{RawLine, raw_lines}
use Rattle.maps_print.specs.Trimmed.{without_spaces_after}
use Rattle.maps_read.specs.declared.maps.MapsLine.{MapsLine}
use Rattle.maps_read.specs.Maps.{maps_of}

-- the place, counted from 0, of the first line that ends above an address: the line covers the address, or is the next one
abbrev pub first_above : ℕ → List MapsLine → Option ℕ
first_above address lines = position (λ line. nat_lt address line.hi) lines

-- a line as it stands in the bytes, without the spaces at its end, or `none`
abbrev pub shown_line : Option RawLine → List ℕ
shown_line None = codes "none"
shown_line (Some line) = without_spaces_after line.text

-- the raw line at a place
abbrev pub raw_line_at : List ℕ → Option ℕ → Option RawLine
raw_line_at bytes None = None
raw_line_at bytes (Some place) = slice_get (raw_lines bytes) place

-- what is printed for a line that was found or not: one line
unfoldable pub query_text : List ℕ → Option ℕ → List ℕ
query_text bytes place = shown_line (raw_line_at bytes place) ++ codes "\n"

-- what is printed for an address and the lines of these bytes
abbrev pub printed_for : ℕ → List ℕ → Result (List MapsLine) BadLine → Result (List ℕ) BadLine
printed_for address bytes (Ok lines) = Ok (query_text bytes (first_above address lines))
printed_for address bytes (Err first) = Err first

-- what is printed for an address and the maps text that the bytes are, or its first bad line and the cause
unfoldable pub query_answer : ℕ → List ℕ → Result (List ℕ) BadLine
query_answer address bytes = printed_for address bytes (maps_of bytes)
