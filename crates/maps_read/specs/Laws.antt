-- What the lines of a maps text, and its first bad line, are.
use Rattle.std.specs.Prelude.{ℕ, ◌≡◌, List, [], Ok}
use Rattle.std.specs.List.{AllZip}
use Rattle.text_lexer.specs.declared.error.BadLine.{BadLine}
use Rattle.text_lexer.specs.BadLines.{IsFirstBadBy}
use Rattle.text_lexer.specs.Lines.{RawLine}
use Rattle.maps_read.specs.declared.maps.MapsLine.{MapsLine}
use Rattle.maps_read.specs.Fields.{read_maps_line}
use Rattle.maps_read.specs.Maps.{after_maps_line}

-- a line of the bytes that is bad for this cause, after lines that are all good
abbrev pub IsFirstBadMapsLine : List ℕ → BadLine → Type 0
IsFirstBadMapsLine bytes first = IsFirstBadBy after_maps_line [] bytes first

-- the lines are those of these raw lines, one for each, in their order
abbrev pub AreRead : List RawLine → List MapsLine → Type 0
AreRead raws lines = AllZip (λ raw line. read_maps_line raw.text ≡ Ok line) raws lines
