-- Which list of lines a maps text is, or else which line is bad first and for which cause.
use Rattle.std.specs.Prelude.{ℕ, ◌-◌, ◌^◌, ◌<◌, ◌≤◌, Bool, ◌&&◌, List, [], ◌∷◌, ◌++◌, length, nat_lt, nat_le, slice_get, Option, Some, None, Result, Ok, Err, All, AllPairs, if◌then◌else◌}
use Rattle.text_lexer.specs.declared.error.Cause.{Cause}
use Rattle.text_lexer.specs.declared.error.Cause.TheVariants.{MapsOrder}
use Rattle.text_lexer.specs.declared.error.BadLine.{BadLine}
use Rattle.text_lexer.specs.Causes.{◌>>=◌}
use Rattle.text_lexer.specs.BadLines.{lines_leave}
use Rattle.text_lexer.specs.Lines.{input_limit, RawLine, raw_lines, text_within}
use Rattle.maps_read.specs.declared.maps.MapsLine.{MapsLine}
use Rattle.maps_read.specs.declared.reading.TheConstants.{MAPS_LINE_LIMIT}
use Rattle.maps_read.specs.Fields.{read_maps_line}

-- fewer than 2^32 lines; each begins below its end, and not below the end of a line before it
pub record IsMaps (lines : List MapsLine) : Type 0 where
  pub few : length lines < 2 ^ 32
  pub spans : All (λ line. line.lo < line.hi) lines
  pub apart : AllPairs (λ earlier later. earlier.hi ≤ later.lo) lines

-- where a line ends, and 0 where there is none
abbrev pub hi_or_zero : Option MapsLine → ℕ
hi_or_zero None = 0
hi_or_zero (Some line) = line.hi

-- where the last of these lines ends, and 0 where there is none
abbrev pub lines_end : List MapsLine → ℕ
lines_end lines = hi_or_zero (slice_get lines (length lines - 1))

-- whether a line begins below its end, and not below the end of the lines before it
abbrev pub is_in_order : ℕ → MapsLine → Bool
is_in_order end line = nat_lt line.lo line.hi && nat_le end line.lo

-- the line that a raw line is, behind lines that end here
unfoldable pub next_maps_line : ℕ → RawLine → Result MapsLine Cause
next_maps_line end raw = do
  text ← text_within MAPS_LINE_LIMIT input_limit raw
  line ← read_maps_line text
  if is_in_order end line then Ok line else Err MapsOrder

-- the lines so far, and a raw line behind them
unfoldable pub after_maps_line : List MapsLine → RawLine → Result (List MapsLine) Cause
after_maps_line before raw = do
  line ← next_maps_line (lines_end before) raw
  Ok (before ++ line ∷ [])

-- the lines of a maps text, or its first bad line and the cause
unfoldable pub maps_of : List ℕ → Result (List MapsLine) BadLine
maps_of bytes = lines_leave after_maps_line [] (raw_lines bytes)
