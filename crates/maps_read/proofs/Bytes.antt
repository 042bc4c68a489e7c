-- For the laws: the lines of a maps text, from its bytes.
use Rattle.std.proofs.Common.{◌≡◌, ℕ, suc, ◌+◌, ◌<◌, ◌≤◌, ◌^◌, Bool, true, false, nat_eq, if◌then◌else◌, List, [], ◌∷◌, length, take, Ok, Err, refl, sym, ap, subst, arith, lit<}
use Rattle.std.specs.List.{slice_split}
use Rattle.std.proofs.lemmas.List.Splits.{length-slice_split}
use Rattle.std.proofs.lemmas.List.Sums.{count_by-le-length}
use Rattle.text_lexer.specs.declared.error.BadLine.{BadLine}
use Rattle.text_lexer.specs.Lines.{input_limit, RawLine, raw_line, is_newline, lines_of_pieces, lines_from, raw_lines}
use Rattle.text_lexer.proofs.Beginnings.{IsLimited, lines_leave-front, lines_leave-within}
use Rattle.text_lexer.proofs.FirstBad.{lines_leave-Err}
use Rattle.text_lexer.proofs.LineTests.{text_within-past}
use Rattle.maps_read.specs.declared.maps.MapsLine.{MapsLine}
use Rattle.maps_read.specs.declared.reading.TheConstants.{MAPS_LINE_LIMIT}
use Rattle.maps_read.specs.Laws.{AreRead, IsFirstBadMapsLine}
use Rattle.maps_read.specs.Maps.{IsMaps, next_maps_line, after_maps_line, maps_of}
use Rattle.maps_read.proofs.Ordered.{leaves, leaves_apart, no_lines}

-- a maps text's first bad line
pub maps_of-Err : (bytes : List ℕ) (first : BadLine) → maps_of bytes ≡ Err first → IsFirstBadMapsLine bytes first
unfolding maps_of
maps_of-Err bytes first e = lines_leave-Err after_maps_line [] bytes first e

-- the lines are limited
after_line-limited : IsLimited input_limit after_maps_line
unfolding after_maps_line next_maps_line
after_line-limited before line past = rw (text_within-past MAPS_LINE_LIMIT input_limit line past) refl

-- so one byte more than the limit settles them
pub maps_of-front : (bytes : List ℕ) → maps_of (take (input_limit + 1) bytes) ≡ maps_of bytes
unfolding maps_of
maps_of-front bytes = lines_leave-front input_limit after_maps_line after_line-limited [] bytes

-- and bytes with lines are within it
pub maps_within : (bytes : List ℕ) (lines : List MapsLine) → maps_of bytes ≡ Ok lines → length bytes ≤ input_limit
unfolding maps_of
maps_within bytes lines e = lines_leave-within input_limit after_maps_line after_line-limited [] lines bytes e

-- each line that was read is that of its raw line
pub maps_are_read : (bytes : List ℕ) (lines : List MapsLine) → maps_of bytes ≡ Ok lines → AreRead (raw_lines bytes) lines
unfolding maps_of
maps_are_read bytes lines e =
    let all = leaves [] lines (raw_lines bytes) e in
    subst (AreRead (raw_lines bytes)) (sym all.whole) all.read

same_count : (raws : List RawLine) (lines : List MapsLine) → AreRead raws lines → length raws ≡ length lines
same_count [] [] read = refl
same_count [] (line ∷ lines) read = absurd read
same_count (raw ∷ raws) [] read = absurd read
same_count (raw ∷ raws) (line ∷ lines) read = ap suc (same_count raws lines read.1)

-- as many
pub count_is : (bytes : List ℕ) (lines : List MapsLine) → maps_of bytes ≡ Ok lines → length (raw_lines bytes) ≡ length lines
count_is bytes lines e = same_count (raw_lines bytes) lines (maps_are_read bytes lines e)

pieces_bound : (number start : ℕ) (pieces : List (List ℕ)) → length (lines_of_pieces number start pieces) ≤ length pieces
pieces_bound number start [] = omega arith
pieces_bound number start (text ∷ []) = last (nat_eq (length text) 0)
  where
    last : (b : Bool) → length (if b then [] else raw_line number start text false ∷ []) ≤ 1
    last true = omega arith
    last false = omega arith
pieces_bound number start (text ∷ next ∷ pieces) = omega (arith, pieces_bound (number + 1) (start + length text + 1) (next ∷ pieces))

-- bytes have at most one line more than bytes
lines_bound : (number start : ℕ) (bytes : List ℕ) → length (lines_from number start bytes) ≤ 1 + length bytes
unfolding lines_from
lines_bound number start bytes = omega (arith, pieces_bound number start (slice_split is_newline bytes), length-slice_split is_newline bytes, count_by-le-length is_newline bytes)

limit_fits : input_limit + 1 < 2 ^ 32
unfolding input_limit
limit_fits = lit< tt

-- the lines are in order
pub maps_in_order : (bytes : List ℕ) (lines : List MapsLine) → maps_of bytes ≡ Ok lines → IsMaps lines
unfolding maps_of
maps_in_order bytes lines e =
    let apart = leaves_apart [] lines (raw_lines bytes) no_lines e in
    record {
      few = omega (arith, limit_fits, maps_within bytes lines e, count_is bytes lines e, lines_bound 1 0 bytes);
      spans = apart.spans;
      apart = apart.apart;
    }
