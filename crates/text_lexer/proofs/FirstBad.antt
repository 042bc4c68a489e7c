-- For `first_bad_line`: the line that is named is the first bad one.
use Rattle.std.proofs.Common.{◌≡◌, ◌⊎◌, ℕ, nat_eq, List, [], ◌∷◌, ◌++◌, length, Result, Ok, Err, inl, inr, refl, ap, ◌∙◌}
use Rattle.std.proofs.lemmas.Bool.{cond_both, eqb-true}
use Rattle.std.proofs.lemmas.List.{nil_from_length}
use Rattle.text_lexer.specs.declared.error.Cause.{Cause}
use Rattle.text_lexer.specs.declared.error.Cause.TheVariants.{Header}
use Rattle.text_lexer.specs.declared.error.BadLine.{BadLine}
use Rattle.text_lexer.specs.BadLines.{bad_line, at_line, lines_leave, IsFirstBadBy}
use Rattle.text_lexer.specs.Lines.{RawLine, raw_lines}

-- `IsFirstBadBy` of lines that follow others
record IsFirstAmong {S : Type 0} (step : S → RawLine → Result S Cause) (before : S) (lines : List RawLine) (first : BadLine) : Type 0 where
  above : List RawLine
  line : RawLine
  below : List RawLine
  read : S
  parts : lines ≡ above ++ line ∷ below
  good : lines_leave step before above ≡ Ok read
  bad : step read line ≡ Err first.cause
  number : line.number ≡ first.line

first_among : {S : Type 0} (step : S → RawLine → Result S Cause) (before : S) (line : RawLine) (lines : List RawLine) (first : BadLine) (r : Result S Cause)
    → step before line ≡ r
    → at_line line.number r (λ next. lines_leave step next lines) ≡ Err first
    → ((next : S) → lines_leave step next lines ≡ Err first → IsFirstAmong step next lines first)
    → IsFirstAmong step before (line ∷ lines) first
first_among {S} step before line lines first (Ok next) is e later =
    let rest = later next e in
    record {
      above = line ∷ rest.above;
      line = rest.line;
      below = rest.below;
      read = rest.read;
      parts = ap (λ (ls : List RawLine). line ∷ ls) rest.parts;
      good = ap (λ (r : Result S Cause). at_line line.number r (λ next. lines_leave step next rest.above)) is
          ∙ rest.good;
      bad = rest.bad;
      number = rest.number;
    }
first_among {S} step before line lines first (Err cause) is e later =
    let same : bad_line line.number cause ≡ first = cc in
    record {
      above = [];
      line = line;
      below = lines;
      read = before;
      parts = refl;
      good = refl;
      bad = is ∙ ap (λ (f : BadLine). Err f.cause) same;
      number = ap (λ (f : BadLine). f.line) same;
    }

lines_leave-among : {S : Type 0} (step : S → RawLine → Result S Cause) (before : S) (lines : List RawLine) (first : BadLine)
    → lines_leave step before lines ≡ Err first → IsFirstAmong step before lines first
lines_leave-among step before [] first e = absurd cc
lines_leave-among step before (line ∷ lines) first e =
    first_among step before line lines first (step before line) refl e
    (λ next bad. lines_leave-among step next lines first bad)

-- the error of lines is that of the first bad one
pub lines_leave-Err : {S : Type 0} (step : S → RawLine → Result S Cause) (start : S) (bytes : List ℕ) (first : BadLine)
    → lines_leave step start (raw_lines bytes) ≡ Err first → IsFirstBadBy step start bytes first
lines_leave-Err step start bytes first e =
    let h = lines_leave-among step start (raw_lines bytes) first e in
    record {
      above = h.above;
      line = h.line;
      below = h.below;
      read = h.read;
      parts = h.parts;
      good = h.good;
      bad = h.bad;
      number = h.number;
    }
