-- For the laws: what it means that a line was read behind others, and that lines were.
use Rattle.std.proofs.Common.{◌≡◌, ℕ, Bool, true, false, List, [], ◌∷◌, ◌++◌, Option, Some, None, Result, Ok, Err, if◌then◌else◌, refl, ap, subst, ◌∙◌}
use Rattle.text_lexer.specs.declared.error.Cause.{Cause}
use Rattle.text_lexer.specs.declared.error.Cause.TheVariants.{MapsOrder}
use Rattle.text_lexer.specs.declared.error.BadLine.{BadLine}
use Rattle.text_lexer.specs.Causes.{◌>>=◌, unless}
use Rattle.text_lexer.specs.BadLines.{at_line}
use Rattle.text_lexer.specs.Lines.{input_limit, RawLine, text_within}
use Rattle.maps_read.specs.declared.maps.MapsLine.{MapsLine}
use Rattle.maps_read.specs.declared.reading.TheConstants.{MAPS_LINE_LIMIT}
use Rattle.maps_read.specs.Fields.{read_maps_line}
use Rattle.maps_read.specs.Maps.{lines_end, is_in_order, next_maps_line, after_maps_line}

-- a line was read behind others: its text says this line, which is in order, and stands behind them
pub record IsRead (before : List MapsLine) (raw : RawLine) (after : List MapsLine) : Type 0 where
  pub line : MapsLine
  pub says : read_maps_line raw.text ≡ Ok line
  pub order : is_in_order (lines_end before) line ≡ true
  pub behind : after ≡ before ++ line ∷ []

-- where one reading and then another gave something, each did
then_Ok : {A B : Type 0} (r : Result A Cause) (f : A → Result B Cause) (x : B) → (r >>= f) ≡ Ok x → (a : A) × (r ≡ Ok a) × (f a ≡ Ok x)
then_Ok (Ok a) f x e = (a, refl, e)
then_Ok (Err cause) f x e = absurd cc

unless_Ok : (o : Option Cause) (line text : List ℕ) → unless o (Ok line) ≡ Ok text → line ≡ text
unless_Ok None line text e = cc
unless_Ok (Some cause) line text e = absurd cc

text_within-Ok : (line_limit file_limit : ℕ) (raw : RawLine) (text : List ℕ) → text_within line_limit file_limit raw ≡ Ok text → raw.text ≡ text
unfolding text_within
text_within-Ok line_limit file_limit raw text e = unless_Ok _ raw.text text e

if_Ok : {A : Type 0} (b : Bool) (line found : A) → (if b then Ok line else Err MapsOrder) ≡ Ok found → (b ≡ true) × (line ≡ found)
if_Ok true line found e = (refl, cc)
if_Ok false line found e = absurd cc

next_line-Ok : (end : ℕ) (raw : RawLine) (line : MapsLine) → next_maps_line end raw ≡ Ok line → (read_maps_line raw.text ≡ Ok line) × (is_in_order end line ≡ true)
unfolding next_maps_line
next_line-Ok end raw line e =
    let text = then_Ok (text_within MAPS_LINE_LIMIT input_limit raw) _ line e in
    let said = then_Ok (read_maps_line text.0) _ line text.2 in
    let order = if_Ok (is_in_order end said.0) said.0 line said.2 in (
      ap read_maps_line (text_within-Ok MAPS_LINE_LIMIT input_limit raw text.0 text.1) ∙ said.1 ∙ ap Ok order.1,
      subst (λ (l : MapsLine). is_in_order end l ≡ true) order.1 order.0,
    )

pub after_line-Ok : (before after : List MapsLine) (raw : RawLine) → after_maps_line before raw ≡ Ok after → IsRead before raw after
unfolding after_maps_line
after_line-Ok before after raw e =
    let read = then_Ok (next_maps_line (lines_end before) raw) (λ line. Ok (before ++ line ∷ [])) after e in
    let line = next_line-Ok (lines_end before) raw read.0 read.1 in
    record { line = read.0; says = line.0; order = line.1; behind = cc }

-- where lines were all read, the first was
pub at_line-Ok : {S A : Type 0} (number : ℕ) (r : Result S Cause) (rest : S → Result A BadLine) (x : A) → at_line number r rest ≡ Ok x
    → (next : S) × (r ≡ Ok next) × (rest next ≡ Ok x)
at_line-Ok number (Ok next) rest x e = (next, refl, e)
at_line-Ok number (Err cause) rest x e = absurd cc
