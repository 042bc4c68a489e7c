-- The lines of a text.
use Rattle.std.specs.Prelude.{ℕ, List, [], ◌∷◌, if◌then◌else◌}
use Rattle.text_lexer.specs.Lines.{is_newline}

-- a byte before the first of some lines
abbrev pub onto_first : ℕ → List (List ℕ) → List (List ℕ)
onto_first c [] = (c ∷ []) ∷ []
onto_first c (line ∷ lines) = (c ∷ line) ∷ lines

-- the lines of a text, each with the newline that ends it; only the last may have none
unfoldable pub text_lines : List ℕ → List (List ℕ)
text_lines [] = []
text_lines (c ∷ text) = if is_newline c then (c ∷ []) ∷ text_lines text else onto_first c (text_lines text)
