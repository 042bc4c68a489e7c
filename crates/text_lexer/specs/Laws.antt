-- What the lines of bytes are.
use Rattle.std.specs.Prelude.{ℕ, ◌≡◌, ◌≢◌, ◌+◌, ◌<◌, true, false, List, [], ◌∷◌, ◌++◌, length, flat_map, codes, All, if◌then◌else◌}
use Rattle.std.specs.Str.{byte}
use Rattle.text_lexer.specs.Lines.{RawLine}

-- the bytes of a line: its text, and a newline where it ends
abbrev pub line_bytes : RawLine → List ℕ
line_bytes line = line.text ++ (if line.ended then codes "\n" else [])

-- each line has the next number, and starts where the bytes of the one before it end
abbrev pub Follow : ℕ → ℕ → List RawLine → Type 0
Follow number start [] = Unit {0}
Follow number start (line ∷ lines) = (line.number ≡ number) × (line.start ≡ start)
    × Follow (number + 1) (start + length (line_bytes line)) lines

-- each line but the last ends; where the last does not, it has bytes
abbrev pub End : List RawLine → Type 0
End [] = Unit {0}
End (line ∷ []) = line.ended ≡ false → 0 < length line.text
End (line ∷ next ∷ lines) = (line.ended ≡ true) × End (next ∷ lines)

-- lines that are these bytes, one after another, numbered from 1 and with no newline in their texts
pub record AreLinesOf (bytes : List ℕ) (lines : List RawLine) : Type 0 where
  pub whole : flat_map line_bytes lines ≡ bytes
  pub follow : Follow 1 0 lines
  pub end : End lines
  pub single : All (λ line. All (λ c. c ≢ byte "\n") line.text) lines
