-- For `text_within`: the tests of a line's bytes.
use Rattle.std.proofs.Common.{◌≡◌, ℕ, ◌+◌, ◌<◌, true, false, nat_lt, length, Ok, Err, refl}
use Rattle.std.specs.Str.{is_utf8}
use Rattle.std.proofs.lemmas.Bool.{lt-ltb, or_right}
use Rattle.text_lexer.specs.declared.error.Cause.TheVariants.{TooLong, Utf8}
use Rattle.text_lexer.specs.Lines.{RawLine, is_longer_than, text_within}

pub text_within-good : (line_limit file_limit : ℕ) (line : RawLine) → is_longer_than line_limit file_limit line ≡ false
    → line.ended ≡ true → is_utf8 line.text ≡ true → text_within line_limit file_limit line ≡ Ok line.text
unfolding text_within
text_within-good line_limit file_limit line short ends utf8 = rw (short, ends, utf8) refl

pub text_within-utf8 : (line_limit file_limit : ℕ) (line : RawLine) → is_longer_than line_limit file_limit line ≡ false
    → line.ended ≡ true → is_utf8 line.text ≡ false → text_within line_limit file_limit line ≡ Err Utf8
unfolding text_within
text_within-utf8 line_limit file_limit line short ends other = rw (short, ends, other) refl

text_within-long : (line_limit file_limit : ℕ) (line : RawLine) → is_longer_than line_limit file_limit line ≡ true
    → text_within line_limit file_limit line ≡ Err TooLong
unfolding text_within
text_within-long line_limit file_limit line long = rw long refl

-- a line whose newline would be past the limit of the file is too long
pub text_within-past : (line_limit file_limit : ℕ) (line : RawLine) → file_limit < line.start + length line.text + 1
    → text_within line_limit file_limit line ≡ Err TooLong
unfolding is_longer_than
text_within-past line_limit file_limit line past = text_within-long line_limit file_limit line
    (or_right (nat_lt line_limit (length line.text)) (nat_lt file_limit (line.start + length line.text + 1))
    (lt-ltb file_limit (line.start + length line.text + 1) past))
