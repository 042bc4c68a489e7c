-- For `front_is_enough` and `traces_fit`: one byte more than the limit of a file is enough to read it.
use Rattle.std.proofs.Common.{◌≡◌, ℕ, zero, suc, ◌+◌, ◌-◌, ◌<◌, ◌≤◌, Bool, true, false, nat_eq, nat_lt, List, [], ◌∷◌, length, take, drop, Result, Ok, Err, if◌then◌else◌, refl, sym, ap, ◌∙◌, inl, inr, arith}
use Rattle.std.specs.List.{position_or_len, before_first, after_first}
use Rattle.std.proofs.lemmas.Bool.{cases_lt, lt-ltb, or_right}
use Rattle.std.proofs.lemmas.Bool.Decides.{nat_tests}
use Rattle.std.proofs.lemmas.List.{take_all, take-take, drop-take, length-take, length-drop, get_or-take, length-take-le}
use Rattle.std.proofs.lemmas.List.Sums.{position_or_len_is, fails_before_first, passes_at_first}
use Rattle.text_lexer.specs.declared.error.Cause.{Cause}
use Rattle.text_lexer.specs.declared.error.Cause.TheVariants.{Header, TooLong}
use Rattle.text_lexer.specs.declared.error.BadLine.{BadLine}
use Rattle.text_lexer.specs.declared.limits.TheConstants.{LINE_LIMIT}
use Rattle.trace_reader.specs.declared.trace.Trace.{Trace}
use Rattle.text_lexer.specs.Causes.{◌>>=◌}
use Rattle.text_lexer.specs.BadLines.{bad_line, at_line, lines_leave}
use Rattle.trace_reader.specs.Grammar.{nothing, lines_read, whole_trace, trace_of}
use Rattle.trace_reader.specs.Lines.{SoFar, with_header, after_words, after_trace_line}
use Rattle.text_lexer.specs.Lines.{input_limit, RawLine, raw_line, raw_lines, is_newline, lines_from}
use Rattle.text_lexer.specs.Words.{words_of}
use Rattle.text_lexer.proofs.Beginnings.{IsLimited, lines_leave-front, lines_leave-within}
use Rattle.text_lexer.proofs.LineTests.{text_within-past}
use Rattle.text_lexer.proofs.RawPieces.{lines_from-newline, lines_from-none}
use Rattle.text_lexer.proofs.WordParts.{position_or_len-le}

-- the lines of a trace are limited
after_line-limited : IsLimited input_limit after_trace_line
unfolding after_trace_line
after_line-limited before line past =
    ap (λ (r : Result (List ℕ) Cause). r >>= λ text. if nat_eq line.number 1 then with_header before (words_of text)
    else after_words before line.number text (words_of text)) (text_within-past LINE_LIMIT input_limit line past)

lines_read-front : (bytes : List ℕ) → lines_read (take (input_limit + 1) bytes) ≡ lines_read bytes
unfolding lines_read
lines_read-front bytes = lines_leave-front input_limit after_trace_line after_line-limited nothing bytes

none_in_front : (limit : ℕ) (bytes : List ℕ) → nat_eq (length (take (limit + 1) bytes)) 0 ≡ nat_eq (length bytes) 0
none_in_front limit bytes = grind (arith, nat_tests, length-take (limit + 1) bytes)

pub trace_of-front : (bytes : List ℕ) → trace_of (take (input_limit + 1) bytes) ≡ trace_of bytes
unfolding trace_of
trace_of-front bytes =
    ap (λ (none : Bool). if none then Err (bad_line 1 Header) else whole_trace (lines_read (take (input_limit + 1) bytes)))
    (none_in_front input_limit bytes)
    ∙ ap (λ (read : Result SoFar BadLine). if nat_eq (length bytes) 0 then Err (bad_line 1 Header) else whole_trace read)
    (lines_read-front bytes)

whole_read : (r : Result SoFar BadLine) (trace : Trace) → whole_trace r ≡ Ok trace → (read : SoFar) × (r ≡ Ok read)
whole_read (Ok read) trace is = (read, refl)
whole_read (Err first) trace is = absurd cc

-- a trace has no byte past the limit
pub trace_within : (bytes : List ℕ) (trace : Trace) → trace_of bytes ≡ Ok trace → length bytes ≤ input_limit
unfolding trace_of lines_read
trace_within bytes trace is = elim (cases_lt 0 (length bytes)) [
  | inl some ↦
      let read = whole_read (lines_read bytes) trace (sym (ap (λ (t : Bool). if t then Err (bad_line 1 Header) else whole_trace (lines_read bytes)) (is_some_length (length bytes) some)) ∙ is) in
      lines_leave-within input_limit after_trace_line after_line-limited nothing read.0 bytes read.1
  | inr none ↦ omega arith
]
  where
    is_some_length : (n : ℕ) → 0 < n → nat_eq n 0 ≡ false
    is_some_length n some = grind (arith, nat_tests)
