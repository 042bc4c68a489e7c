-- For `inputs_are_within` and `checked`: how long an input is, and what its trace is.
use Rattle.std.proofs.Common.{◌≡◌, ℕ, ◌+◌, ◌≤◌, true, nat_eq, nat_lt, if◌then◌else◌, List, [], ◌∷◌, length, take, drop, Option, Some, None, Result, Ok, Err, refl, sym, ap, subst, ◌∙◌, arith}
use Rattle.std.proofs.lemmas.Bool.{cond_both, eqb-true, ltb-false}
use Rattle.std.proofs.lemmas.List.{length-drop, length-take}
use Rattle.text_lexer.specs.declared.error.Cause.{Cause}
use Rattle.text_lexer.specs.declared.error.Cause.TheVariants.{Header, TooLong, NoEnd, Child}
use Rattle.text_lexer.specs.declared.error.BadLine.{BadLine}
use Rattle.text_lexer.specs.declared.limits.TheConstants.{LINE_LIMIT}
use Rattle.trace_reader.specs.declared.trace.Trace.{Trace}
use Rattle.trace_reader.specs.declared.trace.TraceLine.{TraceLine}
use Rattle.text_lexer.specs.Causes.{◌>>=◌}
use Rattle.text_lexer.specs.BadLines.{bad_line, lines_leave}
use Rattle.trace_reader.specs.Grammar.{nothing, trace_so_far, whole_trace}
use Rattle.trace_reader.specs.Lines.{SoFar, after_trace_line, after_words, with_header}
use Rattle.text_lexer.specs.Lines.{input_limit, raw_lines}
use Rattle.trace_reader.specs.Values.{IsTraceValue, children_of}
use Rattle.text_lexer.specs.Words.{words_of}
use Rattle.text_lexer.proofs.Beginnings.{IsLimited, lines_leave-within}
use Rattle.text_lexer.proofs.LineTests.{text_within-past}
use Rattle.trace_reader.proofs.TraceValues.{trace_of-value}
use Rattle.output.specs.declared.input.TheConstants.{TEXT_LIMIT}
use Rattle.output.specs.Input.{CheckInput, plain_line, plain_trace_of, line_at, after_trace, with_given, parted, input_of, check_limit}
use Rattle.history.specs.Parents.{parent_trace}
use Rattle.history.proofs.OneSpace.{none_forked}
use Rattle.output.proofs.Marks.{mark_from}
use Rattle.output.proofs.MarkLines.{input_parted}
use Rattle.output.proofs.Children.{none_read, plain_good}

-- the lines of a trace are limited
pub plain_line-limited : IsLimited input_limit plain_line
unfolding plain_line after_trace_line
plain_line-limited before line past =
    ap (λ (r : Result (List ℕ) Cause). (r >>= λ text. if nat_eq line.number 1 then with_header before (words_of text)
    else after_words before line.number text (words_of text)) >>= λ next. if nat_eq (length next.children) 0 then Ok next else Err Child)
    (text_within-past LINE_LIMIT input_limit line past)

whole_read : (r : Result SoFar BadLine) (trace : Trace) → whole_trace r ≡ Ok trace → (read : SoFar) × (r ≡ Ok read)
whole_read (Ok read) trace is = (read, refl)
whole_read (Err first) trace is = absurd cc

-- a trace that does not fork has no byte past the limit
pub plain_within : (bytes : List ℕ) (trace : Trace) → plain_trace_of bytes ≡ Ok trace → length bytes ≤ input_limit
unfolding plain_trace_of
plain_within bytes trace = cond_both (nat_eq (length bytes) 0) (Err (bad_line 1 Header)) (whole_trace (lines_leave plain_line nothing (raw_lines bytes)))
    (λ r. r ≡ Ok trace → length bytes ≤ input_limit)
    (λ none is. omega (arith, eqb-true (length bytes) 0 none))
    (λ _ is. let read = whole_read (lines_leave plain_line nothing (raw_lines bytes)) trace is in
    lines_leave-within input_limit plain_line plain_line-limited nothing read.0 bytes read.1)

-- and no line of it forks
pub plain_alone : (bytes : List ℕ) (trace : Trace) → plain_trace_of bytes ≡ Ok trace → children_of trace.lines ≡ []
unfolding plain_trace_of
plain_alone bytes trace = cond_both (nat_eq (length bytes) 0) (Err (bad_line 1 Header)) (whole_trace (lines_leave plain_line nothing (raw_lines bytes)))
    (λ r. r ≡ Ok trace → children_of trace.lines ≡ [])
    (λ none is. absurd cc)
    (λ _ is. of_lines (lines_leave plain_line nothing (raw_lines bytes)) (λ read good. none_read (raw_lines bytes) nothing read refl refl good) is)
  where
    of_lines : (r : Result SoFar BadLine) → ((read : SoFar) → r ≡ Ok read → children_of read.lines ≡ [])
        → whole_trace r ≡ Ok trace → children_of trace.lines ≡ []
    of_lines (Ok read) alone is =
        let same : trace_so_far read ≡ trace = cc in ap (λ (t : Trace). children_of t.lines) (sym same) ∙ alone read refl
    of_lines (Err first) alone is = absurd cc

good_trace : (read : Result Trace BadLine) (rest : Trace → Result CheckInput BadLine) (input : CheckInput) → after_trace read rest ≡ Ok input
    → (trace : Trace) × (read ≡ Ok trace) × (rest trace ≡ Ok input)
good_trace (Ok trace) rest input is = (trace, refl, is)
good_trace (Err first) rest input is = absurd cc

given_within : (place : ℕ) (bytes : List ℕ) (trace : Trace) (input : CheckInput) → with_given place bytes trace ≡ Ok input
    → length (drop (place + 3) bytes) ≤ TEXT_LIMIT
given_within place bytes trace input = cond_both (nat_lt TEXT_LIMIT (length (drop (place + 3) bytes)))
    (Err (bad_line (line_at (place + 3 + TEXT_LIMIT) bytes) TooLong)) (Ok (record { trace = trace; given = drop (place + 3) bytes }))
    (λ r. r ≡ Ok input → length (drop (place + 3) bytes) ≤ TEXT_LIMIT)
    (λ _ is. absurd cc)
    (λ few _. ltb-false TEXT_LIMIT (length (drop (place + 3) bytes)) few)

parted_within : (found : Option ℕ) (bytes : List ℕ) (input : CheckInput) → parted found bytes ≡ Ok input → length bytes ≤ check_limit
unfolding check_limit
parted_within (Some place) bytes input is =
    let good = good_trace (plain_trace_of (take place bytes)) (with_given place bytes) input is in
    let text = given_within place bytes good.0 input good.2 in
    omega (arith, plain_within (take place bytes) good.0 good.1, text, length-take place bytes, length-drop (place + 3) bytes)
parted_within None bytes input is =
    let good = good_trace (plain_trace_of bytes) (λ trace. Err (bad_line (line_at (length bytes) bytes) NoEnd)) input is in absurd (no_ok good.2)
  where
    no_ok : Err (bad_line (line_at (length bytes) bytes) NoEnd) ≡ Ok input → ⊥
    no_ok e = cc

-- an input has no byte past the limit
pub input_within : (bytes : List ℕ) (input : CheckInput) → input_of bytes ≡ Ok input → length bytes ≤ check_limit
input_within bytes input is = parted_within (mark_from true bytes) bytes input (sym (input_parted bytes) ∙ is)

given_trace : (place : ℕ) (bytes : List ℕ) (trace : Trace) (input : CheckInput) → with_given place bytes trace ≡ Ok input → trace ≡ input.trace
given_trace place bytes trace input = cond_both (nat_lt TEXT_LIMIT (length (drop (place + 3) bytes)))
    (Err (bad_line (line_at (place + 3 + TEXT_LIMIT) bytes) TooLong)) (Ok (record { trace = trace; given = drop (place + 3) bytes }))
    (λ r. r ≡ Ok input → trace ≡ input.trace)
    (λ _ is. absurd cc)
    (λ _ is.
    let inputs : ◌≡◌ {A = CheckInput} (record { trace = trace; given = drop (place + 3) bytes }) input = cc in
    ap (λ (i : CheckInput). i.trace) inputs)

parted_value : (found : Option ℕ) (bytes : List ℕ) (input : CheckInput) → parted found bytes ≡ Ok input → IsTraceValue input.trace
parted_value (Some place) bytes input is =
    let good = good_trace (plain_trace_of (take place bytes)) (with_given place bytes) input is in
    subst IsTraceValue (given_trace place bytes good.0 input good.2)
    (trace_of-value (take place bytes) good.0 (plain_good (take place bytes) good.0 good.1))
parted_value None bytes input is =
    let good = good_trace (plain_trace_of bytes) (λ trace. Err (bad_line (line_at (length bytes) bytes) NoEnd)) input is in absurd (no_ok good.2)
  where
    no_ok : Err (bad_line (line_at (length bytes) bytes) NoEnd) ≡ Ok input → ⊥
    no_ok e = cc

-- the trace of an input is one that can be read
pub input_value : (bytes : List ℕ) (input : CheckInput) → input_of bytes ≡ Ok input → IsTraceValue input.trace
input_value bytes input is = parted_value (mark_from true bytes) bytes input (sym (input_parted bytes) ∙ is)

parted_alone : (found : Option ℕ) (bytes : List ℕ) (input : CheckInput) → parted found bytes ≡ Ok input → children_of input.trace.lines ≡ []
parted_alone (Some place) bytes input is =
    let good = good_trace (plain_trace_of (take place bytes)) (with_given place bytes) input is in
    ap (λ (t : Trace). children_of t.lines) (sym (given_trace place bytes good.0 input good.2)) ∙ plain_alone (take place bytes) good.0 good.1
parted_alone None bytes input is =
    let good = good_trace (plain_trace_of bytes) (λ trace. Err (bad_line (line_at (length bytes) bytes) NoEnd)) input is in absurd (no_ok good.2)
  where
    no_ok : Err (bad_line (line_at (length bytes) bytes) NoEnd) ≡ Ok input → ⊥
    no_ok e = cc

-- no line of it forks, so that all lines are the parent's
pub input_parent : (bytes : List ℕ) (input : CheckInput) → input_of bytes ≡ Ok input → parent_trace input.trace ≡ input.trace
input_parent bytes input is =
    ap (λ (lines : List TraceLine). record input.trace { lines = lines })
    (none_forked input.trace.lines (parted_alone (mark_from true bytes) bytes input (sym (input_parted bytes) ∙ is)))

-- no bytes are no trace: line 1 is no header
pub empty_input : (bytes : List ℕ) → length bytes ≡ 0 → input_of bytes ≡ Err (bad_line 1 Header)
unfolding plain_trace_of
empty_input [] none = input_parted []
empty_input (first ∷ bytes) none = absurd (omega (arith, none))
