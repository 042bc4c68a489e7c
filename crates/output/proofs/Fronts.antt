-- For `front_is_enough`: one byte more than the limit is enough to read an input.
use Rattle.std.proofs.Common.{◌≡◌, ℕ, ◌+◌, ◌<◌, ◌≤◌, Bool, true, nat_eq, if◌then◌else◌, List, length, take, drop, Option, Some, None, IfSome, Result, Ok, Err, refl, sym, ap, ◌∙◌, inl, inr, arith}
use Rattle.std.specs.Prelude.{count_by}
use Rattle.std.proofs.lemmas.Bool.{cases_lt, le-leb, lt-leb, lt-ltb}
use Rattle.std.proofs.lemmas.Bool.Decides.{nat_tests}
use Rattle.std.proofs.lemmas.List.{length-take, length-drop, take-take, take_all}
use Rattle.text_lexer.specs.declared.error.Cause.TheVariants.{Header, TooLong, NoEnd}
use Rattle.text_lexer.specs.declared.error.BadLine.{BadLine}
use Rattle.trace_reader.specs.declared.trace.Trace.{Trace}
use Rattle.text_lexer.specs.BadLines.{bad_line, lines_leave}
use Rattle.trace_reader.specs.Grammar.{nothing, whole_trace}
use Rattle.trace_reader.specs.Lines.{SoFar}
use Rattle.text_lexer.specs.Lines.{input_limit, is_newline, raw_lines}
use Rattle.text_lexer.proofs.Beginnings.{lines_leave-front}
use Rattle.output.specs.declared.input.TheConstants.{TEXT_LIMIT}
use Rattle.output.specs.Input.{CheckInput, plain_line, plain_trace_of, line_at, after_trace, with_given, parted, input_of, check_limit}
use Rattle.output.proofs.Inputs.{plain_line-limited, plain_within}
use Rattle.output.proofs.MarkLines.{input_parted}
use Rattle.output.proofs.Marks.{mark_from, seen_in, mark_front, mark_within}

-- one byte more than the limit of a trace settles what is read where no line may fork
plain_front : (bytes : List ℕ) → plain_trace_of (take (input_limit + 1) bytes) ≡ plain_trace_of bytes
unfolding plain_trace_of
plain_front bytes =
    let front = take (input_limit + 1) bytes in
    let none : nat_eq (length front) 0 ≡ nat_eq (length bytes) 0 = grind (arith, nat_tests, length-take (input_limit + 1) bytes) in
    ap (λ (b : Bool). if b then Err (bad_line 1 Header) else whole_trace (lines_leave plain_line nothing (raw_lines front))) none
    ∙ ap (λ (read : Result SoFar BadLine). if nat_eq (length bytes) 0 then Err (bad_line 1 Header) else whole_trace read)
    (lines_leave-front input_limit plain_line plain_line-limited nothing bytes)

-- so do more bytes
plain_beginning : (count : ℕ) (bytes : List ℕ) → input_limit + 1 ≤ count → plain_trace_of (take count bytes) ≡ plain_trace_of bytes
plain_beginning count bytes enough =
    sym (plain_front (take count bytes)) ∙ ap plain_trace_of (take-take (input_limit + 1) count bytes enough) ∙ plain_front bytes

-- a trace that is bad decides, whatever follows
bad_decides : (read other : Result Trace BadLine) (f g : Trace → Result CheckInput BadLine) → read ≡ other
    → ((trace : Trace) → read ≡ Ok trace → f trace ≡ g trace) → after_trace read f ≡ after_trace other g
bad_decides (Ok trace) other f g same next = next trace refl ∙ ap (λ (r : Result Trace BadLine). after_trace r g) same
bad_decides (Err first) other f g same next = ap (λ (r : Result Trace BadLine). after_trace r g) same

-- the line that holds a byte of a front
line_at-front : (offset count : ℕ) (bytes : List ℕ) → offset ≤ count → line_at offset (take count bytes) ≡ line_at offset bytes
unfolding line_at
line_at-front offset count bytes within = ap (λ (front : List ℕ). count_by is_newline front + 1) (take-take offset count bytes within)

-- a text of too many bytes
too_long : (place : ℕ) (bytes : List ℕ) (trace : Trace) → place + 3 + TEXT_LIMIT < length bytes
    → with_given place bytes trace ≡ Err (bad_line (line_at (place + 3 + TEXT_LIMIT) bytes) TooLong)
too_long place bytes trace long =
    rw (lt-ltb TEXT_LIMIT (length (drop (place + 3) bytes)) (omega (arith, length-drop (place + 3) bytes))) refl

-- a front that holds one byte more than a text may have settles the text behind the mark
given_front : (place count : ℕ) (bytes : List ℕ) (trace : Trace) → place + 3 + TEXT_LIMIT < count
    → with_given place (take count bytes) trace ≡ with_given place bytes trace
given_front place count bytes trace enough = elim (cases_lt (place + 3 + TEXT_LIMIT) (length bytes)) [
  | inl long ↦ too_long place (take count bytes) trace (omega (arith, length-take count bytes))
      ∙ ap (λ (line : ℕ). Err (bad_line line TooLong)) (line_at-front (place + 3 + TEXT_LIMIT) count bytes (omega arith))
      ∙ sym (too_long place bytes trace long)
  | inr short ↦ ap (λ (bs : List ℕ). with_given place bs trace) (take_all count bytes (omega arith))
]

-- a mark within the front
here : (place : ℕ) (bytes : List ℕ) → place + 3 ≤ check_limit + 1 → place + 3 ≤ length bytes
    → parted (Some place) (take (check_limit + 1) bytes) ≡ parted (Some place) bytes
unfolding check_limit
here place bytes near within =
    let front = take (check_limit + 1) bytes in
    bad_decides (plain_trace_of (take place front)) (plain_trace_of (take place bytes)) (with_given place front) (with_given place bytes)
    (ap plain_trace_of (take-take place (check_limit + 1) bytes (omega arith)))
    (λ trace good. given_front place (check_limit + 1) bytes trace (omega (
      arith,
      plain_within (take place front) trace good,
      length-take place front,
      length-take (check_limit + 1) bytes,
    )))

-- a front of more bytes than a trace may have is no trace
long_front : (bytes : List ℕ) (trace : Trace) → check_limit < length bytes → plain_trace_of (take (check_limit + 1) bytes) ≡ Ok trace → ⊥
unfolding check_limit
long_front bytes trace long good = omega (arith, plain_within (take (check_limit + 1) bytes) trace good, length-take (check_limit + 1) bytes)

-- a mark that does not end within the front
past : (place : ℕ) (bytes : List ℕ) → check_limit + 1 < place + 3 → place + 3 ≤ length bytes
    → parted None (take (check_limit + 1) bytes) ≡ parted (Some place) bytes
unfolding check_limit
past place bytes far within =
    let front = take (check_limit + 1) bytes in
    bad_decides (plain_trace_of front) (plain_trace_of (take place bytes)) (λ trace. Err (bad_line (line_at (length front) front) NoEnd)) (with_given place bytes)
    (plain_beginning (check_limit + 1) bytes (omega arith) ∙ sym (plain_beginning place bytes (omega arith)))
    (λ trace good. absurd (long_front bytes trace (omega arith) good))

-- no mark
missing : (bytes : List ℕ) → parted None (take (check_limit + 1) bytes) ≡ parted None bytes
unfolding check_limit
missing bytes =
    let front = take (check_limit + 1) bytes in
    elim (cases_lt check_limit (length bytes)) [
      | inl long ↦ bad_decides (plain_trace_of front) (plain_trace_of bytes) (λ trace. Err (bad_line (line_at (length front) front) NoEnd))
          (λ trace. Err (bad_line (line_at (length bytes) bytes) NoEnd))
          (plain_beginning (check_limit + 1) bytes (omega arith))
          (λ trace good. absurd (long_front bytes trace long good))
      | inr short ↦ ap (parted None) (take_all (check_limit + 1) bytes (omega arith))
    ]

-- one byte more than the limit settles what an input is, or which line is bad first
pub input_of-front : (bytes : List ℕ) → input_of (take (check_limit + 1) bytes) ≡ input_of bytes
input_of-front bytes =
    input_parted (take (check_limit + 1) bytes)
    ∙ ap (λ (place : Option ℕ). parted place (take (check_limit + 1) bytes)) (mark_front (check_limit + 1) true bytes)
    ∙ by_place (mark_from true bytes) (mark_within true bytes) ∙ sym (input_parted bytes)
  where
    by_place : (place : Option ℕ) → IfSome place (λ n. n + 3 ≤ length bytes)
        → parted (seen_in (check_limit + 1) place) (take (check_limit + 1) bytes) ≡ parted place bytes
    by_place None within = missing bytes
    by_place (Some n) within = elim (cases_lt (check_limit + 1) (n + 3)) [
      | inl far ↦ ap (λ (b : Bool). parted (if b then Some n else None) (take (check_limit + 1) bytes)) (lt-leb (n + 3) (check_limit + 1) far)
          ∙ past n bytes far within
      | inr near ↦ ap (λ (b : Bool). parted (if b then Some n else None) (take (check_limit + 1) bytes)) (le-leb (n + 3) (check_limit + 1) near)
          ∙ here n bytes near within
    ]
