-- For readers that tell a bad line 1 whatever the memory: lines count on from the number of their first, and so does the one that is bad first.
use Rattle.std.proofs.Common.{◌≡◌, ℕ, ◌+◌, ◌<◌, ◌≤◌, Bool, true, false, nat_eq, List, [], ◌∷◌, length, IsOk, IfErr, Result, Ok, Err, if◌then◌else◌, refl, ap, ◌∙◌, subst, arith}
use Rattle.std.specs.List.{slice_split}
use Rattle.text_lexer.specs.declared.error.BadLine.{BadLine}
use Rattle.text_lexer.specs.declared.error.CallError.{CallError}
use Rattle.text_lexer.specs.declared.error.CallError.TheVariants as calls
use Rattle.text_lexer.specs.declared.error.Cause.{Cause}
use Rattle.text_lexer.specs.declared.error.ReadError.{ReadError}
use Rattle.text_lexer.specs.declared.error.ReadError.TheVariants as reads
use Rattle.text_lexer.specs.BadLines.{bad_line, at_line, lines_leave}
use Rattle.text_lexer.specs.Lines.{RawLine, raw_line, is_newline, lines_of_pieces, lines_from}
use Rattle.text_lexer.specs.Reading.{Fails, FailsLast, error_at}
use Rattle.text_lexer.proofs.RawReading.{first_bad, first_good}

-- the number of the line that is bad first: that of the line at hand, or one of those behind it
bad_from : {S A : Type 0} (number : ℕ) (r : Result S Cause) (rest : S → Result A BadLine) (first : BadLine) → at_line number r rest ≡ Err first
    → ((next : S) → rest next ≡ Err first → number ≤ first.line) → number ≤ first.line
bad_from number (Ok next) rest first e later = later next e
bad_from number (Err cause) rest first e later =
    let same : bad_line number cause ≡ first = cc in omega (arith, ap (λ (f : BadLine). f.line) same)

pieces_bad : {S : Type 0} (step : S → RawLine → Result S Cause) (before : S) (number start : ℕ) (pieces : List (List ℕ)) (first : BadLine)
    → lines_leave step before (lines_of_pieces number start pieces) ≡ Err first → number ≤ first.line
pieces_bad step before number start [] first e = absurd cc
pieces_bad step before number start (text ∷ []) first e = last (nat_eq (length text) 0) e
  where
    last : (b : Bool) → lines_leave step before (if b then [] else raw_line number start text false ∷ []) ≡ Err first → number ≤ first.line
    last true e = absurd cc
    last false e = bad_from number (step before (raw_line number start text false)) (λ after. lines_leave step after []) first e (λ after good. absurd (cc good))
pieces_bad step before number start (text ∷ next ∷ pieces) first e =
    bad_from number (step before (raw_line number start text true))
    (λ after. lines_leave step after (lines_of_pieces (number + 1) (start + length text + 1) (next ∷ pieces))) first e
    (λ after later. omega (arith, pieces_bad step after (number + 1) (start + length text + 1) (next ∷ pieces) first later))

pub lines_bad : {S : Type 0} (step : S → RawLine → Result S Cause) (before : S) (number start : ℕ) (bytes : List ℕ) (first : BadLine)
    → lines_leave step before (lines_from number start bytes) ≡ Err first → number ≤ first.line
unfolding lines_from
lines_bad step before number start bytes first e = pieces_bad step before number start (slice_split is_newline bytes) first e

good_ok : {S : Type 0} (r : Result S Cause) → IsOk r → (next : S) × (r ≡ Ok next)
good_ok (Ok next) good = (next, refl)
good_ok (Err cause) good = absurd (cc good)

-- a cause is that of the definition also where memory may run out before a test
pub tested_fails : {Y : Type 0} (error : CallError) (read : Result Y Cause) → FailsLast error read → Fails error read
tested_fails (calls.Bad cause) read fails = fails
tested_fails calls.NoMemory read good = tt

-- where the first bad line is line 1, an error at a line is that line's cause, if all tests of line 1 come before memory is taken
pub first_told : {S : Type 0} (step : S → RawLine → Result S Cause) (before : S) (line : RawLine) (number start from : ℕ) (bytes rest : List ℕ)
    (error : CallError) (all : Result S BadLine) (first : BadLine)
    → lines_leave step before (lines_from number start bytes) ≡ all → lines_from number start bytes ≡ line ∷ lines_from (number + 1) from rest
    → line.number ≡ number → Fails error (step before line) → (number ≡ 1 → FailsLast error (step before line)) → 0 < number
    → all ≡ Err first → first.line ≡ 1 → error_at number error ≡ reads.Bad first
first_told step before line number start from bytes rest (calls.Bad cause) all first so_far parts numbered fails tested begun is one =
    let told : all ≡ Err (bad_line number cause) =
    first_bad step before (lines_from number start bytes) (lines_from (number + 1) from rest) line cause all number so_far parts numbered fails in
    let same : bad_line number cause ≡ first = cc in
    ap reads.Bad same
first_told step before line number start from bytes rest calls.NoMemory all first so_far parts numbered fails tested begun is one =
    let low : number ≤ first.line = lines_bad step before number start bytes first (so_far ∙ is) in
    let next = good_ok (step before line) (tested (omega (arith, low, one))) in
    let later : lines_leave step next.0 (lines_from (number + 1) from rest) ≡ Err first =
    first_good step before next.0 (lines_from number start bytes) (lines_from (number + 1) from rest) line all so_far parts next.1 ∙ is in
    absurd (omega (arith, lines_bad step next.0 (number + 1) from rest first later, one))

-- an error of the reading is that of the answer
pub error_handed_on : {A B : Type 0} (read : Result A ReadError) (answer : Result B ReadError) (error : ReadError)
    → IfErr read (λ e. answer ≡ Err e) → read ≡ Err error → answer ≡ Err error
error_handed_on {A} {B} read answer error unread is = subst (λ (r : Result A ReadError). IfErr r (λ e. answer ≡ Err e)) is unread
