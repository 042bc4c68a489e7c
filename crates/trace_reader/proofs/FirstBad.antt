-- For `first_bad_line`: the line that is named is the first bad one.
use Rattle.std.proofs.Common.{◌≡◌, ◌⊎◌, ℕ, nat_eq, List, [], ◌∷◌, ◌++◌, length, Result, Ok, Err, inl, inr, refl, ap, ◌∙◌}
use Rattle.std.proofs.lemmas.Bool.{cond_both, eqb-true}
use Rattle.std.proofs.lemmas.List.{nil_from_length}
use Rattle.text_lexer.specs.declared.error.Cause.TheVariants.{Header}
use Rattle.text_lexer.specs.declared.error.BadLine.{BadLine}
use Rattle.text_lexer.specs.BadLines.{bad_line, at_line, lines_leave, IsFirstBadBy}
use Rattle.trace_reader.specs.Grammar.{nothing, lines_read, whole_trace, trace_of}
use Rattle.trace_reader.specs.Laws.{IsFirstBadTraceLine}
use Rattle.trace_reader.specs.Lines.{SoFar, after_trace_line}
use Rattle.text_lexer.proofs.FirstBad.{lines_leave-Err}

whole-Err : (bytes : List ℕ) (r : Result SoFar BadLine) (first : BadLine) → lines_read bytes ≡ r
    → whole_trace r ≡ Err first → lines_read bytes ≡ Err first
whole-Err bytes (Ok s) first is e = absurd cc
whole-Err bytes (Err other) first is e = is ∙ cc

pub trace_of-Err : (bytes : List ℕ) (first : BadLine) → trace_of bytes ≡ Err first
    → ((bytes ≡ []) × (first ≡ bad_line 1 Header)) ⊎ IsFirstBadTraceLine bytes first
unfolding trace_of lines_read
trace_of-Err bytes first = cond_both (nat_eq (length bytes) 0) (Err (bad_line 1 Header)) (whole_trace (lines_read bytes))
    (λ r. r ≡ Err first → ((bytes ≡ []) × (first ≡ bad_line 1 Header)) ⊎ IsFirstBadTraceLine bytes first)
    (λ none e. inl (nil_from_length bytes (eqb-true (length bytes) 0 none), cc))
    (λ _ e. inr (lines_leave-Err after_trace_line nothing bytes first (whole-Err bytes (lines_read bytes) first refl e)))
