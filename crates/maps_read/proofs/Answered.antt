-- For `retrace`: what was taken of the lines of a maps text, and what is answered to it.
use Rattle.std.proofs.Common.{◌≡◌, ℕ, List, Result, Ok, Err, IfOk, sym, ap, ◌∙◌, subst, rules}
use Rattle.std.specs.Prelude.{IfErr, IsOk, IsOkAnd, Vec}
use Rattle.std.specs.declared.alloc.Global.{Global}
use Rattle.text_lexer.specs.declared.error.ReadError.{ReadError}
use Rattle.text_lexer.specs.declared.error.ReadError.TheVariants as reads
use Rattle.text_lexer.specs.Reading.{IsErrorOf}
use Rattle.maps_read.specs.declared.maps.MapsLine.{MapsLine}
use Rattle.maps_read.specs.Maps.{maps_of}
use Rattle.maps_read.specs.declared.taking.Taken.{Taken}
use Rattle.maps_read.specs.Retracing.{taken_text, text_taken, lines_taken, retrace_read, retraced_of}
use Rattle.maps_read.specs.Internal.Taking.{what_taken}

pub text_made : (bytes : List ℕ) (lines : List MapsLine) (taken : Result Taken ReadError) (answer : Result (Vec ℕ Global) ReadError)
    → maps_of bytes ≡ Ok lines → IfOk taken (λ t. lines_taken bytes lines ≡ Ok (what_taken t))
    → IfOk answer (λ text. IsOkAnd taken (λ t. text.items ≡ taken_text (what_taken t))) → IfOk answer (λ text. retraced_of bytes ≡ Ok text.items)
unfolding retraced_of
text_made bytes lines (Ok taken) (Ok text) read took is = ap (retrace_read bytes) read ∙ ap text_taken took ∙ ap Ok (sym is)
text_made bytes lines (Err error) (Ok text) read took is = absurd is
text_made bytes lines taken (Err error) read took is = tt

error_kept : (bytes : List ℕ) (lines : List MapsLine) (error : ReadError) → maps_of bytes ≡ Ok lines → IsErrorOf error (lines_taken bytes lines)
    → IsErrorOf error (retraced_of bytes)
unfolding retraced_of
error_kept bytes lines (reads.Bad first) read bad = ap (retrace_read bytes) read ∙ ap text_taken bad
error_kept bytes lines reads.NoMemory read bad = tt

pub error_made : (bytes : List ℕ) (lines : List MapsLine) (taken : Result Taken ReadError) (answer : Result (Vec ℕ Global) ReadError)
    → maps_of bytes ≡ Ok lines → IfErr taken (λ error. IsErrorOf error (lines_taken bytes lines)) → IfErr taken (λ error. answer ≡ Err error)
    → (IsOk taken → IfErr answer (λ error. error ≡ reads.NoMemory)) → IfErr answer (λ error. IsErrorOf error (retraced_of bytes))
error_made bytes lines taken (Ok text) read bad untaken memory = tt
error_made bytes lines (Ok taken) (Err error) read bad untaken memory =
    subst (λ (e : ReadError). IsErrorOf e (retraced_of bytes)) (sym (memory (search rules))) tt
error_made bytes lines (Err first) (Err error) read bad untaken memory =
    subst (λ (r : Result (Vec ℕ Global) ReadError). IfErr r (λ (e : ReadError). IsErrorOf e (retraced_of bytes))) (sym untaken)
    (error_kept bytes lines first read bad)
