-- For `checked`: what was read as an input, and what is answered to it.
use Rattle.std.proofs.Common.{◌≡◌, ℕ, List, Result, Ok, Err, IfOk, sym, subst, rules}
use Rattle.std.specs.Prelude.{IfErr, IsErrOf, IsOk, IsOkAnd, Vec}
use Rattle.std.specs.declared.alloc.Global.{Global}
use Rattle.text_lexer.specs.declared.error.BadLine.{BadLine}
use Rattle.text_lexer.specs.declared.error.ReadError.{ReadError}
use Rattle.text_lexer.specs.declared.error.ReadError.TheVariants as reads
use Rattle.text_lexer.specs.Reading.{IsErrorOf}
use Rattle.trace_reader.specs.Values.{IsTraceValue}
use Rattle.output.specs.declared.input.Input.{Input}
use Rattle.output.specs.Checked.{IsCheckedAs}
use Rattle.output.specs.Input.{CheckInput, input_of}
use Rattle.output.specs.Reading.{GivesInput, input_view}
use Rattle.history.specs.Parents.{parent_trace}
use Rattle.output.proofs.Inputs.{input_parent, input_value}

pub value_read : (bytes : List ℕ) (read : Result Input ReadError) → GivesInput read (input_of bytes) → IfOk read (λ input. IsTraceValue input.trace)
value_read bytes (Ok input) gives = input_value bytes (input_view input) gives
value_read bytes (Err error) gives = tt

pub parent_read : (bytes : List ℕ) (read : Result Input ReadError) → GivesInput read (input_of bytes)
    → IfOk read (λ input. parent_trace input.trace ≡ input.trace)
parent_read bytes (Ok input) gives = input_parent bytes (input_view input) gives
parent_read bytes (Err error) gives = tt

pub text_read : (bytes : List ℕ) (read : Result Input ReadError) (result : Result (Vec ℕ Global) ReadError) → GivesInput read (input_of bytes)
    → IfOk result (λ text. IsOkAnd read (λ input. IsCheckedAs (input_view input) text.items))
    → IfOk result (λ text. IsOkAnd (input_of bytes) (λ input. IsCheckedAs input text.items))
text_read bytes (Ok input) (Ok text) gives is =
    subst (λ (r : Result CheckInput BadLine). IsOkAnd r (λ input. IsCheckedAs input text.items)) (sym gives) is
text_read bytes (Err error) (Ok text) gives is = absurd is
text_read bytes read (Err error) gives is = tt

pub error_read : (bytes : List ℕ) (read : Result Input ReadError) (result : Result (Vec ℕ Global) ReadError) → GivesInput read (input_of bytes)
    → IfErr read (IsErrOf result) → (IsOk read → IfErr result (λ error. error ≡ reads.NoMemory)) → IfErr result (λ error. IsErrorOf error (input_of bytes))
error_read bytes read (Ok text) gives unread judged = tt
error_read bytes (Ok input) (Err error) gives unread judged =
    subst (λ (e : ReadError). IsErrorOf e (input_of bytes)) (sym (judged (search rules))) tt
error_read bytes (Err first) (Err error) gives unread judged =
    subst (λ (r : Result (Vec ℕ Global) ReadError). IfErr r (λ (e : ReadError). IsErrorOf e (input_of bytes))) (sym unread) gives
