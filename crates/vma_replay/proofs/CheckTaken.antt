-- Serves `check_source`: the bytes that were taken from a source settle which trace and which text it gives, and so what is judged.
use Rattle.std.proofs.Common.{ℕ, ◌≡◌, refl, sym, subst, List, Option, Some, None, Result, Ok, Err, IfSome}
use Rattle.std.specs.Prelude.{IsOk, IsOkAnd}
use Rattle.io_edge.specs.Edge.{SourceView}
use Rattle.text_lexer.specs.declared.error.ReadError.{ReadError}
use Rattle.text_lexer.specs.declared.error.BadLine.{BadLine}
use Rattle.text_lexer.specs.Reading.{IsErrorOf}
use Rattle.output.specs.Input.{CheckInput, check_limit, input_of}
use Rattle.output.specs.Checked.{IsCheckedAs}
use Rattle.output.proofs.Fronts.{input_of-front}
use Rattle.output.proofs.Inputs.{input_within}
use Rattle.vma_replay.specs.declared.status.Status.{Status}
use Rattle.vma_replay.specs.Internal.Reading.{IsChecking, IsReading, IsTaking, refused_as}
use Rattle.vma_replay.proofs.Taken.{IsBounded, found_whole, refused_first}

bounded_input : IsBounded input_of check_limit
bounded_input = record { front = input_of-front; within = input_within }

-- a text that tells what is judged is that of some parts
judged_parts : (read : Result CheckInput BadLine) (text : List ℕ) → IsOkAnd read (λ parts. IsCheckedAs parts text)
    → (parts : CheckInput) × (read ≡ Ok parts) × IsCheckedAs parts text
judged_parts (Ok parts) text judged = (parts, refl, judged)
judged_parts (Err first) text judged = absurd judged

-- a source that has these parts has some
parts_read : (left : Option (List ℕ)) (parts : CheckInput) → IfSome left (λ input. input_of input ≡ Ok parts)
    → IfSome left (λ input. IsOk (input_of input))
parts_read None parts read = tt
parts_read (Some input) parts read = subst (λ (r : Result CheckInput BadLine). IsOk r) (sym read) refl

-- where what was taken is judged, the source gave it whole
pub checks : (old new : SourceView) (bytes text : List ℕ) → IsTaking check_limit old new (Ok bytes)
    → IsOkAnd (input_of bytes) (λ parts. IsCheckedAs parts text) → IsChecking old new (Ok text)
checks old new bytes text taken judged =
    let found = judged_parts (input_of bytes) text judged in
    let whole = found_whole input_of check_limit bounded_input old new bytes found.0 taken found.1 in
    (whole.0, whole.1, whole.2, parts_read old.left found.0 whole.3, (bytes, taken.1.moved, judged))

-- where it is not, it has the source's first bad line, or memory ran out
pub checks_nothing : (old new : SourceView) (bytes : List ℕ) (error : ReadError) (status : Status) → IsTaking check_limit old new (Ok bytes)
    → IsErrorOf error (input_of bytes) → status ≡ refused_as error → IsReading input_of check_limit old new (Err status)
checks_nothing = refused_first input_of check_limit bounded_input
