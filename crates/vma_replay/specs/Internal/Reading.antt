-- What the functions result in that take bytes and read them.
use Rattle.std.specs.Prelude.{ℕ, ◌≡◌, ◌+◌, List, Vec, Result, Ok, Err, IfSome, IsOk, IsOkAnd}
use Rattle.std.specs.declared.alloc.Global.{Global}
use Rattle.std.specs.Io.KnownBytes.{Consumes, IsAtEnd}
use Rattle.io_edge.specs.Edge.{SourceView, FailedLast}
use Rattle.text_lexer.specs.declared.error.ReadError.{ReadError}
use Rattle.text_lexer.specs.declared.error.ReadError.TheVariants as reads
use Rattle.text_lexer.specs.declared.error.BadLine.{BadLine}
use Rattle.output.specs.Input.{check_limit, input_of}
use Rattle.output.specs.Checked.{IsCheckedAs}
use Rattle.vma_replay.specs.declared.status.Status.{Status}
use Rattle.vma_replay.specs.declared.status.Status.TheVariants as statuses
use Rattle.vma_replay.specs.Replaying.{Takes, ReadsEnough}

-- the bytes that were taken, as a list
abbrev pub taken_bytes : Result (Vec ℕ Global) Status → Result (List ℕ) Status
taken_bytes (Ok bytes) = Ok bytes.items
taken_bytes (Err status) = Err status

-- what taking bytes results in, of which so many may come: by what the source tells, before and after
abbrev pub IsTaking : ℕ → SourceView → SourceView → Result (List ℕ) Status → Type 0
IsTaking most old new (Ok bytes) = (new.faults ≡ old.faults) × Takes most old.left new.left bytes
IsTaking most old new (Err statuses.ReadFault) = (new.faults ≡ old.faults + 1) × FailedLast new.just_failed
IsTaking most old new (Err statuses.NoMemory) = new.faults ≡ old.faults
IsTaking most old new (Err statuses.Done) = ⊥
IsTaking most old new (Err statuses.Words) = ⊥
IsTaking most old new (Err (statuses.Trace line cause)) = ⊥
IsTaking most old new (Err statuses.WriteFault) = ⊥

-- the answer to bytes that were not read: the first bad line, or out of memory
abbrev pub refused_as : ReadError → Status
refused_as (reads.Bad first) = statuses.Trace first.line first.cause
refused_as reads.NoMemory = statuses.NoMemory

-- what taking bytes and reading them results in, of which so many may come: by what these bytes are read as, and by the same
abbrev pub IsReading : {Y : Type 0} → (List ℕ → Result Y BadLine) → ℕ → SourceView → SourceView → Result Y Status → Type 0
IsReading read most old new (Ok found) = (new.faults ≡ old.faults) × ReadsEnough most old.left new.left × IsAtEnd new.left
    × IfSome old.left (λ input. read input ≡ Ok found)
    × ((input : List ℕ) × Consumes old.left new.left input × (read input ≡ Ok found))
IsReading read most old new (Err (statuses.Trace line cause)) = (new.faults ≡ old.faults) × ReadsEnough most old.left new.left
    × IfSome old.left (λ input. read input ≡ Err (record { line = line; cause = cause }))
IsReading read most old new (Err statuses.ReadFault) = (new.faults ≡ old.faults + 1) × FailedLast new.just_failed
IsReading read most old new (Err statuses.NoMemory) = new.faults ≡ old.faults
IsReading read most old new (Err statuses.Done) = ⊥
IsReading read most old new (Err statuses.Words) = ⊥
IsReading read most old new (Err statuses.WriteFault) = ⊥

-- what taking the bytes of a check and judging their text results in
abbrev pub IsChecking : SourceView → SourceView → Result (List ℕ) Status → Type 0
IsChecking old new (Ok text) = (new.faults ≡ old.faults) × ReadsEnough check_limit old.left new.left × IsAtEnd new.left
    × IfSome old.left (λ input. IsOk (input_of input))
    × ((input : List ℕ) × Consumes old.left new.left input × IsOkAnd (input_of input) (λ parts. IsCheckedAs parts text))
IsChecking old new (Err status) = IsReading input_of check_limit old new (Err status)
