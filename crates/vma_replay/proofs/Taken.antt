-- Serves the functions that read a source: the bytes that were taken from a source, up to its end or past the limit, settle what it is read as.
use Rattle.std.proofs.Common.{◌≡◌, ◌≤◌, ◌<◌, ℕ, ◌+◌, List, ◌++◌, length, take, Option, Some, None, Result, Ok, Err, IfSome, sym, ap, subst, ◌∙◌, inl, inr, arith, append-nil}
use Rattle.std.proofs.lemmas.Bool.{cases_lt}
use Rattle.std.proofs.lemmas.List.{take-append-le}
use Rattle.std.specs.Io.KnownBytes.{Consumes, IsAtEnd}
use Rattle.io_edge.specs.Edge.{SourceView}
use Rattle.text_lexer.specs.declared.error.ReadError.{ReadError}
use Rattle.text_lexer.specs.declared.error.ReadError.TheVariants as reads
use Rattle.text_lexer.specs.declared.error.BadLine.{BadLine}
use Rattle.trace_reader.specs.declared.trace.Trace.{Trace}
use Rattle.text_lexer.specs.Lines.{input_limit}
use Rattle.trace_reader.specs.Reading.{GivesTrace}
use Rattle.text_lexer.specs.Reading.{IsErrorOf}
use Rattle.vma_replay.specs.declared.status.Status.{Status}
use Rattle.vma_replay.specs.declared.words.Conversion.{Conversion}
use Rattle.vma_replay.specs.declared.words.Conversion.TheVariants as conversions
use Rattle.vma_replay.specs.Replaying.{Takes, converted}
use Rattle.vma_replay.specs.Internal.Reading.{IsReading, IsTaking, refused_as}
use Rattle.trace_reader.specs.Grammar.{trace_of}
use Rattle.trace_reader.proofs.Beginnings.{trace_of-front, trace_within}
use Rattle.step_script.proofs.Scripts.{output-front, output-within}
use Rattle.maps_read.proofs.Answers.{query_answer-front, query_answer-within}
use Rattle.maps_read.proofs.Fronts.{retraced-front, retraced-within}

-- Of a function that the first `limit + 1` bytes settle: what follows more than `limit` bytes does not change it.
read-append : {A : Type 0} (read : List ℕ → A) (limit : ℕ)
    → ((bytes : List ℕ) → read (take (limit + 1) bytes) ≡ read bytes)
    → (front rest : List ℕ) → limit < length front → read (front ++ rest) ≡ read front
read-append read limit same front rest past =
    sym (same (front ++ rest)) ∙ ap read (take-append-le (limit + 1) front rest (omega arith)) ∙ same front

-- Of such a function: what was taken from a source, all of it or more than `limit` bytes, gives the answer of the whole.
taken_settles : {A : Type 0} (read : List ℕ → A) (limit : ℕ)
    → ((bytes : List ℕ) → read (take (limit + 1) bytes) ≡ read bytes)
    → (old new : Option (List ℕ)) (bytes : List ℕ) (answer : A) → Consumes old new bytes
    → (length bytes ≤ limit → IsAtEnd new) → read bytes ≡ answer → IfSome old (λ input. read input ≡ answer)
taken_settles read limit same None new bytes answer moved end e = tt
taken_settles read limit same (Some input) None bytes answer moved end e = absurd moved
taken_settles read limit same (Some input) (Some rest) bytes answer moved end e = elim (cases_lt limit (length bytes)) [
  | inl past ↦ ap read moved ∙ read-append read limit same bytes rest past ∙ e
  | inr within ↦ ap read (moved ∙ ap (λ later. bytes ++ later) (end within) ∙ append-nil bytes) ∙ e
]

-- One byte more than the limit settles what bytes are read as, and bytes that are read are within it.
pub record IsBounded {Y : Type 0} (read : List ℕ → Result Y BadLine) (limit : ℕ) : Type 0 where
  pub front : (bytes : List ℕ) → read (take (limit + 1) bytes) ≡ read bytes
  pub within : (bytes : List ℕ) (found : Y) → read bytes ≡ Ok found → length bytes ≤ limit

-- so what was taken gives the answer of the whole
settled : {Y : Type 0} (read : List ℕ → Result Y BadLine) (limit : ℕ) → IsBounded read limit → (old new : Option (List ℕ)) (bytes : List ℕ)
    (answer : Result Y BadLine) → Takes limit old new bytes → read bytes ≡ answer → IfSome old (λ input. read input ≡ answer)
settled read limit bounded old new bytes answer taken e = taken_settles read limit bounded.front old new bytes answer taken.moved taken.whole e

-- where what was taken is read, the source gave it whole
pub found_whole : {Y : Type 0} (read : List ℕ → Result Y BadLine) (limit : ℕ) → IsBounded read limit → (old new : SourceView) (bytes : List ℕ)
    (found : Y) → IsTaking limit old new (Ok bytes) → read bytes ≡ Ok found → IsReading read limit old new (Ok found)
found_whole read limit bounded old new bytes found taken is = (
  taken.0,
  (bytes, taken.1),
  taken.1.whole (bounded.within bytes found is),
  settled read limit bounded old.left new.left bytes (Ok found) taken.1 is,
  (bytes, taken.1.moved, is),
)

-- where it is not, it has the source's first bad line, or memory ran out
pub refused_first : {Y : Type 0} (read : List ℕ → Result Y BadLine) (limit : ℕ) → IsBounded read limit → (old new : SourceView) (bytes : List ℕ)
    (error : ReadError) (status : Status) → IsTaking limit old new (Ok bytes) → IsErrorOf error (read bytes)
    → status ≡ refused_as error → IsReading read limit old new (Err status)
refused_first {Y} read limit bounded old new bytes error status taken bad is =
    subst (λ (s : Status). IsReading read limit old new (Err s)) (sym is) (by_error error bad)
  where
    by_error : (error : ReadError) → IsErrorOf error (read bytes) → IsReading read limit old new (Err (refused_as error))
    by_error (reads.Bad first) bad = (taken.0, (bytes, taken.1), settled read limit bounded old.left new.left bytes (Err first) taken.1 bad)
    by_error reads.NoMemory bad = taken.0

bounded_trace : IsBounded trace_of input_limit
bounded_trace = record { front = trace_of-front; within = trace_within }

bounded : (conversion : Conversion) → IsBounded (converted conversion) input_limit
bounded conversions.Steps = record { front = output-front; within = output-within }
bounded (conversions.Query address) = record { front = query_answer-front address; within = query_answer-within address }
bounded conversions.Retrace = record { front = retraced-front; within = retraced-within }

-- of traces
pub reads_trace : (old new : SourceView) (bytes : List ℕ) (trace : Trace)
    → IsTaking input_limit old new (Ok bytes) → trace_of bytes ≡ Ok trace → IsReading trace_of input_limit old new (Ok trace)
reads_trace = found_whole trace_of input_limit bounded_trace

pub reads_no_trace : (old new : SourceView) (bytes : List ℕ) (error : ReadError) (status : Status)
    → IsTaking input_limit old new (Ok bytes) → GivesTrace (Err error) (trace_of bytes) → status ≡ refused_as error
    → IsReading trace_of input_limit old new (Err status)
reads_no_trace = refused_first trace_of input_limit bounded_trace

-- of what is turned into a text
pub converts : (conversion : Conversion) (old new : SourceView) (bytes text : List ℕ)
    → IsTaking input_limit old new (Ok bytes) → converted conversion bytes ≡ Ok text
    → IsReading (converted conversion) input_limit old new (Ok text)
converts conversion = found_whole (converted conversion) input_limit (bounded conversion)

pub converts_nothing : (conversion : Conversion) (old new : SourceView) (bytes : List ℕ) (error : ReadError) (status : Status)
    → IsTaking input_limit old new (Ok bytes) → IsErrorOf error (converted conversion bytes) → status ≡ refused_as error
    → IsReading (converted conversion) input_limit old new (Err status)
converts_nothing conversion = refused_first (converted conversion) input_limit (bounded conversion)
