-- What the functions result in that run a trace and give a text to a sink.
use Rattle.std.specs.Prelude.{ℕ, ◌≡◌, ◌<◌, ◌+◌, ◌⊎◌, List, [], length, take, Result, Ok, Err}
use Rattle.std.specs.Io.KnownBytes.{Appends, Keeps}
use Rattle.io_edge.specs.Edge.{SinkView, FailedLast}
use Rattle.mm_space.specs.Closing.{ClosedView}
use Rattle.trace_reader.specs.declared.trace.Trace.{Trace}
use Rattle.history.specs.Parents.{parent_trace}
use Rattle.output.specs.declared.error.PrintError.{PrintError}
use Rattle.output.specs.Giving.{Gave, IsCutOff}
use Rattle.vma_replay.specs.declared.status.Status.{Status}
use Rattle.vma_replay.specs.declared.status.Status.TheVariants as statuses
use Rattle.vma_replay.specs.declared.words.Mode.{Mode}
use Rattle.vma_replay.specs.declared.words.Mode.TheVariants as modes
use Rattle.output.specs.Output.{serial_output}
use Rattle.vma_replay.specs.Statuses.{status_of_print}
use Rattle.vma_replay.specs.Replaying.{BeginsWith, GivesRuns, RunsGenerated}
use Rattle.vma_replay.specs.Summaries.{summary_text}

-- Doing a piece of work ended early with this status: nothing was given, since memory ran out before, or of a text that it gives with some
-- closed runs a beginning.
abbrev pub IsCutShort : (List ClosedView → List ℕ → Type 0) → SinkView → SinkView → Status → Type 0
IsCutShort gives old new status = ((status ≡ statuses.NoMemory) × (new ≡ old))
    ⊎ ((runs : List ClosedView) × (text : List ℕ) × gives runs text
    × (error : PrintError) × (status ≡ status_of_print error) × IsCutOff old new [] text error)

-- What doing a piece of work results in: it is done, with these closed runs, and a text was given; or it ended early.
abbrev pub IsDoing : (List ClosedView → List ℕ → Type 0) → SinkView → SinkView → Result (List ClosedView) Status → Type 0
IsDoing gives old new (Ok runs) = (text : List ℕ) × gives runs text × Gave old new text
IsDoing gives old new (Err status) = IsCutShort gives old new status

-- The same by the answer and by the closed runs that are kept.
abbrev pub IsRunPrinted : (List ClosedView → List ℕ → Type 0) → SinkView → SinkView → Status → List ClosedView → Type 0
IsRunPrinted gives old new statuses.Done runs = (new.faults ≡ old.faults) × (text : List ℕ) × gives runs text
    × Appends old.written new.written text
IsRunPrinted gives old new statuses.WriteFault runs = (new.faults ≡ old.faults + 1) × FailedLast new.just_failed × (runs ≡ [])
    × (made : List ClosedView) × (text : List ℕ) × gives made text × (count : ℕ) × (count < length text)
    × Appends old.written new.written (take count text)
IsRunPrinted gives old new statuses.NoMemory runs = (new.faults ≡ old.faults) × (runs ≡ [])
    × (Keeps old.written new.written ⊎ ((made : List ClosedView) × (text : List ℕ) × gives made text
    × (count : ℕ) × Appends old.written new.written (take count text)))
IsRunPrinted gives old new statuses.Words runs = ⊥
IsRunPrinted gives old new (statuses.Trace line cause) runs = ⊥
IsRunPrinted gives old new statuses.ReadFault runs = ⊥

-- in `serial` a text begins with the output of the parent's lines in their order
abbrev pub BeginsAsSerial : Mode → Trace → List ℕ → Type 0
BeginsAsSerial modes.Threads trace text = Unit {0}
BeginsAsSerial modes.Serial trace text = BeginsWith text (serial_output (parent_trace trace))

-- with these closed runs a mode gives this text for a trace
abbrev pub GivesAnOutput : Mode → Trace → List ClosedView → List ℕ → Type 0
GivesAnOutput mode trace runs text = GivesRuns mode trace runs text × BeginsAsSerial mode trace text

-- with these closed runs of the generated trace this text is its summary
abbrev pub GivesASummary : ℕ → ℕ → List ClosedView → List ℕ → Type 0
GivesASummary count seed runs text = RunsGenerated count seed runs × (text ≡ summary_text count seed)

-- with no closed run one text is given
abbrev pub GivesThis : List ℕ → List ClosedView → List ℕ → Type 0
GivesThis whole runs text = (runs ≡ []) × (text ≡ whole)
