-- Serves `replay`: the text that was given for the input, or a beginning of it.
use Rattle.std.proofs.Common.{ℕ, ◌≡◌, ◌∙◌, sym, subst, List, [], Option, Some, Result, Ok, inl, inr}
use Rattle.std.specs.Prelude.{◌⊎◌, IsOkAnd, IsSomeAnd}
use Rattle.std.specs.Io.KnownBytes.{Keeps}
use Rattle.io_edge.specs.Edge.{SourceView, SinkView}
use Rattle.mm_space.specs.Closing.{ClosedView}
use Rattle.text_lexer.specs.declared.error.BadLine.{BadLine}
use Rattle.trace_reader.specs.declared.trace.Trace.{Trace}
use Rattle.trace_reader.specs.Grammar.{trace_of}
use Rattle.vma_replay.specs.declared.status.Status.{Status}
use Rattle.vma_replay.specs.declared.status.Status.TheVariants as statuses
use Rattle.vma_replay.specs.declared.words.Job.{Job}
use Rattle.vma_replay.specs.declared.words.Job.TheVariants as jobs
use Rattle.vma_replay.specs.declared.words.Mode.{Mode}
use Rattle.text_lexer.specs.Lines.{input_limit}
use Rattle.vma_replay.specs.Internal.Giving.{GivesAnOutput, GivesASummary, GivesThis, IsRunPrinted}
use Rattle.vma_replay.specs.Internal.Reading.{IsChecking, IsReading}
use Rattle.output.specs.Checked.{IsCheckedAs}
use Rattle.output.specs.Input.{input_of}
use Rattle.vma_replay.specs.Replaying.{GivesBeginning, GivesProperBeginning, GivesRuns, work_of}

-- with these closed runs the mode gives this text for the input
given_for : (mode : Mode) (input : List ℕ) (trace : Trace) (runs : List ClosedView) (text : List ℕ) → trace_of input ≡ Ok trace
    → GivesRuns mode trace runs text → IsOkAnd (trace_of input) (λ trace. GivesRuns mode trace runs text)
given_for mode input trace runs text read given =
    subst (λ (r : Result Trace BadLine). IsOkAnd r (λ trace. GivesRuns mode trace runs text)) (sym read) given

-- the sink failed
fault_front : (mode : Mode) (words : Option Job) (from upto : SourceView) (old new : SinkView) (trace : Trace) (status : Status)
    (runs : List ClosedView) → words ≡ Some (jobs.Replay mode) → IsReading trace_of input_limit from upto (Ok trace)
    → IsRunPrinted (GivesAnOutput mode trace) old new status runs → status ≡ statuses.WriteFault
    → IsSomeAnd words (λ job. GivesProperBeginning (work_of job) from upto old new)
fault_front mode words from upto old new trace status runs is reading done failed =
    let cut : IsRunPrinted (GivesAnOutput mode trace) old new statuses.WriteFault runs =
    subst (λ (s : Status). IsRunPrinted (GivesAnOutput mode trace) old new s runs) failed done in
    let begun : GivesProperBeginning (work_of (jobs.Replay mode)) from upto old new = (
      reading.4.0,
      reading.4.1,
      reading.2,
      (cut.3, cut.4, given_for mode reading.4.0 trace cut.3 cut.4 reading.4.2 cut.5.0, cut.6, cut.7, cut.8),
    ) in
    subst (λ (w : Option Job). IsSomeAnd w (λ job. GivesProperBeginning (work_of job) from upto old new)) (sym is) begun

-- where source and sink stood before as they did at first
pub replay_fault : (mode : Mode) (words : Option Job) (start from upto : SourceView) (first old new : SinkView) (trace : Trace) (status : Status)
    (runs : List ClosedView) → from ≡ start → old ≡ first → words ≡ Some (jobs.Replay mode) → IsReading trace_of input_limit from upto (Ok trace)
    → IsRunPrinted (GivesAnOutput mode trace) old new status runs → status ≡ statuses.WriteFault
    → IsSomeAnd words (λ job. GivesProperBeginning (work_of job) start upto first new)
replay_fault mode words start from upto first old new trace status runs source sink is reading done =
    fault_front mode words start upto first new trace status runs is
    (subst (λ (s : SourceView). IsReading trace_of input_limit s upto (Ok trace)) source reading)
    (subst (λ (k : SinkView). IsRunPrinted (GivesAnOutput mode trace) k new status runs) sink done)

short_front : (mode : Mode) (from upto : SourceView) (old new : SinkView) (trace : Trace) (runs : List ClosedView)
    → IsReading trace_of input_limit from upto (Ok trace) → IsRunPrinted (GivesAnOutput mode trace) old new statuses.NoMemory runs
    → Keeps old.written new.written ⊎ GivesBeginning (work_of (jobs.Replay mode)) from upto old new
short_front mode from upto old new trace runs reading done = elim done.2 [
  | inl kept ↦ inl kept
  | inr begun ↦ inr (
    reading.4.0,
    reading.4.1,
    reading.2,
    (begun.0, begun.1, given_for mode reading.4.0 trace begun.0 begun.1 reading.4.2 begun.2.0, begun.3, begun.4),
  )
]

-- memory ran out
short_of : (mode : Mode) (words : Option Job) (from upto : SourceView) (old new : SinkView) (trace : Trace) (status : Status)
    (runs : List ClosedView) → words ≡ Some (jobs.Replay mode) → IsReading trace_of input_limit from upto (Ok trace)
    → IsRunPrinted (GivesAnOutput mode trace) old new status runs → status ≡ statuses.NoMemory
    → Keeps old.written new.written ⊎ IsSomeAnd words (λ job. GivesBeginning (work_of job) from upto old new)
short_of mode words from upto old new trace status runs is reading done failed =
    subst (λ (w : Option Job). Keeps old.written new.written ⊎ IsSomeAnd w (λ job. GivesBeginning (work_of job) from upto old new)) (sym is)
    (short_front mode from upto old new trace runs reading (subst (λ (s : Status). IsRunPrinted (GivesAnOutput mode trace) old new s runs) failed done))

pub replay_short : (mode : Mode) (words : Option Job) (start from upto : SourceView) (first old new : SinkView) (trace : Trace) (status : Status)
    (runs : List ClosedView) → from ≡ start → old ≡ first → words ≡ Some (jobs.Replay mode) → IsReading trace_of input_limit from upto (Ok trace)
    → IsRunPrinted (GivesAnOutput mode trace) old new status runs → status ≡ statuses.NoMemory
    → Keeps first.written new.written ⊎ IsSomeAnd words (λ job. GivesBeginning (work_of job) start upto first new)
replay_short mode words start from upto first old new trace status runs source sink is reading done =
    short_of mode words start upto first new trace status runs is
    (subst (λ (s : SourceView). IsReading trace_of input_limit s upto (Ok trace)) source reading)
    (subst (λ (k : SinkView). IsRunPrinted (GivesAnOutput mode trace) k new status runs) sink done)

summary_front : (count seed : ℕ) (from upto : SourceView) (old new : SinkView) (runs : List ClosedView)
    → IsRunPrinted (GivesASummary count seed) old new statuses.NoMemory runs
    → Keeps old.written new.written ⊎ GivesBeginning (work_of (jobs.Generate count seed)) from upto old new
summary_front count seed from upto old new runs done = elim done.2 [
  | inl kept ↦ inl kept
  | inr begun ↦ inr (begun.0, begun.1, begun.2, begun.3, begun.4)
]

pub generate_short : (count seed : ℕ) (words : Option Job) (from upto : SourceView) (first old new : SinkView) (status : Status) (runs : List ClosedView)
    → old ≡ first → words ≡ Some (jobs.Generate count seed) → IsRunPrinted (GivesASummary count seed) old new status runs → status ≡ statuses.NoMemory
    → Keeps first.written new.written ⊎ IsSomeAnd words (λ job. GivesBeginning (work_of job) from upto first new)
generate_short count seed words from upto first old new status runs sink is done failed =
    subst (λ (w : Option Job). Keeps first.written new.written ⊎ IsSomeAnd w (λ job. GivesBeginning (work_of job) from upto first new)) (sym is)
    (summary_front count seed from upto first new runs (subst (λ (k : SinkView). IsRunPrinted (GivesASummary count seed) k new statuses.NoMemory runs) sink
    (subst (λ (s : Status). IsRunPrinted (GivesASummary count seed) old new s runs) failed done)))

-- the sink failed while it was told what is judged
pub check_fault : (words : Option Job) (from upto : SourceView) (old new : SinkView) (whole shown : List ℕ) (status : Status)
    → words ≡ Some jobs.Check → IsChecking from upto (Ok whole) → shown ≡ whole → IsRunPrinted (GivesThis shown) old new status []
    → status ≡ statuses.WriteFault → IsSomeAnd words (λ job. GivesProperBeginning (work_of job) from upto old new)
check_fault words from upto old new whole shown status is checking same done failed =
    let cut : IsRunPrinted (GivesThis shown) old new statuses.WriteFault [] =
    subst (λ (s : Status). IsRunPrinted (GivesThis shown) old new s []) failed done in
    let begun : GivesProperBeginning (work_of jobs.Check) from upto old new = (
      checking.4.0,
      checking.4.1,
      checking.2,
      (
        cut.3,
        cut.4,
        (
          cut.5.0,
          subst (λ (t : List ℕ). IsOkAnd (input_of checking.4.0) (λ parts. IsCheckedAs parts t)) (sym (cut.5.1 ∙ same)) checking.4.2,
        ),
        cut.6,
        cut.7,
        cut.8,
      ),
    ) in
    subst (λ (w : Option Job). IsSomeAnd w (λ job. GivesProperBeginning (work_of job) from upto old new)) (sym is) begun
