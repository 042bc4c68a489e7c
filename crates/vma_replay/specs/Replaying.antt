-- What the promises of `replay` say of what it takes, runs, gives and answers.
use Rattle.std.specs.Prelude.{ℕ, ◌≡◌, ◌<◌, ◌≤◌, ◌+◌, ◌⊎◌, Bool, true, false, List, [], ◌∷◌, ◌++◌, length, take, zip, flat_map, Option, Some, None, is_some, option_and_then, unwrap_or, slice_get, String, Result, Ok, IsOkAnd}
use Rattle.std.specs.List.{AllZip}
use Rattle.std.specs.Option.{option_map_or}
use Rattle.std.specs.Result.{result_err}
use Rattle.std.specs.declared.alloc.Global.{Global}
use Rattle.io_edge.specs.Edge.{SourceView, SinkView}
use Rattle.std.specs.Io.KnownBytes.{Appends, Consumes, IsAtEnd}
use Rattle.mm_types.specs.declared.call.Entry.{Entry}
use Rattle.mm_types.specs.declared.call.Seen.{Seen}
use Rattle.lock_core.specs.Facts.{list_after}
use Rattle.mm_space.specs.Closing.{ClosedView}
use Rattle.history.specs.declared.items.Item.{Item}
use Rattle.history.specs.Histories.{journal_of, IsLegalHistory}
use Rattle.history.specs.Runs.{history_of, IsRun}
use Rattle.history.specs.Labels.{label_of, IsSerialRun}
use Rattle.history.specs.Parents.{parent_lines, parent_trace}
use Rattle.mm_fork.specs.Children.{inherited, child_history_of, IsChildRun}
use Rattle.history.specs.SpaceLines.{child_lines}
use Rattle.text_lexer.specs.declared.error.Cause.{Cause}
use Rattle.text_lexer.specs.declared.error.BadLine.{BadLine}
use Rattle.trace_reader.specs.declared.trace.Trace.{Trace}
use Rattle.trace_reader.specs.Grammar.{trace_of}
use Rattle.text_lexer.specs.Lines.{input_limit}
use Rattle.gen_load.specs.Loads.{load_trace}
use Rattle.vma_replay.specs.declared.forks.Fork.{Fork}
use Rattle.vma_replay.specs.declared.words.Conversion.{Conversion}
use Rattle.vma_replay.specs.declared.words.Conversion.TheVariants as conversions
use Rattle.vma_replay.specs.declared.words.Job.{Job}
use Rattle.vma_replay.specs.declared.words.Job.TheVariants as jobs
use Rattle.vma_replay.specs.declared.words.Mode.{Mode}
use Rattle.vma_replay.specs.declared.words.Mode.TheVariants as modes
use Rattle.vma_replay.specs.declared.status.Status.{Status}
use Rattle.vma_replay.specs.declared.status.Status.TheVariants as statuses
use Rattle.vma_replay.specs.Forks.{forks_of}
use Rattle.output.specs.Output.{output_text, serial_output}
use Rattle.vma_replay.specs.ChildTexts.{child_text}
use Rattle.history.specs.CallerPlaces.{callers_of}
use Rattle.step_script.specs.Output.{script_output}
use Rattle.maps_read.specs.Query.{query_answer}
use Rattle.maps_read.specs.Retracing.{retraced_of}
use Rattle.output.specs.Input.{check_limit, input_of}
use Rattle.output.specs.Checked.{IsCheckedAs}
use Rattle.vma_replay.specs.Jobs.{job_of_words}
use Rattle.vma_replay.specs.Summaries.{summary_text}

-- A closed run of the lines of a trace: in `threads` by the trace's callers, each its own lines; in `serial` by one caller all lines,
-- one after the other.
abbrev pub IsRunOf : Mode → Trace → ClosedView → Type 0
IsRunOf modes.Threads trace run = IsRun trace.config [] trace.lines (callers_of trace.lines) run.journal run.logs
IsRunOf modes.Serial trace run = (log : List Seen) × (run.logs ≡ log ∷ []) × IsSerialRun trace.config trace.lines run.journal log

-- the history that a closed run stands for: in `threads` its journal and its logs, gathered; in `serial` its journal and its one log,
-- where each item has the caller of its line
abbrev pub history_of_run : Mode → Trace → ClosedView → List Item
history_of_run modes.Threads trace run = history_of run.journal run.logs
history_of_run modes.Serial trace run = label_of trace.lines run.journal (unwrap_or (slice_get run.logs 0) [])

-- a closed run of a trace whose history is legal, and which left the list after that history's calls
pub record IsLegalRun (mode : Mode) (trace : Trace) (run : ClosedView) : Type 0 where
  pub run_is : IsRunOf mode trace run
  pub legal : IsLegalHistory trace.config [] trace.lines (history_of_run mode trace run)
  pub list : run.list ≡ list_after trace.config (journal_of (history_of_run mode trace run))

-- A closed run of a child of a trace, by the journal of its parent and its fork: behind what it inherited it is of the child's lines, and its
-- history, with versions from the fork on, is legal.
pub record IsRunOfChild (trace : Trace) (parent : List Entry) (fork : Fork) (run : ClosedView) : Type 0 where
  pub within : fork.version ≤ length parent
  pub own : List Entry
  pub journal : run.journal ≡ inherited parent fork.version ++ own
  pub run_is : IsChildRun trace.config (inherited parent fork.version) (child_lines trace.lines fork.child) 1 own run.logs
  pub legal : IsLegalHistory trace.config (inherited parent fork.version) (child_lines trace.lines fork.child)
      (child_history_of fork.version run.journal run.logs)
  pub list : run.list ≡ list_after trace.config run.journal

-- the text of a child, by its fork and its closed run: that of its history
abbrev pub text_of_run : Trace → List Entry → Fork × ClosedView → List ℕ
text_of_run trace parent child = child_text trace.config (child_lines trace.lines child.0.child) child.0 (inherited parent child.0.version)
    (child_history_of child.0.version child.1.journal child.1.logs)

-- the forks of a closed run of the parent of a trace, by ascending child
abbrev pub forks_of_run : Mode → Trace → ClosedView → List Fork
forks_of_run mode trace parent = forks_of (parent_lines trace.lines) (history_of_run mode (parent_trace trace) parent)

-- With these closed runs a mode gives this text for a trace. The first is of the parent, whose lines are those of threads that no line forks,
-- and for each of its forks there is one of the child. The text is that of the parent's history, and then that of each child's.
pub record GivesRuns (mode : Mode) (trace : Trace) (runs : List ClosedView) (text : List ℕ) : Type 0 where
  pub parent : ClosedView
  pub children : List ClosedView
  pub runs_are : runs ≡ parent ∷ children
  pub parent_is : IsLegalRun mode (parent_trace trace) parent
  pub children_are : AllZip (IsRunOfChild trace parent.journal) (forks_of_run mode trace parent) children
  pub text_is : text ≡ output_text trace.config (parent_lines trace.lines) (history_of_run mode (parent_trace trace) parent)
      ++ flat_map (text_of_run trace parent.journal) (zip (forks_of_run mode trace parent) children)

-- with these closed runs the generated trace of so many operations and a seed was run: once, in the order of its lines, with the list of the
-- run after it
abbrev pub RunsGenerated : ℕ → ℕ → List ClosedView → Type 0
RunsGenerated count seed runs = (run : ClosedView) × (runs ≡ run ∷ []) × IsRunOf modes.Serial (load_trace count seed) run
    × (run.list ≡ list_after (load_trace count seed).config run.journal)

-- a text begins with another
abbrev pub BeginsWith : List ℕ → List ℕ → Type 0
BeginsWith text front = (rest : List ℕ) × (text ≡ front ++ rest)

-- the input is a trace, and what was given is the text of these closed runs of it in the order of its lines, which begins with the output of
-- the parent's lines in their order
abbrev pub GivesSerialOutput : List ℕ → List ClosedView → SinkView → SinkView → Type 0
GivesSerialOutput input runs old new = IsOkAnd (trace_of input) (λ trace. (text : List ℕ) × GivesRuns modes.Serial trace runs text × BeginsWith text (serial_output (parent_trace trace)) × Appends old.written new.written text)

-- A kind of work, as one row of a table: the mode in which it runs a trace, if it reads one; the most bytes that what it reads may have, if
-- it reads anything; whether it opens a space; the first bad line of an input; and with which closed runs it gives which text for an input.
pub record Work : Type 1 where
  pub mode : Option Mode
  pub reads : Option ℕ
  pub opens : Bool
  pub fault : List ℕ → Option BadLine
  pub gives : List ℕ → List ClosedView → List ℕ → Type 0

-- The text that an input is turned into, or its first bad line: of a script its output, of a maps text the line that answers a question, or
-- the trace that makes it.
abbrev pub converted : Conversion → List ℕ → Result (List ℕ) BadLine
converted conversions.Steps = script_output
converted (conversions.Query address) = query_answer address
converted conversions.Retrace = retraced_of

-- the table
abbrev pub work_of : Job → Work
work_of (jobs.Replay mode) = record {
  mode = Some mode;
  reads = Some input_limit;
  opens = true;
  fault = λ input. result_err (trace_of input);
  gives = λ input runs text. IsOkAnd (trace_of input) (λ trace. GivesRuns mode trace runs text);
}
work_of (jobs.Convert conversion) = record {
  mode = None;
  reads = Some input_limit;
  opens = false;
  fault = λ input. result_err (converted conversion input);
  gives = λ input runs text. (runs ≡ []) × (converted conversion input ≡ Ok text);
}
work_of jobs.Check = record {
  mode = None;
  reads = Some check_limit;
  opens = false;
  fault = λ input. result_err (input_of input);
  gives = λ input runs text. (runs ≡ []) × IsOkAnd (input_of input) (λ parts. IsCheckedAs parts text);
}
work_of (jobs.Generate count seed) = record {
  mode = None;
  reads = None;
  opens = true;
  fault = λ input. None;
  gives = λ input runs text. RunsGenerated count seed runs × (text ≡ summary_text count seed);
}

-- the mode that words name, in which a trace is read and its lines are run
abbrev pub mode_of_words : List (String Global) → Option Mode
mode_of_words words = option_and_then (λ job. (work_of job).mode) (job_of_words words)

-- the most bytes that what the job reads may have that words name, if it reads anything
abbrev pub most_of_words : List (String Global) → Option ℕ
most_of_words words = option_and_then (λ job. (work_of job).reads) (job_of_words words)

-- whether the words name a job that reads its source
abbrev pub reads_the_source : List (String Global) → Bool
reads_the_source words = is_some (most_of_words words)

-- whether the words name a job that opens a space
abbrev pub opens_a_space : List (String Global) → Bool
opens_a_space words = option_map_or (λ job. (work_of job).opens) (job_of_words words) false

-- of all that the source had left, which was taken, up to its end; of nothing for work that reads nothing
abbrev pub OfInput : Option ℕ → SourceView → SourceView → (List ℕ → Type 0) → Type 0
OfInput None source source' claim = claim []
OfInput (Some most) source source' claim = (input : List ℕ) × Consumes source.left source'.left input × IsAtEnd source'.left × claim input

-- what was given by work that is done is its text for the input, with these closed runs
abbrev pub GivesAll : Work → SourceView → SourceView → List ClosedView → SinkView → SinkView → Type 0
GivesAll work source source' runs sink sink' = OfInput work.reads source source' (λ input. (text : List ℕ) × work.gives input runs text
    × Appends sink.written sink'.written text)

-- a beginning was given of a text that the work gives for the input with some closed runs
abbrev pub GivesBeginning : Work → SourceView → SourceView → SinkView → SinkView → Type 0
GivesBeginning work source source' sink sink' = OfInput work.reads source source' (λ input. (runs : List ClosedView) × (text : List ℕ)
    × work.gives input runs text × (count : ℕ) × Appends sink.written sink'.written (take count text))

-- a beginning of one that is not all of it was given
abbrev pub GivesProperBeginning : Work → SourceView → SourceView → SinkView → SinkView → Type 0
GivesProperBeginning work source source' sink sink' = OfInput work.reads source source' (λ input. (runs : List ClosedView) × (text : List ℕ)
    × work.gives input runs text × (count : ℕ) × (count < length text) × Appends sink.written sink'.written (take count text))

-- the answer to an input that has this bad line, or none, where neither memory nor the outside fails
abbrev pub status_of : Option BadLine → Status
status_of None = statuses.Done
status_of (Some first) = statuses.Trace first.line first.cause

-- these bytes were taken: all that were left, or one more than so many
pub record Takes (most : ℕ) (old new : Option (List ℕ)) (bytes : List ℕ) : Type 0 where
  pub moved : Consumes old new bytes
  pub whole : length bytes ≤ most → IsAtEnd new
  pub bounded : length bytes ≤ most + 1

-- enough was read to tell what the input is, which may have so many bytes: all of it, or one byte more
abbrev pub ReadsEnough : ℕ → Option (List ℕ) → Option (List ℕ) → Type 0
ReadsEnough most old new = (bytes : List ℕ) × Takes most old new bytes

-- the answers on which nothing was given to the sink
abbrev pub GivesNothing : Status → Type 0
GivesNothing status = (status ≡ statuses.Words) ⊎ ((line : ℕ) × (cause : Cause) × (status ≡ statuses.Trace line cause))
    ⊎ (status ≡ statuses.ReadFault)
