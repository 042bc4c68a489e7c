-- What `replay` answers, as a number and as a line of text.
use Rattle.std.specs.Prelude.{ℕ, List, [], ◌++◌, codes, decimal}
use Rattle.text_lexer.specs.declared.error.Cause.{Cause}
use Rattle.text_lexer.specs.Causes.{cause_number, cause_name}
use Rattle.output.specs.declared.error.PrintError.{PrintError}
use Rattle.output.specs.declared.error.PrintError.TheVariants as errors
use Rattle.vma_replay.specs.declared.status.Status.{Status}
use Rattle.vma_replay.specs.declared.status.Status.TheVariants as statuses

-- the number of a cause and its name
abbrev pub cause_text : Cause → List ℕ
cause_text cause = decimal (cause_number cause) ++ (codes " " ++ cause_name cause)

-- the exit status of the program
abbrev pub number_of_status : Status → ℕ
number_of_status statuses.Done = 0
number_of_status statuses.Words = 2
number_of_status (statuses.Trace line cause) = 3
number_of_status statuses.ReadFault = 4
number_of_status statuses.WriteFault = 5
number_of_status statuses.NoMemory = 6

-- the line on standard error; none for a run that is done
abbrev pub line_of_status : Status → List ℕ
line_of_status statuses.Done = []
line_of_status statuses.Words = codes "words"
line_of_status (statuses.Trace line cause) = codes "trace line " ++ (decimal line ++ (codes " cause " ++ cause_text cause))
line_of_status statuses.ReadFault = codes "read fault"
line_of_status statuses.WriteFault = codes "write fault"
line_of_status statuses.NoMemory = codes "no memory"

-- the answer where giving a text ended early
abbrev pub status_of_print : PrintError → Status
status_of_print errors.WriteFault = statuses.WriteFault
status_of_print errors.NoMemory = statuses.NoMemory
