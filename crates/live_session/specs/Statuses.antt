-- What a session ends with, as a number and as a line of text.
use Rattle.std.specs.Prelude.{ℕ, List, [], codes}
use Rattle.output.specs.declared.error.PrintError.{PrintError}
use Rattle.output.specs.declared.error.PrintError.TheVariants as errors
use Rattle.live_session.specs.declared.status.Status.{Status}
use Rattle.live_session.specs.declared.status.Status.TheVariants as statuses

-- the exit status of the program
abbrev pub session_status_number : Status → ℕ
session_status_number statuses.Done = 0
session_status_number statuses.TooMany = 3
session_status_number statuses.ReadFault = 4
session_status_number statuses.WriteFault = 5
session_status_number statuses.NoMemory = 6

-- the line on standard error; none for a session that is done
abbrev pub session_status_line : Status → List ℕ
session_status_line statuses.Done = []
session_status_line statuses.TooMany = codes "too many lines"
session_status_line statuses.ReadFault = codes "read fault"
session_status_line statuses.WriteFault = codes "write fault"
session_status_line statuses.NoMemory = codes "no memory"

-- what a session ends with where giving a text ended early
abbrev pub session_status_of_print : PrintError → Status
session_status_of_print errors.WriteFault = statuses.WriteFault
session_status_of_print errors.NoMemory = statuses.NoMemory
