-- The text of a history.
use Rattle.std.specs.Prelude.{ℕ, false, List, [], ◌∷◌, ◌++◌, length, codes, decimal, Option, Some, None}
use Rattle.std.specs.Fmt.{digits}
use Rattle.std.specs.Option.{option_map_or}
use Rattle.mm_types.specs.declared.area.Record.{Record}
use Rattle.mm_types.specs.declared.area.Verdict.{Verdict}
use Rattle.mm_types.specs.declared.area.Verdict.TheVariants as verdicts
use Rattle.mm_types.specs.declared.call.Errno.{Errno}
use Rattle.mm_types.specs.declared.call.Errno.TheVariants as errnos
use Rattle.mm_types.specs.declared.call.Reply.{Reply}
use Rattle.mm_types.specs.declared.call.Reply.TheVariants as replies
use Rattle.mm_types.specs.declared.config.Config.{Config}
use Rattle.mm_types.specs.declared.files.FileRow.{FileRow}
use Rattle.history.specs.declared.items.Content.{Content}
use Rattle.history.specs.declared.items.Content.TheVariants as contents
use Rattle.history.specs.declared.items.Item.{Item}
use Rattle.trace_reader.specs.declared.trace.TraceLine.{TraceLine}
use Rattle.mm_types.specs.MapsText.{range_text, list_text}
use Rattle.trace_reader.specs.declared.trace.Trace.{Trace}
use Rattle.trace_reader.specs.Values.{child_of}
use Rattle.area_rules.specs.Steps.{after}
use Rattle.history.specs.Histories.{line_answered, journal_of, serial_history}

-- the name of an error
unfoldable pub errno_name : Errno → List ℕ
errno_name errnos.Eperm = codes "EPERM"
errno_name errnos.Ebadf = codes "EBADF"
errno_name errnos.Enomem = codes "ENOMEM"
errno_name errnos.Eacces = codes "EACCES"
errno_name errnos.Efault = codes "EFAULT"
errno_name errnos.Eexist = codes "EEXIST"
errno_name errnos.Einval = codes "EINVAL"
errno_name errnos.Eoverflow = codes "EOVERFLOW"

-- the area that serves a fault, and the page of its object
unfoldable pub served_text : Record → ℕ → List ℕ
served_text area index = codes "served " ++ (range_text area ++ (codes " page " ++ decimal index))

-- an address in hexadecimal, 0, -1 and the error's name, or the area that a fault grew, as one that serves it
unfoldable pub reply_text : Reply → List ℕ
reply_text (replies.Addr address) = codes "0x" ++ digits 16 false address
reply_text replies.Zero = codes "0"
reply_text (replies.Refused errno) = codes "-1 " ++ errno_name errno
reply_text (replies.Grown area index) = served_text area index

-- the area that serves and the page of its object, or the signal and its code
unfoldable pub verdict_text : Verdict → List ℕ
verdict_text (verdicts.Served area index) = served_text area index
verdict_text verdicts.MapErr = codes "SIGSEGV SEGV_MAPERR"
verdict_text verdicts.AccErr = codes "SIGSEGV SEGV_ACCERR"
verdict_text verdicts.BusErr = codes "SIGBUS BUS_ADRERR"

-- how many areas there are, and their lines
unfoldable pub maps_text : List FileRow → List Record → List ℕ
maps_text files areas = codes "maps " ++ (decimal (length areas) ++ (codes "\n" ++ list_text files areas))

-- what happened, up to the end of its last line
unfoldable pub content_text : List FileRow → Content → List ℕ
content_text files (contents.Called call reply) = reply_text reply ++ codes "\n"
content_text files (contents.Fault page access verdict) = verdict_text verdict ++ codes "\n"
content_text files (contents.List areas) = maps_text files areas

-- what stands before it: `L<line> t<thread> v<version> = `
unfoldable pub item_start : TraceLine → ℕ → List ℕ
item_start line version = codes "L" ++ (decimal line.number
    ++ (codes " t" ++ (decimal line.thread ++ (codes " v" ++ (decimal version ++ codes " = ")))))

-- the child that a line forked, and how many areas it begins with
unfoldable pub forked_text : ℕ → List Record → List ℕ
forked_text child areas = codes "child " ++ (decimal child ++ (codes " areas " ++ (decimal (length areas) ++ codes "\n")))

-- what a line results in that forks this child, if it forks one: a list is that of the child
abbrev pub result_text : List FileRow → Option ℕ → Content → List ℕ
result_text files None content = content_text files content
result_text files (Some child) (contents.List areas) = forked_text child areas
result_text files (Some child) (contents.Called call reply) = content_text files (contents.Called call reply)
result_text files (Some child) (contents.Fault page access verdict) = content_text files (contents.Fault page access verdict)

-- an item, with the line that it answers
abbrev pub item_text : List FileRow → TraceLine → Item → List ℕ
item_text files line item = item_start line item.version ++ result_text files (child_of line.op) item.content

-- what is told of the items after others, of each with the line that it answers
abbrev pub told_by : {X : Type 0} → (TraceLine → Item → List X) → List TraceLine → List Item → List Item → List X
told_by tell lines before [] = []
told_by tell lines before (item ∷ items) = option_map_or (λ line. tell line item) (line_answered lines before item) []
    ++ told_by tell lines (before ++ item ∷ []) items

-- the items of a history, and after them a list
unfoldable pub listed_text : List FileRow → List TraceLine → List Item → List Record → List ℕ
listed_text files lines items areas = told_by (item_text files) lines [] items ++ maps_text files areas

-- the items of a history, and after them the list after all its calls
unfoldable pub output_text : Config → List TraceLine → List Item → List ℕ
output_text config lines items = listed_text config.files lines items (after config (journal_of items)).areas

-- the output of a trace that runs in the order of its lines
unfoldable pub serial_output : Trace → List ℕ
serial_output trace = output_text trace.config trace.lines (serial_history trace.config trace.lines)
