-- Histories: what the callers of a trace did, in one order.
use Rattle.std.specs.Prelude.{ℕ, zero, suc, ◌≡◌, ◌≤◌, ◌<◌, ◌+◌, Bool, true, false, not, ◌&&◌, ◌||◌, if◌then◌else◌, nat_eq, nat_lt, nat_le, List, [], ◌∷◌, ◌++◌, length, map, fold, filter, filter_map, take, slice_get, All, Option, Some, None, IfSome, IsSomeAnd, is_some}
use Rattle.std.specs.List.{list_any, last_or}
use Rattle.mm_types.specs.Sorts.{sort_stably, sort_by}
use Rattle.mm_types.specs.declared.call.Call.{Call}
use Rattle.mm_types.specs.declared.call.Call.TheVariants.{Mmap, Munmap, Mprotect, Mremap, Touch, Brk, Mseal}
use Rattle.mm_types.specs.declared.call.Entry.{Entry}
use Rattle.mm_types.specs.declared.config.Config.{Config}
use Rattle.history.specs.declared.items.Content.{Content}
use Rattle.history.specs.declared.items.Content.TheVariants as contents
use Rattle.history.specs.declared.items.Item.{Item}
use Rattle.trace_reader.specs.declared.trace.Op.{Op}
use Rattle.trace_reader.specs.declared.trace.Op.TheVariants as ops
use Rattle.trace_reader.specs.declared.trace.TraceLine.{TraceLine}
use Rattle.area_rules.specs.Tables.{AddressSpace}
use Rattle.area_rules.specs.Growing.{grows}
use Rattle.area_rules.specs.Verdicts.{verdict}
use Rattle.area_rules.specs.Steps.{step, opening, after}

-- whether a thread has a line of the trace
abbrev pub occurs : List TraceLine → ℕ → Bool
occurs lines thread = list_any (λ line. nat_eq line.thread thread) lines

-- the callers are the threads of the trace by ascending number: a thread's caller is how many lower threads have a line
unfoldable pub caller_of : List TraceLine → ℕ → ℕ
caller_of lines zero = 0
caller_of lines (suc thread) = caller_of lines thread + (if occurs lines thread then 1 else 0)

-- the lines of a caller, in order
unfoldable pub lines_of : List TraceLine → ℕ → List TraceLine
lines_of lines caller = filter (λ line. nat_eq (caller_of lines line.thread) caller) lines

-- the items of a caller, in order
unfoldable pub items_of : List Item → ℕ → List Item
items_of items caller = filter (λ item. nat_eq item.caller caller) items

-- what an operation does in its space: one that makes a child reads the list
abbrev pub read_as : Op → Op
read_as (ops.Call call) = ops.Call call
read_as (ops.Fault page access) = ops.Fault page access
read_as ops.Maps = ops.Maps
read_as (ops.Fork child) = ops.Maps

-- the operation that makes a call: its own, and of a touch of a page the fault
unfoldable pub asks_for : Call → Op
asks_for (Mmap args) = ops.Call (Mmap args)
asks_for (Munmap addr len) = ops.Call (Munmap addr len)
asks_for (Mprotect addr len prot) = ops.Call (Mprotect addr len prot)
asks_for (Mremap old old_len new_len flags new) = ops.Call (Mremap old old_len new_len flags new)
asks_for (Touch page access) = ops.Fault page access
asks_for (Brk addr) = ops.Call (Brk addr)
asks_for (Mseal addr len flags) = ops.Call (Mseal addr len flags)

-- an operation that names a call is what asks for it: it is no touch
abbrev pub AsksItself : Op → Type 0
AsksItself (ops.Call call) = asks_for call ≡ ops.Call call
AsksItself (ops.Fault page access) = Unit {0}
AsksItself ops.Maps = Unit {0}
AsksItself (ops.Fork child) = Unit {0}

-- each of these lines that names a call is what asks for it
abbrev pub AskThemselves : List TraceLine → Type 0
AskThemselves lines = All (λ line. AsksItself line.op) lines

-- what an item was asked to do
abbrev pub op_asked : Content → Op
op_asked (contents.Called call reply) = asks_for call
op_asked (contents.Fault page access verdict) = ops.Fault page access
op_asked (contents.List areas) = ops.Maps

-- The call that an operation makes at an address space, if it makes one: then it is an entry of the journal, and else a read. A fault that
-- grows touches its page. Whatever else is said of lines goes by this.
unfoldable pub call_made : Config → AddressSpace → Op → Option Call
call_made config space (ops.Call call) = Some call
call_made config space (ops.Fault page access) = if grows config space.areas page.0 access then Some (Touch page access) else None
call_made config space ops.Maps = None
call_made config space (ops.Fork child) = None

-- whether an operation makes a call at an address space
abbrev pub makes_call : Config → AddressSpace → Op → Bool
makes_call config space op = is_some (call_made config space op)

-- whether it is a call, and so an entry of the journal
abbrev pub is_call : Content → Bool
is_call (contents.Called call reply) = true
is_call (contents.Fault page access verdict) = false
is_call (contents.List areas) = false

-- the entry of an item, if it is a call
abbrev pub entry_of : Item → Option Entry
entry_of item = called item.caller item.content
  where
    called : ℕ → Content → Option Entry
    called caller (contents.Called call reply) = Some (record { caller = caller; call = call; reply = reply })
    called caller (contents.Fault page access verdict) = None
    called caller (contents.List areas) = None

-- the entries of the calls, in order
unfoldable pub journal_of : List Item → List Entry
journal_of items = filter_map entry_of items

-- the line that an item answers: of its caller's lines, the next after those that items before it answer
unfoldable pub line_answered : List TraceLine → List Item → Item → Option TraceLine
line_answered lines before item = slice_get (lines_of lines item.caller) (length (items_of before item.caller))

-- what a content was asked to do makes that call there: so it is of each call but a touch, which only a fault that grows makes
abbrev pub IsMade : Config → AddressSpace → Content → Type 0
IsMade config space (contents.Called call reply) = call_made config space (asks_for call) ≡ Some call
IsMade config space (contents.Fault page access verdict) = Unit {0}
IsMade config space (contents.List areas) = Unit {0}

-- a line has this number, and its item is among some items
pub record StandsAmong (lines : List TraceLine) (before : List Item) (number : ℕ) : Type 0 where
  pub teller : ℕ
  pub place : ℕ
  pub line : TraceLine
  pub its : slice_get (lines_of lines teller) place ≡ Some line
  pub numbered : line.number ≡ number
  pub answered : place < length (items_of before teller)

-- An item can stand after others, in a space that began with some entries, where its version is that of its moment (a call's counts the
-- call itself), reads of one version go by ascending caller, its caller's next line asks for it, a touch is of a fault that grows there,
-- and the item of the line that its line names stands before it.
pub record CanStand (config : Config) (start : List Entry) (lines : List TraceLine) (before : List Item) (item : Item) : Type 0 where
  pub version : item.version ≡ length (journal_of before) + (if is_call item.content then 1 else 0)
  pub order : IfSome (last_or None before) (λ prior. is_call prior.content ≡ false → is_call item.content ≡ false → prior.caller ≤ item.caller)
  pub next : IsSomeAnd (line_answered lines before item) (λ line. read_as line.op ≡ op_asked item.content)
  pub made : IsMade config (after config (start ++ journal_of before)) item.content
  pub named : IfSome (line_answered lines before item) (λ line. IfSome line.after (StandsAmong lines before))

-- A content is right after a journal where its reply is the step's, its list the list, or its fault does not grow and has the verdict of
-- the list.
abbrev pub IsRight : Config → List Entry → Content → Type 0
IsRight config journal (contents.Called call reply) = reply ≡ (step config (after config journal) call).reply
IsRight config journal (contents.Fault page access found) = (grows config (after config journal).areas page.0 access ≡ false)
    × (found ≡ verdict config (after config journal).areas page.0 access)
IsRight config journal (contents.List areas) = areas ≡ (after config journal).areas

-- A history of a space that began with some entries is legal and of the trace where each item can stand and is right at its place, and no
-- line is left unanswered.
pub record IsLegalHistory (config : Config) (start : List Entry) (lines : List TraceLine) (items : List Item) : Type 0 where
  pub stands : (place : ℕ) (item : Item) → slice_get items place ≡ Some item → CanStand config start lines (take place items) item
  pub right : (place : ℕ) (item : Item) → slice_get items place ≡ Some item
      → IsRight config (start ++ journal_of (take place items)) item.content
  pub none_left : (caller : ℕ) → length (items_of items caller) ≡ length (lines_of lines caller)

-- Whether the first item goes before the second: by version, then a call before the reads of its version, then by
-- caller. On a tie the first one goes first.
unfoldable pub goes_first : Item → Item → Bool
goes_first a b = nat_lt a.version b.version || (nat_eq a.version b.version
    && (is_call a.content || (not (is_call b.content) && nat_le a.caller b.caller)))

-- items in the order of a history; those that tie keep their order
abbrev pub gather : List Item → List Item
gather items = sort_stably goes_first items

-- what an operation reads that makes no call: the verdict of a fault, or the list
abbrev pub read_of : Config → AddressSpace → Op → Content
read_of config space (ops.Fault page access) = contents.Fault page access (verdict config space.areas page.0 access)
read_of config space ops.Maps = contents.List space.areas
read_of config space (ops.Fork child) = contents.List space.areas
read_of config space (ops.Call call) = contents.List space.areas

-- the answer of an operation, by the call that it makes
abbrev pub answer_by : Config → AddressSpace → Op → Option Call → Content
answer_by config space op (Some call) = contents.Called call (step config space call).reply
answer_by config space op None = read_of config space op

-- the address space after a call, if one is made
abbrev pub space_by : Config → AddressSpace → Option Call → AddressSpace
space_by config space (Some call) = (step config space call).space
space_by config space None = space

-- the version after a call, if one is made: it counts the calls
abbrev pub version_by : ℕ → Option Call → ℕ
version_by version (Some call) = version + 1
version_by version None = version

-- the answer of a line
abbrev pub answer_of : Config → AddressSpace → Op → Content
answer_of config space op = answer_by config space op (call_made config space op)

-- the address space after a line
abbrev pub space_after : Config → AddressSpace → Op → AddressSpace
space_after config space op = space_by config space (call_made config space op)

-- the version after a line
abbrev pub version_after : Config → AddressSpace → ℕ → Op → ℕ
version_after config space version op = version_by version (call_made config space op)

-- the items of some lines of a trace, one after another
abbrev pub items_from : Config → List TraceLine → AddressSpace → ℕ → List TraceLine → List Item
items_from config trace space version [] = []
items_from config trace space version (line ∷ lines) =
    record { caller = caller_of trace line.thread; version = version_after config space version line.op; content = answer_of config space line.op }
    ∷ items_from config trace (space_after config space line.op) (version_after config space version line.op) lines

-- the history of a trace in the order of its lines
unfoldable pub serial_history : Config → List TraceLine → List Item
serial_history config lines = gather (items_from config lines (opening config) 0 lines)

-- the address space after some lines, one after another
abbrev pub space_after_all : Config → AddressSpace → List TraceLine → AddressSpace
space_after_all config space lines = fold (λ space line. space_after config space line.op) space lines

-- lines of a trace by ascending caller; those of one caller keep their order
unfoldable pub sort_by_caller : List TraceLine → List TraceLine → List TraceLine
sort_by_caller trace lines = sort_by (λ line. caller_of trace line.thread) lines

-- the lines before the first that makes a call at an address space, which they leave as it is
abbrev pub leading_reads : Config → AddressSpace → List TraceLine → List TraceLine
leading_reads config space [] = []
leading_reads config space (line ∷ lines) = if makes_call config space line.op then [] else line ∷ leading_reads config space lines

-- the lines from the first that makes a call there on
abbrev pub after_reads : Config → AddressSpace → List TraceLine → List TraceLine
after_reads config space [] = []
after_reads config space (line ∷ lines) = if makes_call config space line.op then line ∷ lines else after_reads config space lines

-- a line of a trace, and its item
abbrev pub answered_by : Config → List TraceLine → AddressSpace → ℕ → TraceLine → TraceLine × Item
answered_by config trace space version line =
    (line, record { caller = caller_of trace line.thread; version = version_after config space version line.op; content = answer_of config space line.op })

-- lines in the order of a history, each with its item; reads, pending until the next call or the end, go by caller there
abbrev pub answered : Config → List TraceLine → AddressSpace → ℕ → List TraceLine → List TraceLine → List (TraceLine × Item)
answered config trace space version pending [] = map (answered_by config trace space version) (sort_by_caller trace pending)
answered config trace space version pending (line ∷ lines) =
    if makes_call config space line.op
    then map (answered_by config trace space version) (sort_by_caller trace pending)
    ++ answered_by config trace space version line
    ∷ answered config trace (space_after config space line.op) (version_after config space version line.op) [] lines
    else answered config trace space version (pending ++ line ∷ []) lines
