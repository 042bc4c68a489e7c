-- What holds of every trace that was read.
use Rattle.std.specs.Prelude.{◌≡◌, ◌≢◌, ◌-◌, ◌^◌, ◌<◌, ◌≤◌, ◌≤ℤ◌, Bool, true, false, ℕ, List, length, filter, filter_map, Option, Some, None, is_some, All, AllPairs, Contains, IfSome, pos, negsuc}
use Rattle.mm_types.specs.declared.call.Call.{Call}
use Rattle.mm_types.specs.declared.call.Call.TheVariants.{Mmap, Munmap, Mprotect, Mremap, Touch, Brk, Mseal}
use Rattle.mm_types.specs.declared.call.MmapArgs.{MmapArgs}
use Rattle.trace_reader.specs.declared.trace.Op.{Op}
use Rattle.trace_reader.specs.declared.trace.Op.TheVariants as ops
use Rattle.trace_reader.specs.declared.trace.TraceLine.{TraceLine}
use Rattle.mm_types.specs.Config.{IsValidConfig}
use Rattle.trace_reader.specs.declared.limits.TheConstants.{MOST_LINES, MOST_NAMED, MOST_FORKS, MOST_MAPS}
use Rattle.trace_reader.specs.declared.trace.Trace.{Trace}

-- the numbers of an mmap fit their types: 64 bits, 32 bits of flags, and a descriptor from -1 up to 2^31 - 1
pub record IsMapping (args : MmapArgs) : Type 0 where
  pub addr : args.addr < 2 ^ 64
  pub len : args.len < 2 ^ 64
  pub flags : args.flags < 2 ^ 32
  pub low : negsuc 0 ≤ℤ args.fd
  pub high : args.fd ≤ℤ pos (2 ^ 31 - 1)
  pub offset : args.offset < 2 ^ 64

-- the call is one that a trace may ask for, and its numbers fit their types
abbrev pub IsCallValue : Call → Type 0
IsCallValue (Mmap args) = IsMapping args
IsCallValue (Munmap addr len) = (addr < 2 ^ 64) × (len < 2 ^ 64)
IsCallValue (Mprotect addr len prot) = (addr < 2 ^ 64) × (len < 2 ^ 64)
IsCallValue (Mremap old old_len new_len flags new) = (old < 2 ^ 64) × (old_len < 2 ^ 64) × (new_len < 2 ^ 64)
    × (flags < 2 ^ 32) × (new < 2 ^ 64)
IsCallValue (Touch page access) = ⊥
IsCallValue (Brk addr) = addr < 2 ^ 64
IsCallValue (Mseal addr len flags) = (addr < 2 ^ 64) × (len < 2 ^ 64) × (flags < 2 ^ 64)

-- and so do those of an operation, whose page has an address of 64 bits
abbrev pub IsOpValue : Op → Type 0
IsOpValue (ops.Call call) = IsCallValue call
IsOpValue (ops.Fault page access) = page.0 < 2 ^ 52
IsOpValue ops.Maps = Unit {0}
IsOpValue (ops.Fork child) = child < 64

-- a line with one of 64 threads, whose numbers fit 64 bits
pub record IsLineValue (line : TraceLine) : Type 0 where
  pub number : line.number < 2 ^ 64
  pub thread : line.thread < 64
  pub op : IsOpValue line.op
  pub after : IfSome line.after (λ number. number < 2 ^ 64)

-- whether an operation is a call
abbrev pub is_call_op : Op → Bool
is_call_op (ops.Call call) = true
is_call_op (ops.Fault page access) = false
is_call_op ops.Maps = false
is_call_op (ops.Fork child) = false

-- the numbers of the lines rise
abbrev pub AreNumbered : List TraceLine → Type 0
AreNumbered lines = AllPairs (λ earlier later. earlier.number < later.number) lines

-- the line that a line names, if it names one, is an earlier line of another thread, and a call
abbrev pub NamesACall : List TraceLine → TraceLine → Type 0
NamesACall lines line = IfSome line.after (λ number. (other : TraceLine) × Contains lines other × (other.number ≡ number) × (number < line.number)
    × (other.thread ≢ line.thread) × (is_call_op other.op ≡ true))

-- so it is for each line
abbrev pub AreNamesRight : List TraceLine → Type 0
AreNamesRight lines = All (NamesACall lines) lines

-- whether an operation reads the list of areas
abbrev pub is_maps : Op → Bool
is_maps (ops.Call call) = false
is_maps (ops.Fault page access) = false
is_maps ops.Maps = true
is_maps (ops.Fork child) = false

-- the child that an operation forks
abbrev pub child_of : Op → Option ℕ
child_of (ops.Call call) = None
child_of (ops.Fault page access) = None
child_of ops.Maps = None
child_of (ops.Fork child) = Some child

-- the children that lines fork, in the order of the lines
abbrev pub children_of : List TraceLine → List ℕ
children_of lines = filter_map (λ line. child_of line.op) lines

-- a thread of the first space: no line forks it
abbrev pub IsOfParent : List TraceLine → ℕ → Type 0
IsOfParent lines thread = All (λ child. child ≢ thread) (children_of lines)

-- a line that names a line is of the first space, and so is the line that it names
abbrev pub NamesInSpace : List TraceLine → TraceLine → Type 0
NamesInSpace lines line = IfSome line.after (λ number. IsOfParent lines line.thread
    × All (λ other. other.number ≡ number → IsOfParent lines other.thread) lines)

-- a line that forks is of the first space
abbrev pub ForksFromParent : List TraceLine → TraceLine → Type 0
ForksFromParent lines line = IfSome (child_of line.op) (λ child. IsOfParent lines line.thread)

-- a thread is forked once, by a thread of the first space, and all lines of a child stand behind its fork
pub record AreForksRight (lines : List TraceLine) : Type 0 where
  pub once : AllPairs (λ a b. a ≢ b) (children_of lines)
  pub parent : All (ForksFromParent lines) lines
  pub behind : AllPairs (λ earlier later. child_of later.op ≢ Some earlier.thread) lines

-- A valid configuration and at most 1,000,000 lines, of which at most 1,000 name a line, 8 fork and 64 read the list of areas.
-- The values of the lines fit, their numbers rise, each that names a line names a call of another thread of its own space, and
-- each child is new.
pub record IsTraceValue (trace : Trace) : Type 0 where
  pub config : IsValidConfig trace.config
  pub few : length trace.lines ≤ MOST_LINES
  pub lines : All IsLineValue trace.lines
  pub numbered : AreNumbered trace.lines
  pub named : AreNamesRight trace.lines
  pub inside : All (NamesInSpace trace.lines) trace.lines
  pub forks : AreForksRight trace.lines
  pub few_named : length (filter (λ line. is_some line.after) trace.lines) ≤ MOST_NAMED
  pub few_forks : length (children_of trace.lines) ≤ MOST_FORKS
  pub few_reads : length (filter (λ line. is_maps line.op) trace.lines) ≤ MOST_MAPS
