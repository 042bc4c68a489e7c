-- The operations of a trace, and what is answered: the words of recorded traces.
use Rattle.std.specs.Prelude.{ℕ, Bool, true, false, ℤ, pos, List, [], Option, Result}
use Rattle.mm_types.specs.declared.area.Access.{Access}
use Rattle.mm_types.specs.declared.area.Prot.{Prot}
use Rattle.mm_types.specs.declared.config.Config.{Config}
use Rattle.mm_types.specs.declared.config.TheConstants.{ADDRESS_LIMIT}
use Rattle.mm_types.specs.declared.files.FileRow.{FileRow}
use Rattle.linux_rules.specs.declared.verdict.LinuxVerdict.{LinuxVerdict}

-- an operation of a trace: a call, an access to a page, or a fork, which makes the address space of this number
pub data Operation : Type 0 where
  Map : (addr len : ℕ) → Prot → (flags : ℕ) → (fd : ℤ) → (offset : ℕ) → Operation
  Unmap : (addr len : ℕ) → Operation
  Protect : (addr len : ℕ) → Prot → Operation
  Remap : (addr old_len new_len flags new_addr : ℕ) → Operation
  Break : ℕ → Operation
  Seal : (addr len flags : ℕ) → Operation
  Touch : ℕ → Access → Operation
  Fork : ℕ → Operation

-- what a kernel answers: what a call returns, what serves an access, or its signal
pub data Answer : Type 0 where
  Returned : ℕ → Answer
  Serves : (lo hi : ℕ) → Prot → (shared : Bool) → (index : ℕ) → Answer
  Signal : LinuxVerdict → Answer

-- what a line of maps shows: the range as pages, the rights with `s` or `p`, the offset in bytes, the file by its number (0 without one),
-- and whether the line ends with [heap]
pub record MapsLine : Type 0 where
  pub lo : ℕ
  pub hi : ℕ
  pub access : Prot
  pub shared : Bool
  pub offset : ℕ
  pub file : ℕ
  pub heap : Bool

-- one operation as recorded: in which address space (0 is the first, others are children's), what was done, what the kernel answered, and the
-- list after it, where it was read
pub record Step : Type 0 where
  pub place : ℕ
  pub operation : Operation
  pub answer : Result Answer ℕ
  pub maps : Option (List MapsLine)

-- a protection
abbrev pub prot : (read write exec : Bool) → Prot
prot read write exec = record { read = read; write = write; exec = exec }

-- `---`
abbrev pub none : Prot
none = prot false false false

-- `r--`
abbrev pub r : Prot
r = prot true false false

-- `-w-`
abbrev pub w : Prot
w = prot false true false

-- `--x`
abbrev pub x : Prot
x = prot false false true

-- `rw-`
abbrev pub rw : Prot
rw = prot true true false

-- `r-x`
abbrev pub rx : Prot
rx = prot true false true

-- `-wx`
abbrev pub wx : Prot
wx = prot false true true

-- `rwx`
abbrev pub rwx : Prot
rwx = prot true true true

-- the line of private anonymous memory
abbrev pub plain : (lo hi : ℕ) → Prot → MapsLine
plain lo hi access = record { lo = lo; hi = hi; access = access; shared = false; offset = 0; file = 0; heap = false }

-- the line of the heap
abbrev pub heap : (lo hi : ℕ) → Prot → MapsLine
heap lo hi access = record { lo = lo; hi = hi; access = access; shared = false; offset = 0; file = 0; heap = true }

-- the line of a file or of a shared anonymous object, `s` or `p`
abbrev pub filed : (lo hi : ℕ) → Prot → (shared : Bool) → (offset file : ℕ) → MapsLine
filed lo hi access shared offset file = record { lo = lo; hi = hi; access = access; shared = shared; offset = offset; file = file; heap = false }

-- one step in the address space of a number
abbrev pub kernel_step : ℕ → Operation → Result Answer ℕ → Option (List MapsLine) → Step
kernel_step place operation answer maps = record { place = place; operation = operation; answer = answer; maps = maps }

-- a file of a trace, of which no rule reads the device, the inode or the name
abbrev pub file_row : (fd : ℕ) → (read write : Bool) → (size : ℕ) → FileRow
file_row fd read write size = record { fd = pos fd; read = read; write = write; size = size; major = 0; minor = 0; inode = 0; path = [] }

-- what a trace sets: the lowest address, the top of searches, the most areas, the begin of the heap or 0, and the files
abbrev pub config : (min top areas heap : ℕ) → List FileRow → Config
config min top areas heap files = record { min = min; top = top; limit = ADDRESS_LIMIT; areas = areas; files = files; heap = heap }
