-- Where memory may run out while a line is answered.
use Rattle.std.specs.Prelude.{ℕ, ◌≡◌, ◌+◌, ◌/◌, ◌<◌, ◌⊎◌, Bool, true, false, List, length, codes, find, nat_lt, IsSomeAnd, Result, Ok, Err}
use Rattle.std.specs.Option.{option_map_or}
use Rattle.mm_types.specs.declared.config.TheConstants.{PAGE_SIZE}
use Rattle.mm_types.specs.MapsText.{area_text}
use Rattle.text_lexer.specs.declared.error.Cause.{Cause}
use Rattle.trace_reader.specs.declared.trace.Op.{Op}
use Rattle.trace_reader.specs.declared.trace.Op.TheVariants as ops
use Rattle.trace_reader.specs.declared.trace.TraceLine.{TraceLine}
use Rattle.trace_reader.specs.Lines.{SoFar}
use Rattle.live_session.specs.declared.asking.Asked.{Asked}
use Rattle.live_session.specs.declared.asking.Asked.TheVariants as asks
use Rattle.live_session.specs.Sessions.{Opened, Session, answer_read, bad_text, closing_text, operation_text, session_space}

-- whether an operation reads the list of areas, which is copied for it
abbrev pub reads_list : Op → Bool
reads_list (ops.Call call) = false
reads_list (ops.Fault page access) = false
reads_list ops.Maps = true
reads_list (ops.Fork child) = true

-- a piece of this capacity, which holds so many bytes, has no room for the answer to an operation that reads no list
abbrev pub LacksRoom : Opened → TraceLine → ℕ → ℕ → Type 0
LacksRoom now line capacity held = reads_list line.op ≡ false → capacity < held + length (operation_text now line)

-- nor for a text with the list of a space without an area; where there is one, the list is copied
abbrev pub LacksForList : Opened → List ℕ → ℕ → ℕ → Type 0
LacksForList now text capacity held = length now.space.areas ≡ 0 → capacity < held + length text

-- the line of the first area that ends above an address, with the spaces at its end, or `none`
abbrev pub found_line : Opened → ℕ → List ℕ
found_line now address = option_map_or (area_text now.config.files)
    (find (λ area. nat_lt (address / PAGE_SIZE) area.span.hi) now.space.areas) (codes "none\n")

-- Where memory may run out for what a line asks for: never where it asks for nothing, for a list that has an area, and else only where the piece
-- has no room for the answer. An operation that is to open a space is not answered yet, and takes none.
abbrev pub MayLack : Asked → Session → ℕ → ℕ → Type 0
MayLack asks.Nothing session capacity held = ⊥
MayLack (asks.Operation line) session capacity held = IsSomeAnd session.opened (λ now. LacksRoom now line capacity held)
MayLack (asks.Areas line) session capacity held = LacksForList (session_space session) (answer_read session (asks.Areas line)).text capacity held
MayLack (asks.Query address) session capacity held = capacity < held + length (found_line (session_space session) address)
MayLack asks.New session capacity held = LacksForList (session_space session) (closing_text session) capacity held

-- what only the lines of a trace ask for, which it keeps: an operation, or nothing, as a setting does
abbrev pub IsOfTrace : Asked → Type 0
IsOfTrace asks.Nothing = Unit {0}
IsOfTrace (asks.Operation line) = Unit {0}
IsOfTrace (asks.Areas line) = ⊥
IsOfTrace (asks.Query address) = ⊥
IsOfTrace asks.New = ⊥

-- a line is good, and may be kept as one of a trace
abbrev pub MayBeKept : Result (Asked × SoFar) Cause → Type 0
MayBeKept (Ok read) = IsOfTrace read.0
MayBeKept (Err cause) = ⊥

-- Where memory may run out for a whole line whose words have room: for a good one where a trace may keep it, and for what it asks for; for a bad
-- one only where the piece has no room for the answer.
abbrev pub LineMayLack : Session → Result (Asked × SoFar) Cause → ℕ → ℕ → Type 0
LineMayLack session (Ok read) capacity held = IsOfTrace read.0 ⊎ MayLack read.0 (record session { so_far = read.1 }) capacity held
LineMayLack session (Err cause) capacity held = capacity < held + length (bad_text (session.count + 1) cause)
