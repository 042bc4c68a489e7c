-- Bytes that were read and not yet answered, and what reading more results in.
use Rattle.std.specs.Prelude.{ℕ, ◌≡◌, ◌+◌, ◌-◌, ◌^◌, ◌<◌, ◌≤◌, Bool, true, false, List, [], ◌++◌, length, map, take, drop, get_or, All, Result, Ok, Err}
use Rattle.std.specs.Io.KnownBytes.{Consumes, IsAtEnd, Keeps}
use Rattle.io_edge.specs.Edge.{SourceView, FailedLast}
use Rattle.text_lexer.specs.Lines.{is_newline}
use Rattle.live_session.specs.declared.held.TheConstants.{MOST_KEPT, PIECE}
use Rattle.live_session.specs.declared.status.Status.{Status}
use Rattle.live_session.specs.declared.status.Status.TheVariants as statuses
use Rattle.live_session.specs.Sessions.{pieces_of}

-- the bytes, how many of them were searched, of which none is a newline, and how many lines and reads there were
pub record HeldLineView : Type 0 where
  pub bytes : List ℕ
  pub searched : ℕ
  pub turns : ℕ

-- more turns were made, still as few as 64 bits count
abbrev pub Turns : HeldLineView → HeldLineView → Type 0
Turns old new = (old.turns < new.turns) × (new.turns < 2 ^ 64)

-- one turn less: the last is that of the line which is at the front, or of the read which found the end
abbrev pub with_one_turn_less : HeldLineView → HeldLineView
with_one_turn_less held = record { bytes = held.bytes; searched = held.searched; turns = held.turns - 1 }

-- what is kept of a line: all of one that is not too long, and of a longer one as much as shows that
abbrev pub kept : List ℕ → List ℕ
kept line = take MOST_KEPT line

-- what is between the newlines of bytes, as much as is kept of each
abbrev pub kept_pieces : List ℕ → List (List ℕ)
kept_pieces bytes = map kept (pieces_of bytes)

-- no byte is a newline
abbrev pub HasNoNewline : List ℕ → Type 0
HasNoNewline bytes = All (λ c. is_newline c ≡ false) bytes

-- the first newline of bytes is behind so many of them
pub record HasNewlineAt (bytes : List ℕ) (len : ℕ) : Type 0 where
  pub within : len < length bytes
  pub newline : get_or bytes len 0 ≡ 10
  pub single : HasNoNewline (take len bytes)

-- Of bytes some were answered, and so many of the others were searched, of which none is a newline. There are no more than a line that is kept and
-- what one read gives.
pub record AreBytesHeld (bytes : List ℕ) (at searched : ℕ) : Type 0 where
  pub within : at + searched ≤ length bytes
  pub none : HasNoNewline (take searched (drop at bytes))
  pub few : length bytes ≤ MOST_KEPT + PIECE

-- what reading more results in: more bytes behind the others, of which none was searched, or the end; or the source failed, or memory ran out once bytes were taken
abbrev pub TakesMore : SourceView → SourceView → HeldLineView → HeldLineView → Result Bool Status → Type 0
TakesMore old new held after (Ok true) = (more : List ℕ) × Consumes old.left new.left more × (new.faults ≡ old.faults)
    × (after ≡ record { bytes = held.bytes ++ more; searched = held.searched; turns = held.turns }) × (0 < length more)
TakesMore old new held after (Ok false) = IsAtEnd new.left × Consumes old.left new.left [] × (new.faults ≡ old.faults) × (after ≡ held)
TakesMore old new held after (Err statuses.ReadFault) = Keeps old.left new.left × (new.faults ≡ old.faults + 1) × FailedLast new.just_failed
TakesMore old new held after (Err statuses.NoMemory) = (more : List ℕ) × Consumes old.left new.left more × (new.faults ≡ old.faults)
    × (0 < length more)
TakesMore old new held after (Err statuses.Done) = ⊥
TakesMore old new held after (Err statuses.TooMany) = ⊥
TakesMore old new held after (Err statuses.WriteFault) = ⊥
