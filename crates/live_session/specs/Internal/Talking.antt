-- How far a session is, and what the functions result in that take it on.
use Rattle.std.specs.Prelude.{ℕ, ◌≡◌, ◌+◌, ◌-◌, ◌*◌, ◌^◌, ◌<◌, ◌≤◌, Bool, true, false, List, [], ◌++◌, length, Option, Some, None, Result, Ok, Err}
use Rattle.std.specs.Io.KnownBytes.{Consumes, IsAtEnd}
use Rattle.io_edge.specs.Edge.{SourceView, SinkView}
use Rattle.text_lexer.specs.declared.error.CallError.{CallError}
use Rattle.text_lexer.specs.declared.error.CallError.TheVariants as calls
use Rattle.text_lexer.specs.declared.error.Cause.{Cause}
use Rattle.trace_reader.specs.declared.trace.TraceLine.{TraceLine}
use Rattle.trace_reader.specs.Reading.{so_far}
use Rattle.output.specs.Giving.{Gave}
use Rattle.live_session.specs.declared.asking.Asked.{Asked}
use Rattle.live_session.specs.declared.asking.Says.{Says}
use Rattle.live_session.specs.declared.answering.Stop.{Stop}
use Rattle.live_session.specs.declared.answering.Stop.TheVariants as stops
use Rattle.live_session.specs.declared.status.Status.{Status}
use Rattle.live_session.specs.declared.status.Status.TheVariants as statuses
use Rattle.live_session.specs.Sessions.{Opened, LineAnswer, Session, session_begun, after_operation, operation_text, operated, answers, session_after}
use Rattle.live_session.specs.Conversing.{IsConversation}
use Rattle.live_session.specs.Internal.Held.{HeldLineView, HasNewlineAt, HasNoNewline, kept_pieces, with_one_turn_less}

-- the session of what the lines so far say and of the space that is open
abbrev pub session_of : Says → Option Opened → Session
session_of says opened = record { count = says.count; so_far = so_far says.builder; opened = opened }

-- a session that whole lines lead to, of which there are fewer than 64 bits count
pub record IsReached (session : Session) : Type 0 where
  pub lines : List (List ℕ)
  pub few : length lines < 2 ^ 64 - 1
  pub now : session ≡ session_after session_begun lines

-- the space that is open, if one is, has room for one operation more
abbrev pub SpaceHasRoom : Option Opened → Type 0
SpaceHasRoom None = Unit {0}
SpaceHasRoom (Some now) = (now.space.objects < 2 ^ 32 - 1) × (now.version < 2 ^ 64 - 1)

-- What answering a line results in: its answer was appended, and the session is that after it; or no space is open, and an operation is to
-- be answered.
abbrev pub AnswersLine : LineAnswer → List ℕ → List ℕ → Session → Option Stop → Type 0
AnswersLine answer old new after None = (new ≡ old ++ answer.text) × (after ≡ answer.session)
AnswersLine answer old new after (Some stops.New) = (new ≡ old ++ answer.text) × (session_begun ≡ answer.session)
AnswersLine answer old new after (Some (stops.Operation line)) = (new ≡ old) × (operated after line ≡ answer) × (after.opened ≡ None)
AnswersLine answer old new after (Some stops.End) = ⊥

-- what a line asks for, or why it is bad, as a call has it that takes memory
abbrev pub as_called : Result Asked Cause → Result Asked CallError
as_called (Ok asked) = Ok asked
as_called (Err cause) = Err (calls.Bad cause)

-- what making an operation in a space results in, where one is open
abbrev pub Operates : Option Opened → Option Opened → TraceLine → List ℕ → List ℕ → Option Stop → Type 0
Operates (Some now) after line old new None = (new ≡ old ++ operation_text now line) × (after ≡ Some (after_operation now line.op))
Operates None after line old new (Some stop) = (new ≡ old) × (after ≡ None) × (stop ≡ stops.Operation line)
Operates (Some now) after line old new (Some stop) = ⊥
Operates None after line old new None = ⊥

-- So far: of the bytes that were taken the whole lines were answered, and the rest is held, whatever comes behind it: of each line as much as
-- is kept. Of the answers some were given, and the piece has the others. A turn was paid by a byte that was taken or by one that was answered.
pub record Talked (source source' : SourceView) (sink sink' : SinkView) (held : HeldLineView) (piece : List ℕ) (session : Session) : Type 0 where
  pub taken : List ℕ
  pub lines : List (List ℕ)
  pub given : List ℕ
  pub moved : Consumes source.left source'.left taken
  pub cut : (more : List ℕ) → kept_pieces (taken ++ more) ≡ lines ++ kept_pieces (held.bytes ++ more)
  pub calm : source'.faults ≡ source.faults
  pub gave : Gave sink sink' given
  pub split : given ++ piece ≡ answers session_begun lines
  pub now : session ≡ session_after session_begun lines
  pub few : length lines ≤ held.turns
  pub paid : held.turns + length held.bytes ≤ 2 * length taken

-- so far, where neither the source nor the sink has failed as often as 64 bits count
pub record IsTalking (source' : SourceView) (sink' : SinkView) (held : HeldLineView) (piece : List ℕ) (session : Session) : Type 0 where
  pub source : SourceView
  pub sink : SinkView
  pub talked : Talked source source' sink sink' held piece session
  pub source_room : source.faults < 2 ^ 64 - 1
  pub sink_room : sink.faults < 2 ^ 64 - 1

-- what looking for the next line results in: it is held; or the input ended, and all answers were given; or the session ended
abbrev pub FindsLine : SourceView → SourceView → SinkView → SinkView → HeldLineView → List ℕ → Session → Result (Option ℕ) Status → Type 0
FindsLine source source' sink sink' held piece session (Ok (Some len)) = Talked source source' sink sink' (with_one_turn_less held) piece session
    × HasNewlineAt held.bytes len × (0 < held.turns) × (held.turns < 2 ^ 64)
FindsLine source source' sink sink' held piece session (Ok None) = Talked source source' sink sink' (with_one_turn_less held) piece session × (piece ≡ [])
    × IsAtEnd source'.left × HasNoNewline held.bytes
FindsLine source source' sink sink' held piece session (Err status) = IsConversation status source source' sink sink'

-- what answering lines results in: an address space ended, and another begins; or an operation opens one; or the session ended
abbrev pub Ends : SourceView → SourceView → SinkView → SinkView → HeldLineView → List ℕ → Session → Result Stop Status → Type 0
Ends source source' sink sink' held piece session (Ok stops.New) = Talked source source' sink sink' held piece session_begun
Ends source source' sink sink' held piece session (Ok (stops.Operation line)) =
    Talked source source' sink sink' held (piece ++ (operated session line).text) (operated session line).session × (session.opened ≡ None)
Ends source source' sink sink' held piece session (Ok stops.End) = IsConversation statuses.Done source source' sink sink'
Ends source source' sink sink' held piece session (Err status) = IsConversation status source source' sink sink'

-- what answering the lines of an address space results in: another begins; or the session ended
abbrev pub EndsSpace : SourceView → SourceView → SinkView → SinkView → HeldLineView → List ℕ → Result Bool Status → Type 0
EndsSpace source source' sink sink' held piece (Ok true) = Talked source source' sink sink' held piece session_begun
EndsSpace source source' sink sink' held piece (Ok false) = IsConversation statuses.Done source source' sink sink'
EndsSpace source source' sink sink' held piece (Err status) = IsConversation status source source' sink sink'

-- what a session ended with
abbrev pub session_end : {T : Type 0} → Result T Status → Status
session_end (Ok done) = statuses.Done
session_end (Err status) = status
