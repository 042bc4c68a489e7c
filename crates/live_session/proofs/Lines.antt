-- Serves `conversing.rt`: what answering a line and opening an address space take a session to.
use Rattle.std.proofs.Common.{◌≡◌, ◌+◌, ◌^◌, ◌<◌, ◌∙◌, ℕ, List, [], ◌++◌, length, take, drop, Option, Some, None, Ok, Err, sym, ap, subst, arith}
use Rattle.std.specs.Prelude.{IsErrAnd, Result}
use Rattle.io_edge.specs.Edge.{SourceView, SinkView}
use Rattle.mm_types.specs.Config.{IsValidConfig}
use Rattle.trace_reader.specs.declared.trace.TraceLine.{TraceLine}
use Rattle.trace_reader.specs.Grammar.{config_of, nothing}
use Rattle.trace_reader.specs.Lines.{SoFar}
use Rattle.live_session.specs.declared.answering.Stop.{Stop}
use Rattle.live_session.specs.declared.answering.Stop.TheVariants as stops
use Rattle.live_session.specs.declared.status.Status.{Status}
use Rattle.live_session.specs.declared.status.Status.TheVariants as statuses
use Rattle.live_session.specs.Conversing.{IsConversation}
use Rattle.live_session.specs.Sessions.{LineAnswer, Opened, Session, after_operation, line_answer, session_begun, operated, operation_text, opened_by}
use Rattle.live_session.specs.Internal.Held.{HeldLineView, HasNewlineAt, with_one_turn_less}
use Rattle.live_session.specs.Internal.Talking.{AnswersLine, Ends, FindsLine, Talked, session_end}
use Rattle.live_session.proofs.Reached.{lined_config, lined_count}
use Rattle.live_session.proofs.Talks.{talked_line, talked_no_memory, talked_none}

-- ---- a line was looked for

pub line_found : (s s' : SourceView) (k k' : SinkView) (held : HeldLineView) (piece : List ℕ) (session : Session) (found : Option ℕ) (len : ℕ) → found ≡ Some len
    → FindsLine s s' k k' held piece session (Ok found) → FindsLine s s' k k' held piece session (Ok (Some len))
line_found s s' k k' held piece session found len is finds = subst (λ (o : Option ℕ). FindsLine s s' k k' held piece session (Ok o)) is finds

pub end_found : (s s' : SourceView) (k k' : SinkView) (held : HeldLineView) (piece : List ℕ) (session : Session) (found : Option ℕ) → found ≡ None
    → FindsLine s s' k k' held piece session (Ok found) → FindsLine s s' k k' held piece session (Ok None)
end_found s s' k k' held piece session found is finds = subst (λ (o : Option ℕ). FindsLine s s' k k' held piece session (Ok o)) is finds

-- ---- a line was answered

line_talked : (s s' : SourceView) (k k' : SinkView) (held now : HeldLineView) (piece text : List ℕ) (session : Session) (len : ℕ)
    → Talked s s' k k' (with_one_turn_less held) piece session → HasNewlineAt held.bytes len → 0 < held.turns → text ≡ take len held.bytes
    → now ≡ record { bytes = drop (len + 1) held.bytes; searched = 0; turns = held.turns }
    → Talked s s' k k' now (piece ++ (line_answer session text).text) (line_answer session text).session
line_talked s s' k k' held now piece text session len talked has some is passed =
    subst (λ (h : HeldLineView). Talked s s' k k' h (piece ++ (line_answer session text).text) (line_answer session text).session) (sym passed)
    (subst (λ (t : List ℕ). Talked s s' k k' (record { bytes = drop (len + 1) held.bytes; searched = 0; turns = held.turns }) (piece ++ (line_answer session t).text)
    (line_answer session t).session) (sym is) (talked_line s s' k k' held piece session len talked has some))

-- its answer was appended, and the session goes on
pub line_answered : (s s' : SourceView) (k k' : SinkView) (held now : HeldLineView) (piece new text : List ℕ) (session after : Session) (len : ℕ)
    → Talked s s' k k' (with_one_turn_less held) piece session → HasNewlineAt held.bytes len → 0 < held.turns → text ≡ take len held.bytes
    → now ≡ record { bytes = drop (len + 1) held.bytes; searched = 0; turns = held.turns } → AnswersLine (line_answer session text) piece new after None
    → Talked s s' k k' now new after
line_answered s s' k k' held now piece new text session after len talked has some is passed answers =
    subst (λ (a : Session). Talked s s' k k' now new a) (sym answers.1)
    (subst (λ (p : List ℕ). Talked s s' k k' now p (line_answer session text).session) (sym answers.0)
    (line_talked s s' k k' held now piece text session len talked has some is passed))

-- or the lines end with it
ends_by : (s s' : SourceView) (k k' : SinkView) (now : HeldLineView) (piece new : List ℕ) (after : Session) (answer : LineAnswer) (stop : Stop)
    → Talked s s' k k' now (piece ++ answer.text) answer.session → AnswersLine answer piece new after (Some stop) → Ends s s' k k' now new after (Ok stop)
ends_by s s' k k' now piece new after answer stops.New talked answers =
    subst (λ (a : Session). Talked s s' k k' now new a) (sym answers.1)
    (subst (λ (p : List ℕ). Talked s s' k k' now p answer.session) (sym answers.0) talked)
ends_by s s' k k' now piece new after answer (stops.Operation line) talked answers = (
  subst (λ (p : List ℕ). Talked s s' k k' now (p ++ (operated after line).text) (operated after line).session) (sym answers.0)
      (subst (λ (a : LineAnswer). Talked s s' k k' now (piece ++ a.text) a.session) (sym answers.1) talked),
  answers.2,
)
ends_by s s' k k' now piece new after answer stops.End talked answers = absurd answers

pub line_ends : (s s' : SourceView) (k k' : SinkView) (held now : HeldLineView) (piece new text : List ℕ) (session after : Session) (len : ℕ) (stop : Stop)
    → Talked s s' k k' (with_one_turn_less held) piece session → HasNewlineAt held.bytes len → 0 < held.turns → text ≡ take len held.bytes
    → now ≡ record { bytes = drop (len + 1) held.bytes; searched = 0; turns = held.turns } → AnswersLine (line_answer session text) piece new after (Some stop)
    → Ends s s' k k' now new after (Ok stop)
line_ends s s' k k' held now piece new text session after len stop talked has some is passed answers =
    ends_by s s' k k' now piece new after (line_answer session text) stop
    (line_talked s s' k k' held now piece text session len talked has some is passed) answers

-- ---- an operation opens an address space

-- a session without an address space
abbrev unopened : ℕ → SoFar → Session
unopened count so_far = record { count = count; so_far = so_far; opened = None }

-- with the one that the operation opened
abbrev with_space : ℕ → SoFar → Opened → Session
with_space count so_far live = record { count = count; so_far = so_far; opened = Some live }

-- what was talked of it so far
abbrev TalkedOf : SourceView → SourceView → SinkView → SinkView → HeldLineView → List ℕ → LineAnswer → Type 0
TalkedOf s s' k k' held piece answer = Talked s s' k k' held (piece ++ answer.text) answer.session

pub opened_config : (s s' : SourceView) (k k' : SinkView) (held : HeldLineView) (piece : List ℕ) (count : ℕ) (so_far : SoFar) (line : TraceLine)
    → Talked s s' k k' held (piece ++ (operated (record { count = count; so_far = so_far; opened = None }) line).text)
    (operated (record { count = count; so_far = so_far; opened = None }) line).session
    → held.turns < 2 ^ 64 → IsValidConfig (config_of so_far)
opened_config s s' k k' held piece count so_far line talked small =
    lined_config (operated (unopened count so_far) line).session talked.lines talked.now (omega (arith, talked.few))

pub opened_talked : (s s' : SourceView) (k k' : SinkView) (held : HeldLineView) (piece new : List ℕ) (count : ℕ) (so_far : SoFar) (line : TraceLine) (live live' : Opened)
    → live ≡ opened_by so_far → live' ≡ after_operation live line.op → new ≡ piece ++ operation_text live line
    → Talked s s' k k' held (piece ++ (operated (record { count = count; so_far = so_far; opened = None }) line).text)
    (operated (record { count = count; so_far = so_far; opened = None }) line).session
    → Talked s s' k k' held new (record { count = count; so_far = so_far; opened = Some live' })
opened_talked s s' k k' held piece new count so_far line live live' is after text talked =
    subst (λ (l : Opened). Talked s s' k k' held new (with_space count so_far l)) (sym (after ∙ ap (λ (l : Opened). after_operation l line.op) is))
    (subst (λ (p : List ℕ). Talked s s' k k' held p (with_space count so_far (after_operation (opened_by so_far) line.op)))
    (sym (text ∙ ap (λ (l : Opened). piece ++ operation_text l line) is)) talked)

-- the session of an operation that is to open an address space has none
pub unopened_talked : (s s' : SourceView) (k k' : SinkView) (held : HeldLineView) (piece : List ℕ) (count : ℕ) (so_far : SoFar) (opened : Option Opened) (line : TraceLine)
    → opened ≡ None → Talked s s' k k' held (piece ++ (operated (record { count = count; so_far = so_far; opened = opened }) line).text)
    (operated (record { count = count; so_far = so_far; opened = opened }) line).session
    → Talked s s' k k' held (piece ++ (operated (record { count = count; so_far = so_far; opened = None }) line).text)
    (operated (record { count = count; so_far = so_far; opened = None }) line).session
unopened_talked s s' k k' held piece count so_far opened line none talked =
    subst (λ (o : Option Opened). TalkedOf s s' k k' held piece (operated (record { count = count; so_far = so_far; opened = o }) line)) none talked

-- ---- a session ends

-- memory ran out at the end of the input: there was a line or a byte
pub ended_no_memory : (s s' : SourceView) (k k' : SinkView) (held : HeldLineView) (piece : List ℕ) (session : Session) → Talked s s' k k' (with_one_turn_less held) piece session
    → held.turns < 2 ^ 64 → 0 < session.count + length held.bytes → IsConversation statuses.NoMemory s s' k k'
ended_no_memory s s' k k' held piece session talked small some =
    talked_no_memory s s' k k' (with_one_turn_less held) piece session talked
    (omega (arith, lined_count session talked.lines talked.now (omega (arith, talked.few, small)), talked.few, some))

pub status_err : {T : Type 0} (s s' : SourceView) (k k' : SinkView) (result : Result T Status) (status : Status) → IsErrAnd result (λ error. error ≡ status)
    → IsConversation status s s' k k' → IsConversation (session_end result) s s' k k'
status_err s s' k k' (Ok done) status is ended = absurd is
status_err s s' k k' (Err error) status is ended = subst (λ (e : Status). IsConversation e s s' k k') (sym is) ended

-- ---- an address space begins

pub begun_is : (count : ℕ) (so_far : SoFar) → count ≡ 0 → so_far ≡ nothing → record { count = count; so_far = so_far; opened = None } ≡ session_begun
begun_is count so_far zero_lines none = ap (λ (n : ℕ). unopened n so_far) zero_lines ∙ ap (λ (x : SoFar). unopened 0 x) none

pub talked_first : (s : SourceView) (k : SinkView) (held : HeldLineView) (piece : List ℕ) → held ≡ record { bytes = []; searched = 0; turns = 0 } → piece ≡ []
    → Talked s s k k held piece session_begun
talked_first s k held piece is none =
    subst (λ (h : HeldLineView). Talked s s k k h piece session_begun) (sym is)
    (subst (λ (p : List ℕ). Talked s s k k (record { bytes = []; searched = 0; turns = 0 }) p session_begun) (sym none) (talked_none s k))
