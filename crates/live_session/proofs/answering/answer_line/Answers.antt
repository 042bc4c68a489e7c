-- The proof of `answer_line`: the session is one that lines lead to.
use Rattle.std.proofs.Common.{◌≡◌, ◌+◌, ◌<◌, ◌∙◌, ℕ, length, Result, Ok, Err, OnErr, ap, arith, inl, inr, refl, subst, sym, vec_capacity, vec_len}
use Rattle.text_lexer.specs.declared.error.CallError.{CallError}
use Rattle.text_lexer.specs.declared.error.Cause.{Cause}
use Rattle.text_lexer.specs.Reading.{Gives}
use Rattle.trace_reader.specs.Lines.{SoFar}
use Rattle.trace_reader.specs.Reading.{so_far}
use Rattle.live_session.specs.declared.asking.Asked.{Asked}
use Rattle.live_session.specs.Sessions.{Session, bad_text, line_asks}
use Rattle.live_session.specs.Internal.Lacking.{MayBeKept, LineMayLack, MayLack}
use Rattle.live_session.specs.Internal.Talking.{as_called, session_of}
use Rattle.live_session.proofs.Reached.{reached_count, reached_numbered, reached_room}
use Rattle.live_session.proofs.Shown.{where_err}
use Rattle.live_session.proofs.answering.answer_line.Goals as goal

pub overflow_add-number : goal.overflow_add-number
overflow_add-number c = omega (arith, reached_count (session_of c.args.says.now c.args.space.now) c.requires)

pub ask-requires : goal.ask-requires
ask-requires c = reached_numbered (session_of c.args.says.now c.args.space.now) c.requires

pub answer-requires-clause-count : goal.answer-requires-clause-count
answer-requires-clause-count c = omega (arith, reached_count (session_of c.args.says.now c.args.space.now) c.requires, c.ask.ensures.count)

pub answer-requires-clause-room : goal.answer-requires-clause-room
answer-requires-clause-room c = reached_room (session_of c.args.says.now c.args.space.now) c.requires

pub bad_counted-says-requires : goal.bad_counted-says-requires
bad_counted-says-requires c = omega (arith, reached_count (session_of c.args.says.now c.args.space.now) c.requires, c.ask.ensures.count)

-- ---- where memory may run out

kept_lacks : (session : Session) (read : Result (Asked × SoFar) Cause) (capacity held : ℕ) → MayBeKept read → LineMayLack session read capacity held
kept_lacks session (Ok read) capacity held kept = inl kept
kept_lacks session (Err cause) capacity held kept = absurd kept

gives : (result : Result Asked CallError) (read : Result (Asked × SoFar) Cause) (found other : Result Asked Cause) (after : SoFar)
    → Gives (λ asked. (asked, after)) result read → result ≡ as_called found → found ≡ other → Gives (λ asked. (asked, after)) (as_called other) read
gives result read found other after gave is same = subst (λ (r : Result Asked CallError). Gives (λ asked. (asked, after)) r read) (is ∙ ap as_called same) gave

read_lacks : {T E : Type 0} (result : Result T E) (session now : Session) (read : Result (Asked × SoFar) Cause) (asked : Asked) (after : SoFar)
    (capacity held : ℕ) → read ≡ Ok (asked, after) → now ≡ record session { so_far = after } → OnErr result (MayLack asked now capacity held)
    → OnErr result (LineMayLack session read capacity held)
read_lacks (Ok done) session now read asked after capacity held is same lacks = tt
read_lacks (Err error) session now read asked after capacity held is same lacks =
    subst (λ (r : Result (Asked × SoFar) Cause). LineMayLack session r capacity held) (sym is)
    (inr (subst (λ (s : Session). MayLack asked s capacity held) same lacks))

bad_lacks : (session : Session) (read : Result (Asked × SoFar) Cause) (cause : Cause) (capacity held : ℕ) → read ≡ Err cause
    → capacity < held + length (bad_text (session.count + 1) cause) → LineMayLack session read capacity held
bad_lacks session read cause capacity held is lacks =
    subst (λ (r : Result (Asked × SoFar) Cause). LineMayLack session r capacity held) (sym is) lacks

pub returns-in_err-asked-clause-memory : goal.returns-in_err-asked-clause-memory
returns-in_err-asked-clause-memory c = λ room.
    let session = session_of c.args.says.now c.args.space.now in
    where_err _ c.from_residual.result (kept_lacks session (line_asks session c.args.text.now) (vec_capacity c.args.piece.now) (vec_len c.args.piece.now)
    (c.ask.ensures.memory room (c.in_err-asked.ensures.memory refl)))

pub returns-in-Ok-clause-memory : goal.returns-in-Ok-clause-memory
returns-in-Ok-clause-memory c = λ room.
    let session = session_of c.args.says.now c.args.space.now in
    read_lacks c.answer.result session (session_of c.ask.new.self c.args.space.now) (line_asks session c.args.text.now) c.in-Ok.asked (so_far c.ask.new.self.builder)
    (vec_capacity c.args.piece.now) (vec_len c.args.piece.now)
    (gives c.ask.result (line_asks session c.args.text.now) c.in_ok-asked.field-0 (Ok c.in-Ok.asked) (so_far c.ask.new.self.builder) c.ask.ensures.asked
    c.in_ok-asked.ensures.read c.in-Ok.is)
    (ap (λ (n : ℕ). record (session_of c.ask.new.self c.args.space.now) { count = n }) c.ask.ensures.count) c.answer.ensures.memory

pub returns-in_err-push_bad-in-Err-clause-memory : goal.returns-in_err-push_bad-in-Err-clause-memory
returns-in_err-push_bad-in-Err-clause-memory c = λ room.
    let session = session_of c.args.says.now c.args.space.now in
    where_err _ c.from_residual-in_err-push_bad-in-Err.result (bad_lacks session (line_asks session c.args.text.now) c.in-Err.cause (vec_capacity c.args.piece.now) (vec_len c.args.piece.now)
    (gives c.ask.result (line_asks session c.args.text.now) c.in_ok-asked.field-0 (Err c.in-Err.cause) (so_far c.ask.new.self.builder) c.ask.ensures.asked
    c.in_ok-asked.ensures.read c.in-Err.is)
    c.in_err-push_bad-in-Err.ensures.room)
