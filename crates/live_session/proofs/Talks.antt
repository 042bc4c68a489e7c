-- Serves `conversing.rt` and `held.rt`: how far a session is, one step after another.
use Rattle.std.proofs.Common.{◌≡◌, ◌+◌, ◌-◌, ◌^◌, ◌<◌, ◌≤◌, ◌∙◌, ℕ, List, [], ◌∷◌, ◌++◌, length, take, drop, Option, Ok, Err, true, false, refl, sym, ap, subst, inl, inr, arith, append_assoc, append-nil, length-append, length-drop}
use Rattle.std.specs.Prelude.{Bool, IsErrAnd, Result}
use Rattle.std.specs.Io.KnownBytes.{Appends, Consumes, IsAtEnd, Keeps}
use Rattle.std.proofs.KnownBytes.{Appends-trans, Consumes-trans, Consumes-kept, Consumes-nil, Appends-nil}
use Rattle.io_edge.specs.Edge.{SourceView, SinkView, FailedLast}
use Rattle.output.specs.declared.error.PrintError.{PrintError}
use Rattle.output.specs.Giving.{Gave, IsCutOff, Prints}
use Rattle.live_session.specs.declared.status.Status.{Status}
use Rattle.live_session.specs.declared.status.Status.TheVariants as statuses
use Rattle.live_session.specs.Statuses.{session_status_of_print}
use Rattle.live_session.specs.Conversing.{IsConversation}
use Rattle.live_session.specs.Sessions.{LineAnswer, Session, session_begun, line_answer, answers, session_after, session_text, ending_text}
use Rattle.live_session.specs.Internal.Held.{HeldLineView, HasNewlineAt, HasNoNewline, TakesMore, kept, kept_pieces, with_one_turn_less}
use Rattle.live_session.specs.declared.answering.Stop.{Stop}
use Rattle.live_session.specs.Internal.Talking.{Ends, EndsSpace, FindsLine, IsReached, IsTalking, Talked}
use Rattle.live_session.proofs.Pieces.{answers-append, session_after-append}
use Rattle.live_session.proofs.Kept.{answered-kept, ending_text-kept, kept_pieces-kept, length-kept}
use Rattle.live_session.proofs.KeptPieces.{answers_of-whole, line_kept, rest_kept, session_text-front, session_text-none, session_text-whole}

-- ---- what may still be given

-- of what is given for the bytes that were taken some was given, and what the piece has comes next
pub record Told (source source' : SourceView) (sink sink' : SinkView) (piece : List ℕ) : Type 0 where
  pub taken : List ℕ
  pub given : List ℕ
  pub rest : List ℕ
  pub moved : Consumes source.left source'.left taken
  pub calm : source'.faults ≡ source.faults
  pub gave : Gave sink sink' given
  pub whole : session_text taken ≡ given ++ (piece ++ rest)

take_front : (xs ys : List ℕ) → take (length xs) (xs ++ ys) ≡ xs
take_front [] ys = refl
take_front (x ∷ xs) ys = ap (λ (l : List ℕ). x ∷ l) (take_front xs ys)

-- where there are answers, a byte was taken
pub told_some : (s s' : SourceView) (k k' : SinkView) (piece : List ℕ) (told : Told s s' k k' piece) → 0 < length piece → 0 < length told.taken
told_some s s' k k' piece told some = by_taken told.taken told.whole
  where
    by_taken : (taken : List ℕ) → session_text taken ≡ told.given ++ (piece ++ told.rest) → 0 < length taken
    by_taken [] whole = absurd (omega (arith, ap length (sym session_text-none ∙ whole), length-append told.given (piece ++ told.rest), length-append piece told.rest, some))
    by_taken (c ∷ cs) whole = omega arith

-- memory ran out
pub told_no_memory : (s s' : SourceView) (k k' : SinkView) (piece : List ℕ) (told : Told s s' k k' piece) → 0 < length told.taken
    → IsConversation statuses.NoMemory s s' k k'
told_no_memory s s' k k' piece told some = (
  told.taken,
  told.moved,
  (
    told.calm,
    told.gave.calm,
    some,
    length told.given,
    subst (λ (t : List ℕ). Appends k.written k'.written t)
        (sym (ap (take (length told.given)) told.whole ∙ take_front told.given (piece ++ told.rest))) told.gave.moved,
  ),
)

-- giving what the piece has ended early
pub told_cut : (s s' : SourceView) (k k' k'' : SinkView) (piece held text : List ℕ) (error : PrintError) (told : Told s s' k k' piece) → 0 < length told.taken
    → held ++ text ≡ piece → IsCutOff k' k'' held text error → IsConversation (session_status_of_print error) s s' k k''
told_cut s s' k k' k'' piece held text error told some is cut =
    let given : List ℕ = told.given ++ cut.given in
    let more : List ℕ = cut.lost ++ told.rest in
    let whole : session_text told.taken ≡ given ++ more =
    told.whole ∙ ap (λ (p : List ℕ). told.given ++ (p ++ told.rest)) (sym is ∙ cut.split)
    ∙ ap (λ (t : List ℕ). told.given ++ t) (append_assoc cut.given cut.lost told.rest) ∙ sym (append_assoc told.given cut.given more) in
    let moved : Appends k.written k''.written (take (length given) (session_text told.taken)) =
    subst (λ (t : List ℕ). Appends k.written k''.written t) (sym (ap (take (length given)) whole ∙ take_front given more))
    (Appends-trans k.written k'.written k''.written told.given cut.given told.gave.moved cut.moved) in
    elim cut.why [
      | inl failed ↦
          subst (λ (e : PrintError). IsConversation (session_status_of_print e) s s' k k'') (sym failed.0) (
            told.taken,
            told.moved,
            (
              told.calm,
              failed.1 ∙ ap (λ (n : ℕ). n + 1) told.gave.calm,
              failed.2,
              length given,
              omega (arith, ap length whole, length-append given more, length-append cut.lost told.rest, failed.3),
              moved,
            ),
          )
      | inr wanted ↦
          subst (λ (e : PrintError). IsConversation (session_status_of_print e) s s' k k'') (sym wanted.0) (
            told.taken,
            told.moved,
            (told.calm, wanted.1 ∙ told.gave.calm, some, length given, moved),
          )
    ]

-- ---- from how far a session is

abbrev told_when : (s s' s'' : SourceView) (k k' : SinkView) (held : HeldLineView) (piece more : List ℕ) (session : Session) → Talked s s' k k' held piece session
    → Consumes s'.left s''.left more → s''.faults ≡ s'.faults → Told s s'' k k' piece
told_when s s' s'' k k' held piece more session talked moved calm =
    let front = session_text-front (talked.taken ++ more) talked.lines (held.bytes ++ more) (talked.cut more) in
    record {
      taken = talked.taken ++ more;
      given = talked.given;
      rest = front.0;
      moved = Consumes-trans s.left s'.left s''.left talked.taken more talked.moved moved;
      calm = calm ∙ talked.calm;
      gave = talked.gave;
      whole = front.1 ∙ ap (λ (t : List ℕ). t ++ front.0) (sym talked.split) ∙ append_assoc talked.given piece front.0;
    }

-- what was answered is a beginning of what is given
abbrev pub told_of : (s s' : SourceView) (k k' : SinkView) (held : HeldLineView) (piece : List ℕ) (session : Session) → Talked s s' k k' held piece session → Told s s' k k' piece
told_of s s' k k' held piece session talked = told_when s s' s' k k' held piece [] session talked (Consumes-nil s'.left) refl

-- memory ran out once more bytes were taken
pub told_later : (s s' s'' : SourceView) (k k' : SinkView) (held : HeldLineView) (piece more : List ℕ) (session : Session) → Talked s s' k k' held piece session
    → Consumes s'.left s''.left more → s''.faults ≡ s'.faults → 0 < length more → IsConversation statuses.NoMemory s s'' k k'
told_later s s' s'' k k' held piece more session talked moved calm some =
    told_no_memory s s'' k k' piece (told_when s s' s'' k k' held piece more session talked moved calm)
    (omega (arith, length-append talked.taken more, some))

-- the bytes that are held, and no others, are behind the lines
cut_now : (taken : List ℕ) (lines : List (List ℕ)) (bytes : List ℕ) → ((more : List ℕ) → kept_pieces (taken ++ more) ≡ lines ++ kept_pieces (bytes ++ more))
    → HasNoNewline bytes → kept_pieces taken ≡ lines ++ kept bytes ∷ []
cut_now taken lines bytes cut none =
    ap kept_pieces (sym (append-nil taken)) ∙ cut [] ∙ ap (λ (b : List ℕ). lines ++ kept_pieces b) (append-nil bytes)
    ∙ ap (λ (l : List (List ℕ)). lines ++ l) (rest_kept bytes none)

-- the end was appended
pub told_ending : (s s' : SourceView) (k k' : SinkView) (held : HeldLineView) (piece whole : List ℕ) (session : Session) → Talked s s' k k' held piece session
    → HasNoNewline held.bytes → whole ≡ piece ++ ending_text session held.bytes
    → (told : Told s s' k k' whole) × (told.rest ≡ [])
told_ending s s' k k' held piece whole session talked none is = (
  record {
    taken = talked.taken;
    given = talked.given;
    rest = [];
    moved = talked.moved;
    calm = talked.calm;
    gave = talked.gave;
    whole = session_text-whole talked.taken talked.lines (kept held.bytes) (cut_now talked.taken talked.lines held.bytes talked.cut none)
        ∙ ap (λ (t : List ℕ). answers session_begun talked.lines ++ t) (ending_text-kept (session_after session_begun talked.lines) held.bytes)
        ∙ ap (λ (x : Session). answers session_begun talked.lines ++ ending_text x held.bytes) (sym talked.now)
        ∙ ap (λ (t : List ℕ). t ++ ending_text session held.bytes) (sym talked.split)
        ∙ append_assoc talked.given piece (ending_text session held.bytes)
        ∙ ap (λ (t : List ℕ). talked.given ++ t) (sym is ∙ sym (append-nil whole));
  },
  refl,
)

-- and given
pub told_done : (s s' : SourceView) (k k' k'' : SinkView) (whole : List ℕ) → (told : Told s s' k k' whole) × (told.rest ≡ []) → IsAtEnd s'.left → Gave k' k'' whole
    → IsConversation statuses.Done s s' k k''
told_done s s' k k' k'' whole told end gave = (
  told.0.taken,
  told.0.moved,
  (
    end,
    told.0.calm,
    gave.calm ∙ told.0.gave.calm,
    subst (λ (t : List ℕ). Appends k.written k''.written t)
        (sym (told.0.whole ∙ ap (λ (r : List ℕ). told.0.given ++ (whole ++ r)) told.1 ∙ ap (λ (t : List ℕ). told.0.given ++ t) (append-nil whole)))
        (Appends-trans k.written k'.written k''.written told.0.given whole told.0.gave.moved gave.moved),
  ),
)

-- a read failed once all answers were given
pub talked_read_fault : (s s' s'' : SourceView) (k k' : SinkView) (held : HeldLineView) (session : Session) → Talked s s' k k' held [] session → HasNoNewline held.bytes
    → Keeps s'.left s''.left → s''.faults ≡ s'.faults + 1 → FailedLast s''.just_failed → IsConversation statuses.ReadFault s s'' k k'
talked_read_fault s s' s'' k k' held session talked none keeps counted last = (
  talked.taken,
  Consumes-kept s.left s'.left s''.left talked.taken talked.moved keeps,
  (
    counted ∙ ap (λ (n : ℕ). n + 1) talked.calm,
    last,
    talked.gave.calm,
    subst (λ (t : List ℕ). Appends k.written k'.written t)
        (sym (answers_of-whole talked.taken talked.lines (kept held.bytes) (cut_now talked.taken talked.lines held.bytes talked.cut none)
        ∙ sym talked.split ∙ append-nil talked.given)) talked.gave.moved,
  ),
)

-- ---- one step more

-- the same bytes and turns
pub talked_same : (s s' : SourceView) (k k' : SinkView) (held after : HeldLineView) (piece : List ℕ) (session : Session) → Talked s s' k k' held piece session
    → after.bytes ≡ held.bytes → after.turns ≡ held.turns → Talked s s' k k' after piece session
talked_same s s' k k' held after piece session talked same turns = record {
  taken = talked.taken;
  lines = talked.lines;
  given = talked.given;
  moved = talked.moved;
  cut = λ more. talked.cut more ∙ ap (λ (b : List ℕ). talked.lines ++ kept_pieces (b ++ more)) (sym same);
  calm = talked.calm;
  gave = talked.gave;
  split = talked.split;
  now = talked.now;
  few = omega (arith, talked.few, turns);
  paid = omega (arith, talked.paid, turns, ap length same);
}

-- a read took no byte
talked_read : (s s' s'' : SourceView) (k k' : SinkView) (held : HeldLineView) (piece : List ℕ) (session : Session) → Talked s s' k k' held piece session
    → Consumes s'.left s''.left [] → s''.faults ≡ s'.faults → Talked s s'' k k' held piece session
talked_read s s' s'' k k' held piece session talked moved calm = record {
  taken = talked.taken;
  lines = talked.lines;
  given = talked.given;
  moved = subst (λ (t : List ℕ). Consumes s.left s''.left t) (append-nil talked.taken)
      (Consumes-trans s.left s'.left s''.left talked.taken [] talked.moved moved);
  cut = talked.cut;
  calm = calm ∙ talked.calm;
  gave = talked.gave;
  split = talked.split;
  now = talked.now;
  few = talked.few;
  paid = talked.paid;
}

-- a turn more, and more bytes were taken
pub talked_taken : (s s' s'' : SourceView) (k k' : SinkView) (held : HeldLineView) (piece more : List ℕ) (session : Session) → Talked s s' k k' held piece session
    → Consumes s'.left s''.left more → s''.faults ≡ s'.faults → 0 < length more
    → Talked s s'' k k' (record { bytes = held.bytes ++ more; searched = held.searched; turns = held.turns + 1 }) piece session
talked_taken s s' s'' k k' held piece more session talked moved calm some = record {
  taken = talked.taken ++ more;
  lines = talked.lines;
  given = talked.given;
  moved = Consumes-trans s.left s'.left s''.left talked.taken more talked.moved moved;
  cut = λ others. ap kept_pieces (append_assoc talked.taken more others) ∙ talked.cut (more ++ others)
      ∙ ap (λ (b : List ℕ). talked.lines ++ kept_pieces b) (sym (append_assoc held.bytes more others));
  calm = calm ∙ talked.calm;
  gave = talked.gave;
  split = talked.split;
  now = talked.now;
  few = omega (arith, talked.few);
  paid = omega (arith, talked.paid, length-append held.bytes more, length-append talked.taken more, some);
}

-- of a line whose end was not read a front is kept
pub talked_kept : (s s' : SourceView) (k k' : SinkView) (held : HeldLineView) (piece : List ℕ) (session : Session) → Talked s s' k k' held piece session
    → HasNoNewline held.bytes → Talked s s' k k' (record { bytes = kept held.bytes; searched = length (kept held.bytes); turns = held.turns }) piece session
talked_kept s s' k k' held piece session talked none = record {
  taken = talked.taken;
  lines = talked.lines;
  given = talked.given;
  moved = talked.moved;
  cut = λ more. talked.cut more ∙ ap (λ (l : List (List ℕ)). talked.lines ++ l) (kept_pieces-kept held.bytes more none);
  calm = talked.calm;
  gave = talked.gave;
  split = talked.split;
  now = talked.now;
  few = talked.few;
  paid = omega (arith, talked.paid, length-kept held.bytes);
}

-- of what the piece had some was given
pub talked_given : (s s' : SourceView) (k k' k'' : SinkView) (held : HeldLineView) (piece given holds : List ℕ) (session : Session) → Talked s s' k k' held piece session
    → Gave k' k'' given → piece ≡ given ++ holds → Talked s s' k k'' held holds session
talked_given s s' k k' k'' held piece given holds session talked gave is = record {
  taken = talked.taken;
  lines = talked.lines;
  given = talked.given ++ given;
  moved = talked.moved;
  cut = talked.cut;
  calm = talked.calm;
  gave = record {
    moved = Appends-trans k.written k'.written k''.written talked.given given talked.gave.moved gave.moved;
    calm = gave.calm ∙ talked.gave.calm;
  };
  split = append_assoc talked.given given holds ∙ ap (λ (p : List ℕ). talked.given ++ p) (sym is) ∙ talked.split;
  now = talked.now;
  few = talked.few;
  paid = talked.paid;
}

-- a line was answered
pub talked_line : (s s' : SourceView) (k k' : SinkView) (held : HeldLineView) (piece : List ℕ) (session : Session) (len : ℕ) → Talked s s' k k' (with_one_turn_less held) piece session
    → HasNewlineAt held.bytes len → 0 < held.turns
    → Talked s s' k k' (record { bytes = drop (len + 1) held.bytes; searched = 0; turns = held.turns }) (piece ++ (line_answer session (take len held.bytes)).text)
    (line_answer session (take len held.bytes)).session
talked_line s s' k k' held piece session len talked has some =
    let line : List ℕ = take len held.bytes in
    let text : List ℕ = (line_answer session line).text in
    let alike : line_answer session line ≡ line_answer (session_after session_begun talked.lines) (kept line) =
    ap (λ (x : Session). line_answer x line) talked.now ∙ sym (answered-kept (session_after session_begun talked.lines) line) in
    record {
      taken = talked.taken;
      lines = talked.lines ++ kept line ∷ [];
      given = talked.given;
      moved = talked.moved;
      cut = λ more. talked.cut more ∙ ap (λ (l : List (List ℕ)). talked.lines ++ l) (line_kept held.bytes more len has)
          ∙ sym (append_assoc talked.lines (kept line ∷ []) (kept_pieces (drop (len + 1) held.bytes ++ more)));
      calm = talked.calm;
      gave = talked.gave;
      split = sym (append_assoc talked.given piece text) ∙ ap (λ (t : List ℕ). t ++ text) talked.split
          ∙ ap (λ (t : List ℕ). answers session_begun talked.lines ++ t) (sym (append-nil text))
          ∙ ap (λ (a : LineAnswer). answers session_begun talked.lines ++ (a.text ++ [])) alike
          ∙ sym (answers-append session_begun talked.lines (kept line ∷ []));
      now = ap (λ (a : LineAnswer). a.session) alike ∙ sym (session_after-append session_begun talked.lines (kept line ∷ []));
      few = omega (arith, length-append talked.lines (kept line ∷ []), talked.few);
      paid = omega (arith, talked.paid, length-drop (len + 1) held.bytes, has.within, some);
    }

-- before the first read
pub talked_none : (s : SourceView) (k : SinkView) → Talked s s k k (record { bytes = []; searched = 0; turns = 0 }) [] session_begun
talked_none s k = record {
  taken = [];
  lines = [];
  given = [];
  moved = Consumes-nil s.left;
  cut = λ more. refl;
  calm = refl;
  gave = record { moved = Appends-nil k.written; calm = refl };
  split = refl;
  now = refl;
  few = omega arith;
  paid = omega arith;
}

-- ---- reading more

-- it failed
pub talked_err : (status : Status) (s s' s'' : SourceView) (k k' : SinkView) (held now after : HeldLineView) (session : Session) → Talked s s' k k' held [] session
    → HasNoNewline held.bytes → TakesMore s' s'' now after (Err status) → IsConversation status s s'' k k'
talked_err statuses.ReadFault s s' s'' k k' held now after session talked none takes =
    talked_read_fault s s' s'' k k' held session talked none takes.0 takes.1 takes.2
talked_err statuses.NoMemory s s' s'' k k' held now after session talked none takes =
    told_later s s' s'' k k' held [] takes.0 session talked takes.1 takes.2 takes.3
talked_err statuses.Done s s' s'' k k' held now after session talked none takes = absurd takes
talked_err statuses.TooMany s s' s'' k k' held now after session talked none takes = absurd takes
talked_err statuses.WriteFault s s' s'' k k' held now after session talked none takes = absurd takes

-- more bytes came
pub talked_more : (s s' s'' : SourceView) (k k' : SinkView) (held now after : HeldLineView) (piece : List ℕ) (session : Session) → Talked s s' k k' held piece session
    → now ≡ record { bytes = held.bytes; searched = held.searched; turns = held.turns + 1 } → TakesMore s' s'' now after (Ok true) → Talked s s'' k k' after piece session
talked_more s s' s'' k k' held now after piece session talked is takes =
    talked_same s s'' k k' (record { bytes = held.bytes ++ takes.0; searched = held.searched; turns = held.turns + 1 }) after piece session
    (talked_taken s s' s'' k k' held piece takes.0 session talked takes.1 takes.2 takes.4)
    (ap (λ (h : HeldLineView). h.bytes) takes.3 ∙ ap (λ (h : HeldLineView). h.bytes ++ takes.0) is)
    (ap (λ (h : HeldLineView). h.turns) takes.3 ∙ ap (λ (h : HeldLineView). h.turns) is)

-- the input ended
pub talked_end : (s s' s'' : SourceView) (k k' : SinkView) (held now after : HeldLineView) (piece : List ℕ) (session : Session) → Talked s s' k k' held piece session
    → now ≡ record { bytes = held.bytes; searched = held.searched; turns = held.turns + 1 } → TakesMore s' s'' now after (Ok false)
    → Talked s s'' k k' (with_one_turn_less after) piece session
talked_end s s' s'' k k' held now after piece session talked is takes =
    talked_same s s'' k k' held (with_one_turn_less after) piece session (talked_read s s' s'' k k' held piece session talked takes.1 takes.2)
    (ap (λ (h : HeldLineView). h.bytes) takes.3 ∙ ap (λ (h : HeldLineView). h.bytes) is)
    (omega (arith, ap (λ (h : HeldLineView). h.turns) takes.3, ap (λ (h : HeldLineView). h.turns) is))

-- ---- giving answers

-- all that the piece has
pub talked_all_given : (s s' : SourceView) (k k' k'' : SinkView) (held : HeldLineView) (piece : List ℕ) (session : Session) → Talked s s' k k' held piece session
    → Gave k' k'' piece → Talked s s' k k'' held [] session
talked_all_given s s' k k' k'' held piece session talked gave =
    talked_given s s' k k' k'' held piece piece [] session talked gave (sym (append-nil piece))

-- as much as fills whole pieces
pub talked_full_given : (s s' : SourceView) (k k' k'' : SinkView) (held : HeldLineView) (piece holds : List ℕ) (session : Session) → Talked s s' k k' held piece session
    → Prints k' k'' piece holds [] → Talked s s' k k'' held holds session
talked_full_given s s' k k' k'' held piece holds session talked prints =
    talked_given s s' k k' k'' held piece prints.moved.given holds session talked prints.moved.gave (sym (append-nil piece) ∙ prints.moved.split)

-- giving them ended early
pub talked_cut : (s s' : SourceView) (k k' k'' : SinkView) (held : HeldLineView) (piece : List ℕ) (session : Session) (error : PrintError) → Talked s s' k k' held piece session
    → IsCutOff k' k'' [] piece error → 0 < length piece → IsConversation (session_status_of_print error) s s' k k''
talked_cut s s' k k' k'' held piece session error talked cut some =
    let told = told_of s s' k k' held piece session talked in
    told_cut s s' k k' k'' piece [] piece error told (told_some s s' k k' piece told some) refl cut

pub talked_full_cut : (s s' : SourceView) (k k' k'' : SinkView) (held : HeldLineView) (piece : List ℕ) (session : Session) (error : PrintError) → Talked s s' k k' held piece session
    → 0 < held.turns → IsCutOff k' k'' piece [] error → IsConversation (session_status_of_print error) s s' k k''
talked_full_cut s s' k k' k'' held piece session error talked some cut =
    told_cut s s' k k' k'' piece piece [] error (told_of s s' k k' held piece session talked)
    (omega (arith, length-append talked.taken [], talked.paid, some)) (append-nil piece) cut

-- memory ran out where a turn was made or a byte is held, or too many turns were made
pub talked_no_memory : (s s' : SourceView) (k k' : SinkView) (held : HeldLineView) (piece : List ℕ) (session : Session) → Talked s s' k k' held piece session
    → 0 < held.turns + length held.bytes → IsConversation statuses.NoMemory s s' k k'
talked_no_memory s s' k k' held piece session talked some =
    told_no_memory s s' k k' piece (told_of s s' k k' held piece session talked) (omega (arith, length-append talked.taken [], talked.paid, some))

pub talked_too_many : (s s' : SourceView) (k k' : SinkView) (held : HeldLineView) (piece : List ℕ) (session : Session) → Talked s s' k k' held piece session
    → 2 ^ 64 - 1 ≤ held.turns → IsConversation statuses.TooMany s s' k k'
talked_too_many s s' k k' held piece session talked many =
    let cut : kept_pieces talked.taken ≡ talked.lines ++ kept_pieces held.bytes =
    ap kept_pieces (sym (append-nil talked.taken)) ∙ talked.cut [] ∙ ap (λ (b : List ℕ). talked.lines ++ kept_pieces b) (append-nil held.bytes) in
    let front = session_text-front talked.taken talked.lines held.bytes cut in
    let whole : session_text talked.taken ≡ talked.given ++ (piece ++ front.0) =
    front.1 ∙ ap (λ (t : List ℕ). t ++ front.0) (sym talked.split) ∙ append_assoc talked.given piece front.0 in (
      talked.taken,
      talked.moved,
      (
        talked.calm,
        talked.gave.calm,
        omega (arith, talked.paid, many),
        length talked.given,
        subst (λ (t : List ℕ). Appends k.written k'.written t)
            (sym (ap (take (length talked.given)) whole ∙ take_front talked.given (piece ++ front.0))) talked.gave.moved,
      ),
    )

-- ---- what a function answers that ended early

pub found_err : (s s' : SourceView) (k k' : SinkView) (held : HeldLineView) (piece : List ℕ) (session : Session) (result : Result (Option ℕ) Status) (status : Status)
    → IsErrAnd result (λ error. error ≡ status) → IsConversation status s s' k k' → FindsLine s s' k k' held piece session result
found_err s s' k k' held piece session (Ok found) status is ended = absurd is
found_err s s' k k' held piece session (Err error) status is ended = subst (λ (e : Status). IsConversation e s s' k k') (sym is) ended

pub ends_err : (s s' : SourceView) (k k' : SinkView) (held : HeldLineView) (piece : List ℕ) (session : Session) (result : Result Stop Status) (status : Status)
    → IsErrAnd result (λ error. error ≡ status) → IsConversation status s s' k k' → Ends s s' k k' held piece session result
ends_err s s' k k' held piece session (Ok stop) status is ended = absurd is
ends_err s s' k k' held piece session (Err error) status is ended = subst (λ (e : Status). IsConversation e s s' k k') (sym is) ended

pub space_err : (s s' : SourceView) (k k' : SinkView) (held : HeldLineView) (piece : List ℕ) (result : Result Bool Status) (status : Status)
    → IsErrAnd result (λ error. error ≡ status) → IsConversation status s s' k k' → EndsSpace s s' k k' held piece result
space_err s s' k k' held piece (Ok more) status is ended = absurd is
space_err s s' k k' held piece (Err error) status is ended = subst (λ (e : Status). IsConversation e s s' k k') (sym is) ended

-- ---- what a session that goes on fulfils

-- no read and no write failed, so there is room to count one
pub talking_room : (s' : SourceView) (k' : SinkView) (s'' : SourceView) (k'' : SinkView) (held held' : HeldLineView) (piece piece' : List ℕ) (session session' : Session)
    → IsTalking s' k' held piece session
    → ((s : SourceView) (k : SinkView) → Talked s s' k k' held piece session → Talked s s'' k k'' held' piece' session')
    → (s''.faults < 2 ^ 64 - 1) × (k''.faults < 2 ^ 64 - 1)
talking_room s' k' s'' k'' held held' piece piece' session session' talking goes =
    let now = goes talking.source talking.sink talking.talked in
    (omega (arith, now.calm, talking.source_room), omega (arith, now.gave.calm, talking.sink_room))

pub talking_on : (s' : SourceView) (k' : SinkView) (s'' : SourceView) (k'' : SinkView) (held held' : HeldLineView) (piece piece' : List ℕ) (session session' : Session)
    → IsTalking s' k' held piece session
    → ((s : SourceView) (k : SinkView) → Talked s s' k k' held piece session → Talked s s'' k k'' held' piece' session')
    → IsTalking s'' k'' held' piece' session'
talking_on s' k' s'' k'' held held' piece piece' session session' talking goes = record {
  source = talking.source;
  sink = talking.sink;
  talked = goes talking.source talking.sink talking.talked;
  source_room = talking.source_room;
  sink_room = talking.sink_room;
}

-- before a line is answered it is one of fewer than 64 bits count
pub talked_reached : (s s' : SourceView) (k k' : SinkView) (held : HeldLineView) (piece : List ℕ) (session : Session) → Talked s s' k k' (with_one_turn_less held) piece session
    → 0 < held.turns → held.turns < 2 ^ 64 → IsReached session
talked_reached s s' k k' held piece session talked some small = record {
  lines = talked.lines;
  few = omega (arith, talked.few);
  now = talked.now;
}
