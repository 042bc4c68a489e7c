-- Serves `held.rt` and `conversing.rt`: what is kept of a line is answered as the line.
use Rattle.std.proofs.Common.{◌≡◌, ◌+◌, ◌<◌, ◌≤◌, ◌∙◌, ◌||◌, ℕ, suc, zero, Bool, true, false, not, nat_eq, nat_lt, List, [], ◌∷◌, ◌++◌, length, map, take, drop, Result, Ok, Err, refl, sym, ap, arith, length-append, take-append-drop, if◌then◌else◌}
use Rattle.std.specs.List.{onto_first}
use Rattle.std.specs.Str.{is_utf8}
use Rattle.std.proofs.lemmas.Bool.{lt-ltb, ltb-true, ltb-false, ne_eqb}
use Rattle.std.proofs.lemmas.List.{length-take-le, take_all}
use Rattle.std.proofs.lemmas.List.Splits.{slice_split-cons_no}
use Rattle.mm_types.specs.Rows.{first_row}
use Rattle.text_lexer.specs.declared.error.Cause.{Cause}
use Rattle.text_lexer.specs.declared.error.Cause.TheVariants.{NoEnd, TooLong, Utf8}
use Rattle.text_lexer.specs.declared.limits.TheConstants.{LINE_LIMIT}
use Rattle.text_lexer.specs.Causes.{◌>>=◌, unless}
use Rattle.text_lexer.specs.Lines.{RawLine, input_limit, is_longer_than, is_newline, raw_line, text_of, text_within}
use Rattle.text_lexer.specs.Words.{words_of}
use Rattle.trace_reader.specs.Lines.{SoFar}
use Rattle.live_session.specs.declared.held.TheConstants.{MOST_KEPT}
use Rattle.live_session.specs.Asking.{asked_by_words, asked_of}
use Rattle.live_session.specs.Sessions.{LineAnswer, Session, session_answer, line_answer, answers, bad_text, closing_text, ending_text, pieces_of, session_after, unended_text}
use Rattle.live_session.specs.Internal.Held.{HasNoNewline, kept, kept_pieces}
use Rattle.live_session.proofs.Newlines.{none_take}
use Rattle.live_session.proofs.Pieces.{some_pieces}

-- ---- a line that is too long

-- more bytes than a line may have
abbrev IsLong : List ℕ → Bool
IsLong text = nat_lt LINE_LIMIT (length text)

too_long : (number : ℕ) (text : List ℕ) (ended : Bool) → IsLong text ≡ true → text_of (raw_line number 0 text ended) ≡ Err TooLong
unfolding text_within is_longer_than
too_long number text ended long =
    ap (λ (b : Bool). unless (first_row ((b || nat_lt input_limit (0 + length text + 1), TooLong) ∷ (not ended, NoEnd) ∷ (not (is_utf8 text), Utf8) ∷ [])) (Ok text)) long

-- as much as is kept of it shows it
kept_long : (text : List ℕ) → IsLong text ≡ true → IsLong (kept text) ≡ true
kept_long text long =
    let more : LINE_LIMIT < length text = ltb-true LINE_LIMIT (length text) long in
    lt-ltb LINE_LIMIT (length (kept text)) (omega (arith, length-take-le MOST_KEPT text (omega (arith, more))))

-- all is kept of another
kept_short : (text : List ℕ) → IsLong text ≡ false → kept text ≡ text
kept_short text short = take_all MOST_KEPT text (omega (arith, ltb-false LINE_LIMIT (length text) short))

pub length-kept : (text : List ℕ) → length (kept text) ≤ length text
length-kept text = omega (arith, ap length (take-append-drop MOST_KEPT text), length-append (kept text) (drop MOST_KEPT text))

-- ---- it is answered alike

asked_long : (so_far : SoFar) (line : RawLine) → text_of line ≡ Err TooLong → asked_of so_far line ≡ Err TooLong
unfolding asked_of
asked_long so_far line long = ap (λ r. r >>= λ text. asked_by_words so_far line (words_of text)) long

pub answered-kept : (s : Session) (text : List ℕ) → line_answer s (kept text) ≡ line_answer s text
unfolding line_answer
answered-kept s text = by_length (IsLong text) refl
  where
    by_length : (b : Bool) → IsLong text ≡ b → line_answer s (kept text) ≡ line_answer s text
    by_length true long = ap (session_answer s)
        (asked_long s.so_far (raw_line (s.count + 1) 0 (kept text) true) (too_long (s.count + 1) (kept text) true (kept_long text long))
        ∙ sym (asked_long s.so_far (raw_line (s.count + 1) 0 text true) (too_long (s.count + 1) text true long)))
    by_length false short = ap (line_answer s) (kept_short text short)

ending_long : (s : Session) (text : List ℕ) → IsLong text ≡ true → ending_text s text ≡ bad_text (s.count + 1) TooLong ++ closing_text s
unfolding ending_text
ending_long s text long =
    ap (λ (b : Bool). (if b then [] else unended_text (s.count + 1) (text_of (raw_line (s.count + 1) 0 text false))) ++ closing_text s) (some_bytes text long)
    ∙ ap (λ (r : Result (List ℕ) Cause). unended_text (s.count + 1) r ++ closing_text s) (too_long (s.count + 1) text false long)
  where
    some_bytes : (text : List ℕ) → IsLong text ≡ true → nat_eq (length text) 0 ≡ false
    some_bytes text long = ne_eqb (length text) 0 (λ none. omega (arith, none, ltb-true LINE_LIMIT (length text) long))

pub ending_text-kept : (s : Session) (text : List ℕ) → ending_text s (kept text) ≡ ending_text s text
ending_text-kept s text = by_length (IsLong text) refl
  where
    by_length : (b : Bool) → IsLong text ≡ b → ending_text s (kept text) ≡ ending_text s text
    by_length true long = ending_long s (kept text) (kept_long text long) ∙ sym (ending_long s text long)
    by_length false short = ap (ending_text s) (kept_short text short)

-- ---- lines one after another

pub answers-kept : (s : Session) (lines : List (List ℕ)) → answers s (map kept lines) ≡ answers s lines
answers-kept s [] = refl
answers-kept s (line ∷ lines) =
    ap (λ (a : LineAnswer). a.text ++ answers a.session (map kept lines)) (answered-kept s line)
    ∙ ap (λ (t : List ℕ). (line_answer s line).text ++ t) (answers-kept (line_answer s line).session lines)

pub session_after-kept : (s : Session) (lines : List (List ℕ)) → session_after s (map kept lines) ≡ session_after s lines
session_after-kept s [] = refl
session_after-kept s (line ∷ lines) =
    ap (λ (a : LineAnswer). session_after a.session (map kept lines)) (answered-kept s line) ∙ session_after-kept (line_answer s line).session lines

-- ---- of bytes without a newline what is kept may stand for them

-- a first piece begins with them
prefixed : (bytes more first : List ℕ) (others : List (List ℕ)) → HasNoNewline bytes → pieces_of more ≡ first ∷ others
    → pieces_of (bytes ++ more) ≡ (bytes ++ first) ∷ others
prefixed [] more first others none is = is
prefixed (c ∷ cs) more first others none is =
    slice_split-cons_no is_newline c (cs ++ more) (none 0 0 (omega arith))
    ∙ ap (onto_first c) (prefixed cs more first others (λ k d below. none (suc k) d (omega (arith, below))) is)

take_again : (count : ℕ) (xs ys : List ℕ) → take count (take count xs ++ ys) ≡ take count (xs ++ ys)
take_again zero xs ys = refl
take_again (suc count) [] ys = refl
take_again (suc count) (x ∷ xs) ys = ap (λ (l : List ℕ). x ∷ l) (take_again count xs ys)

pub kept_pieces-kept : (bytes more : List ℕ) → HasNoNewline bytes → kept_pieces (bytes ++ more) ≡ kept_pieces (kept bytes ++ more)
kept_pieces-kept bytes more none = by_pieces (pieces_of more) refl
  where
    by_pieces : (pieces : List (List ℕ)) → pieces_of more ≡ pieces → kept_pieces (bytes ++ more) ≡ kept_pieces (kept bytes ++ more)
    by_pieces [] is = absurd (omega (arith, ap length is, some_pieces more))
    by_pieces (first ∷ others) is =
        ap (map kept) (prefixed bytes more first others none is)
        ∙ ap (λ (l : List ℕ). l ∷ map kept others) (sym (take_again MOST_KEPT bytes first))
        ∙ sym (ap (map kept) (prefixed (kept bytes) more first others (none_take bytes MOST_KEPT none) is))
