-- Serves `conversing.rt` and `held.rt`: the lines of bytes that were cut at newlines, and the answers to them.
use Rattle.std.proofs.Common.{◌≡◌, ◌+◌, ◌-◌, ◌<◌, ◌∙◌, ℕ, suc, List, [], ◌∷◌, ◌++◌, length, take, drop, get_or, refl, sym, ap, arith, append_assoc, append-nil, length-append, take-append-drop, zero-add}
use Rattle.std.proofs.lemmas.List.{drop_more, get_or-append_right}
use Rattle.std.proofs.lemmas.List.Splits.{slice_split_at, slice_split_none, length-slice_split}
use Rattle.text_lexer.specs.Lines.{is_newline}
use Rattle.live_session.specs.Sessions.{Session, pieces_of, whole_lines, line_answer, answers, session_after}
use Rattle.live_session.specs.Internal.Held.{HasNewlineAt, HasNoNewline}

-- ---- answers to lines one after another

pub answers-append : (s : Session) (xs ys : List (List ℕ)) → answers s (xs ++ ys) ≡ answers s xs ++ answers (session_after s xs) ys
answers-append s [] ys = refl
answers-append s (x ∷ xs) ys =
    ap (λ (t : List ℕ). (line_answer s x).text ++ t) (answers-append (line_answer s x).session xs ys)
    ∙ sym (append_assoc (line_answer s x).text (answers (line_answer s x).session xs) (answers (session_after (line_answer s x).session xs) ys))

pub session_after-append : (s : Session) (xs ys : List (List ℕ)) → session_after s (xs ++ ys) ≡ session_after (session_after s xs) ys
session_after-append s [] ys = refl
session_after-append s (x ∷ xs) ys = session_after-append (line_answer s x).session xs ys

-- ---- the pieces of bytes

-- as many of two lists as the first has, and some more
take_past : (xs ys : List (List ℕ)) (n : ℕ) → take (length xs + n) (xs ++ ys) ≡ xs ++ take n ys
take_past [] ys n = ap (λ (k : ℕ). take k ys) (zero-add n)
take_past (x ∷ xs) ys n = ap (λ (k : ℕ). take k (x ∷ (xs ++ ys))) (next (length xs) n) ∙ ap (λ (l : List (List ℕ)). x ∷ l) (take_past xs ys n)
  where
    next : (a n : ℕ) → suc a + n ≡ suc (a + n)
    next a n = omega arith

-- pieces have a last one
pub cut_whole : (lines ps : List (List ℕ)) → 0 < length ps → take (length (lines ++ ps) - 1) (lines ++ ps) ≡ lines ++ take (length ps - 1) ps
cut_whole lines ps some =
    let count : length (lines ++ ps) - 1 ≡ length lines + (length ps - 1) = omega (arith, length-append lines ps) in
    ap (λ (n : ℕ). take n (lines ++ ps)) count ∙ take_past lines ps (length ps - 1)

pub some_pieces : (bytes : List ℕ) → 0 < length (pieces_of bytes)
some_pieces bytes = omega (arith, length-slice_split is_newline bytes)

pub last_of : (lines : List (List ℕ)) (rest : List ℕ) → get_or (lines ++ rest ∷ []) (length (lines ++ rest ∷ []) - 1) [] ≡ rest
last_of lines rest =
    let place : length (lines ++ rest ∷ []) - 1 ≡ length lines = omega (arith, length-append lines (rest ∷ [])) in
    let none : length lines - length lines ≡ 0 = omega arith in
    ap (λ (n : ℕ). get_or (lines ++ rest ∷ []) n []) place
    ∙ get_or-append_right lines (rest ∷ []) (length lines) (length lines) [] refl (omega arith)
    ∙ ap (λ (n : ℕ). get_or (rest ∷ []) n []) none

-- a first line, and what follows it
pub line_cut : (bytes more : List ℕ) (len : ℕ) → HasNewlineAt bytes len
    → pieces_of (bytes ++ more) ≡ take len bytes ∷ pieces_of (drop (len + 1) bytes ++ more)
line_cut bytes more len has =
    let parts : bytes ≡ take len bytes ++ 10 ∷ drop (len + 1) bytes = line_parts bytes len has in
    ap (λ (b : List ℕ). pieces_of (b ++ more)) parts
    ∙ ap pieces_of (append_assoc (take len bytes) (10 ∷ drop (len + 1) bytes) more)
    ∙ slice_split_at is_newline (take len bytes) 10 (drop (len + 1) bytes ++ more) has.single refl
  where
    line_parts : (bytes : List ℕ) (len : ℕ) → HasNewlineAt bytes len → bytes ≡ take len bytes ++ 10 ∷ drop (len + 1) bytes
    line_parts bytes len has =
        sym (take-append-drop len bytes) ∙ ap (λ (l : List ℕ). take len bytes ++ l)
        (drop_more bytes len 0 has.within ∙ ap (λ (c : ℕ). c ∷ drop (len + 1) bytes) has.newline)

-- bytes without a newline are one piece
pub rest_cut : (bytes : List ℕ) → HasNoNewline bytes → pieces_of bytes ≡ bytes ∷ []
rest_cut bytes none = slice_split_none is_newline bytes none

-- where no line is left
pub whole_lines-cut : (input : List ℕ) (lines : List (List ℕ)) (rest : List ℕ) → pieces_of input ≡ lines ++ rest ∷ [] → whole_lines input ≡ lines
unfolding whole_lines
whole_lines-cut input lines rest cut =
    ap (λ (l : List (List ℕ)). take (length l - 1) l) cut ∙ cut_whole lines (rest ∷ []) (omega arith) ∙ append-nil lines
