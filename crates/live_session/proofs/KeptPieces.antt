-- Serves `conversing.rt` and `held.rt`: what is given for an input, by what is kept of its pieces.
use Rattle.std.proofs.Common.{◌≡◌, ◌+◌, ◌-◌, ◌<◌, ◌∙◌, ℕ, List, [], ◌∷◌, ◌++◌, length, map, take, drop, get_or, refl, sym, ap, arith, append_assoc, append-nil}
use Rattle.std.proofs.lemmas.List.{get_or-map, length-map, take-map}
use Rattle.live_session.specs.Sessions.{Session, session_begun, pieces_of, whole_lines, last_piece, answers, closing_text, session_after, ending_text, answers_of, session_text}
use Rattle.live_session.specs.Internal.Held.{HasNewlineAt, HasNoNewline, kept, kept_pieces}
use Rattle.live_session.proofs.Pieces.{answers-append, cut_whole, last_of, line_cut, rest_cut, some_pieces}
use Rattle.live_session.proofs.Kept.{answers-kept, ending_text-kept, session_after-kept}

-- ---- pieces as they are kept

-- a first line, and what follows it
pub line_kept : (bytes more : List ℕ) (len : ℕ) → HasNewlineAt bytes len
    → kept_pieces (bytes ++ more) ≡ kept (take len bytes) ∷ kept_pieces (drop (len + 1) bytes ++ more)
line_kept bytes more len has = ap (map kept) (line_cut bytes more len has)

-- bytes without a newline are one piece
pub rest_kept : (bytes : List ℕ) → HasNoNewline bytes → kept_pieces bytes ≡ kept bytes ∷ []
rest_kept bytes none = ap (map kept) (rest_cut bytes none)

some_kept : (bytes : List ℕ) → 0 < length (kept_pieces bytes)
some_kept bytes = omega (arith, some_pieces bytes, length-map (pieces_of bytes) kept)

-- all pieces but the last
abbrev front_of : List (List ℕ) → List (List ℕ)
front_of pieces = take (length pieces - 1) pieces

-- the last piece
abbrev last_in : List (List ℕ) → List ℕ
last_in pieces = get_or pieces (length pieces - 1) []

whole_lines-kept : (input : List ℕ) → map kept (whole_lines input) ≡ front_of (kept_pieces input)
unfolding whole_lines
whole_lines-kept input =
    sym (take-map kept (length (pieces_of input) - 1) (pieces_of input))
    ∙ ap (λ (n : ℕ). take (n - 1) (kept_pieces input)) (sym (length-map (pieces_of input) kept))

last_piece-kept : (input : List ℕ) → kept (last_piece input) ≡ last_in (kept_pieces input)
unfolding last_piece
last_piece-kept input =
    sym (get_or-map kept (pieces_of input) (length (pieces_of input) - 1) [] [] (omega (arith, some_pieces input)))
    ∙ ap (λ (n : ℕ). get_or (kept_pieces input) (n - 1) []) (sym (length-map (pieces_of input) kept))

-- ---- what is given for an input

pub answers_of-kept : (input : List ℕ) → answers_of input ≡ answers session_begun (front_of (kept_pieces input))
unfolding answers_of
answers_of-kept input = sym (answers-kept session_begun (whole_lines input)) ∙ ap (answers session_begun) (whole_lines-kept input)

session_text-kept : (input : List ℕ)
    → session_text input ≡ answers session_begun (front_of (kept_pieces input)) ++ ending_text (session_after session_begun (front_of (kept_pieces input))) (last_in (kept_pieces input))
unfolding session_text
session_text-kept input =
    ap (λ (t : List ℕ). t ++ ending_text (session_after session_begun (whole_lines input)) (last_piece input)) (answers_of-kept input)
    ∙ ap (λ (x : Session). answers session_begun (front_of (kept_pieces input)) ++ ending_text x (last_piece input))
    (sym (session_after-kept session_begun (whole_lines input)) ∙ ap (session_after session_begun) (whole_lines-kept input))
    ∙ ap (λ (t : List ℕ). answers session_begun (front_of (kept_pieces input)) ++ t)
    (sym (ending_text-kept (session_after session_begun (front_of (kept_pieces input))) (last_piece input))
    ∙ ap (ending_text (session_after session_begun (front_of (kept_pieces input)))) (last_piece-kept input))

-- where no line is left
front_whole : (input : List ℕ) (lines : List (List ℕ)) (rest : List ℕ) → kept_pieces input ≡ lines ++ rest ∷ [] → front_of (kept_pieces input) ≡ lines
front_whole input lines rest cut = ap front_of cut ∙ cut_whole lines (rest ∷ []) (omega arith) ∙ append-nil lines

pub answers_of-whole : (input : List ℕ) (lines : List (List ℕ)) (rest : List ℕ) → kept_pieces input ≡ lines ++ rest ∷ [] → answers_of input ≡ answers session_begun lines
answers_of-whole input lines rest cut = answers_of-kept input ∙ ap (answers session_begun) (front_whole input lines rest cut)

pub session_text-whole : (input : List ℕ) (lines : List (List ℕ)) (rest : List ℕ) → kept_pieces input ≡ lines ++ rest ∷ []
    → session_text input ≡ answers session_begun lines ++ ending_text (session_after session_begun lines) rest
session_text-whole input lines rest cut =
    session_text-kept input
    ∙ ap (λ (l : List (List ℕ)). answers session_begun l ++ ending_text (session_after session_begun l) (last_in (kept_pieces input))) (front_whole input lines rest cut)
    ∙ ap (λ (t : List ℕ). answers session_begun lines ++ ending_text (session_after session_begun lines) t) (ap last_in cut ∙ last_of lines rest)

-- what is given for an input begins with the answers to lines that it begins with
pub session_text-front : (input : List ℕ) (lines : List (List ℕ)) (held : List ℕ) → kept_pieces input ≡ lines ++ kept_pieces held
    → (rest : List ℕ) × (session_text input ≡ answers session_begun lines ++ rest)
session_text-front input lines held cut =
    let ending : List ℕ = ending_text (session_after session_begun (front_of (kept_pieces input))) (last_in (kept_pieces input)) in
    let more : List ℕ = answers (session_after session_begun lines) (front_of (kept_pieces held)) in (
      more ++ ending,
      session_text-kept input
          ∙ ap (λ (t : List ℕ). t ++ ending)
          (ap (answers session_begun) (ap front_of cut ∙ cut_whole lines (kept_pieces held) (some_kept held)) ∙ answers-append session_begun lines (front_of (kept_pieces held)))
          ∙ append_assoc (answers session_begun lines) more ending,
    )

-- nothing is given for no byte
pub session_text-none : session_text [] ≡ []
unfolding session_text answers_of whole_lines last_piece ending_text closing_text
session_text-none = refl
