-- Serves `laws.rt`: what was answered stays.
use Rattle.std.proofs.Common.{◌≡◌, ◌-◌, ◌<◌, ◌∙◌, ℕ, Bool, true, false, List, [], ◌∷◌, ◌++◌, length, take, refl, sym, ap, arith, length-append}
use Rattle.std.specs.List.{onto_first}
use Rattle.std.proofs.lemmas.List.Splits.{slice_split-cons_yes, slice_split-cons_no, length-slice_split}
use Rattle.text_lexer.specs.Lines.{is_newline}
use Rattle.live_session.specs.Sessions.{session_begun, pieces_of, whole_lines, last_piece, answers, session_after, answers_of, session_text, ending_text}
use Rattle.live_session.proofs.Pieces.{answers-append, cut_whole, some_pieces, whole_lines-cut}

-- a list with an element is the first ones and a last one
pub record IsEnded (xs : List (List ℕ)) : Type 0 where
  pub front : List (List ℕ)
  pub last : List ℕ
  pub is : xs ≡ front ++ last ∷ []

ended : (x : List ℕ) (xs : List (List ℕ)) → IsEnded (x ∷ xs)
ended x [] = record { front = []; last = x; is = refl }
ended x (y ∷ ys) = let rest = ended y ys in record {
  front = x ∷ rest.front;
  last = rest.last;
  is = ap (λ (l : List (List ℕ)). x ∷ l) rest.is;
}

pub ended_pieces : (xs : List (List ℕ)) → 0 < length xs → IsEnded xs
ended_pieces [] some = absurd (omega arith)
ended_pieces (x ∷ xs) some = ended x xs

-- no list with a last element is empty
not_ended : {A : Type 0} (front : List (List ℕ)) (last : List ℕ) → [] ≡ front ++ last ∷ [] → A
not_ended front last is = absurd (omega (arith, ap length is, length-append front (last ∷ [])))

-- what is behind the last newline goes on with more bytes
split_more : (input more : List ℕ) (front : List (List ℕ)) (last : List ℕ) → pieces_of input ≡ front ++ last ∷ []
    → pieces_of (input ++ more) ≡ front ++ pieces_of (last ++ more)
split_more [] more [] last is = ap (λ (p : List ℕ). pieces_of (p ++ more)) (first_is is)
  where
    first_is : ([] ∷ []) ≡ last ∷ [] → [] ≡ last
    first_is e = cc
split_more [] more (x ∷ xs) last is = not_ended xs last (rest_is is)
  where
    rest_is : ([] ∷ []) ≡ x ∷ (xs ++ last ∷ []) → [] ≡ xs ++ last ∷ []
    rest_is e = cc
split_more (c ∷ cs) more front last is = by_test (is_newline c) refl (split_more cs more)
  where
    newline : (front : List (List ℕ)) → ((front : List (List ℕ)) (last : List ℕ) → pieces_of cs ≡ front ++ last ∷ [] → pieces_of (cs ++ more) ≡ front ++ pieces_of (last ++ more))
        → [] ∷ pieces_of cs ≡ front ++ last ∷ [] → [] ∷ pieces_of (cs ++ more) ≡ front ++ pieces_of (last ++ more)
    newline [] later e = absurd (omega (arith, ap length e, length-slice_split is_newline cs))
    newline (x ∷ xs) later e =
        let first : [] ≡ x = cc in
        let rest : pieces_of cs ≡ xs ++ last ∷ [] = cc in
        ap (λ (l : List (List ℕ)). [] ∷ l) (later xs last rest) ∙ ap (λ (y : List ℕ). y ∷ (xs ++ pieces_of (last ++ more))) first

    other : (q : List ℕ) (qs : List (List ℕ)) → pieces_of cs ≡ q ∷ qs → is_newline c ≡ false → (front : List (List ℕ))
        → ((front : List (List ℕ)) (last : List ℕ) → pieces_of cs ≡ front ++ last ∷ [] → pieces_of (cs ++ more) ≡ front ++ pieces_of (last ++ more))
        → (c ∷ q) ∷ qs ≡ front ++ last ∷ [] → onto_first c (pieces_of (cs ++ more)) ≡ front ++ pieces_of (last ++ more)
    other q qs of unlike [] later e =
        let first : c ∷ q ≡ last = cc in
        let rest : qs ≡ [] = cc in
        ap (onto_first c) (later [] q (of ∙ ap (λ (l : List (List ℕ)). q ∷ l) rest))
        ∙ sym (slice_split-cons_no is_newline c (q ++ more) unlike) ∙ ap (λ (l : List ℕ). pieces_of (l ++ more)) first
    other q qs of unlike (x ∷ xs) later e =
        let first : c ∷ q ≡ x = cc in
        let rest : qs ≡ xs ++ last ∷ [] = cc in
        ap (onto_first c) (later (q ∷ xs) last (of ∙ ap (λ (l : List (List ℕ)). q ∷ l) rest))
        ∙ ap (λ (y : List ℕ). y ∷ (xs ++ pieces_of (last ++ more))) first

    by_pieces : (ps : List (List ℕ)) → pieces_of cs ≡ ps → 0 < length ps → is_newline c ≡ false
        → ((front : List (List ℕ)) (last : List ℕ) → pieces_of cs ≡ front ++ last ∷ [] → pieces_of (cs ++ more) ≡ front ++ pieces_of (last ++ more))
        → onto_first c ps ≡ front ++ last ∷ [] → onto_first c (pieces_of (cs ++ more)) ≡ front ++ pieces_of (last ++ more)
    by_pieces [] of some unlike later e = absurd (omega arith)
    by_pieces (q ∷ qs) of some unlike later e = other q qs of unlike front later e

    by_test : (t : Bool) → is_newline c ≡ t
        → ((front : List (List ℕ)) (last : List ℕ) → pieces_of cs ≡ front ++ last ∷ [] → pieces_of (cs ++ more) ≡ front ++ pieces_of (last ++ more))
        → pieces_of (c ∷ cs ++ more) ≡ front ++ pieces_of (last ++ more)
    by_test true alike later = slice_split-cons_yes is_newline c (cs ++ more) alike
        ∙ newline front later (sym (slice_split-cons_yes is_newline c cs alike) ∙ is)
    by_test false unlike later = slice_split-cons_no is_newline c (cs ++ more) unlike
        ∙ by_pieces (pieces_of cs) refl (some_pieces cs) unlike later (sym (slice_split-cons_no is_newline c cs unlike) ∙ is)

lines_more : (input more : List ℕ) (front : List (List ℕ)) (last : List ℕ) → pieces_of input ≡ front ++ last ∷ []
    → whole_lines (input ++ more) ≡ front ++ whole_lines (last ++ more)
unfolding whole_lines
lines_more input more front last is =
    ap (λ (l : List (List ℕ)). take (length l - 1) l) (split_more input more front last is)
    ∙ cut_whole front (pieces_of (last ++ more)) (some_pieces (last ++ more))

pub answers-stay : (input more : List ℕ) → (rest : List ℕ) × (answers_of (input ++ more) ≡ answers_of input ++ rest)
unfolding answers_of
answers-stay input more =
    let cut = ended_pieces (pieces_of input) (some_pieces input) in
    let others : List (List ℕ) = whole_lines (cut.last ++ more) in (
      answers (session_after session_begun cut.front) others,
      ap (answers session_begun) (lines_more input more cut.front cut.last cut.is) ∙ answers-append session_begun cut.front others
          ∙ ap (λ (l : List (List ℕ)). answers session_begun l ++ answers (session_after session_begun cut.front) others) (sym (whole_lines-cut input cut.front cut.last cut.is)),
    )

pub session_text-begins : (input : List ℕ) → (rest : List ℕ) × (session_text input ≡ answers_of input ++ rest)
unfolding session_text
session_text-begins input = (ending_text (session_after session_begun (whole_lines input)) (last_piece input), refl)
