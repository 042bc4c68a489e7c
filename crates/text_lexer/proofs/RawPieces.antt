-- For `first_line`: lines of bytes, one after another.
use Rattle.std.proofs.Common.{◌≡◌, ℕ, ◌+◌, ◌-◌, ◌<◌, ◌≤◌, Bool, true, false, nat_eq, nat_lt, cond, List, [], ◌∷◌, length, take, drop, Option, Some, None, position, refl, sym, ap, ◌∙◌, subst, arith}
use Rattle.std.specs.List.{slice_split, position_or_len, before_first, after_first}
use Rattle.std.proofs.lemmas.Bool.{cond-true, cond-false, false_from_ne_true, ltb-true, ltb-false, lt-ltb, le-ltb, ne_eqb}
use Rattle.std.proofs.lemmas.List.{length-drop, length-take-le}
use Rattle.std.proofs.lemmas.List.Sums.{fails_before_first, position_or_len_is}
use Rattle.std.proofs.lemmas.List.Splits.{slice_split_first, slice_split_none, length-slice_split}
use Rattle.memchr.specs.Find.{IsFirstByte, is_byte}
use Rattle.text_lexer.specs.Lines.{RawLine, raw_line, is_newline, lines_of_pieces, lines_from}

-- a piece that others follow ends
piece_ends : (number start : ℕ) (text : List ℕ) (pieces : List (List ℕ)) → 0 < length pieces →
    lines_of_pieces number start (text ∷ pieces) ≡ raw_line number start text true ∷ lines_of_pieces (number + 1)
    (start + length text + 1) pieces
piece_ends number start text [] some = absurd (omega arith)
piece_ends number start text (next ∷ pieces) some = refl

-- a line up to the first newline, and what follows it
pub lines_from-newline : (number start : ℕ) (bytes : List ℕ) → position_or_len is_newline bytes < length bytes →
    lines_from number start bytes ≡ raw_line number start (before_first is_newline bytes) true
    ∷ lines_from (number + 1) (start + position_or_len is_newline bytes + 1) (after_first is_newline bytes)
unfolding lines_from
lines_from-newline number start bytes within =
    let n = position_or_len is_newline bytes in
    let rest = slice_split is_newline (after_first is_newline bytes) in
    let len : length (take n bytes) ≡ n = length-take-le n bytes (omega arith) in
    ap (lines_of_pieces number start) (slice_split_first is_newline bytes 10 within)
    ∙ piece_ends number start (take n bytes) rest (omega (
      arith,
      length-slice_split is_newline
          (after_first is_newline bytes),
    ))
    ∙ ap (λ (k : ℕ). raw_line number start (take n bytes) true ∷ lines_of_pieces (number + 1) (start + k + 1) rest) len

-- bytes without a newline are a line that does not end
pub lines_from-none : (number start : ℕ) (bytes : List ℕ) → 0 < length bytes
    → length bytes ≤ position_or_len is_newline bytes →
    lines_from number start bytes ≡ raw_line number start bytes false ∷ []
unfolding lines_from
lines_from-none number start bytes some past =
    ap (lines_of_pieces number start) (slice_split_none is_newline bytes
    (λ k d below. fails_before_first is_newline bytes k d (omega arith)))
    ∙ cond-false (nat_eq (length bytes) 0) [] (raw_line number start bytes false ∷ [])
    (ne_eqb (length bytes) 0 (λ none. omega arith))

-- no bytes, no lines
pub lines_from-nil : (number start : ℕ) → lines_from number start [] ≡ []
unfolding lines_from
lines_from-nil number start = refl

-- the first place of a newline, as `position` gives it
place_of : (bytes : List ℕ) (n : ℕ) → position is_newline bytes ≡ Some n
    → (position_or_len is_newline bytes ≡ n) × (n < length bytes)
place_of bytes n e = of_test (nat_lt (position_or_len is_newline bytes) (length bytes)) refl e
  where
    of_test : (b : Bool) → nat_lt (position_or_len is_newline bytes) (length bytes) ≡ b
        → cond b (Some (position_or_len is_newline bytes)) None ≡ Some n →
        (position_or_len is_newline bytes ≡ n) × (n < length bytes)
    of_test true is e = let same : position_or_len is_newline bytes ≡ n =
        cc in (
          same,
          subst (λ (k : ℕ). k < length bytes) same
              (ltb-true (position_or_len is_newline bytes) (length bytes) is),
        )
    of_test false is e = absurd cc

no_place : (bytes : List ℕ) → position is_newline bytes ≡ None → length bytes ≤ position_or_len is_newline bytes
no_place bytes e = of_test (nat_lt (position_or_len is_newline bytes) (length bytes)) refl e
  where
    of_test : (b : Bool) → nat_lt (position_or_len is_newline bytes) (length bytes) ≡ b
        → cond b (Some (position_or_len is_newline bytes)) None ≡ None
        → length bytes ≤ position_or_len is_newline bytes
    of_test true is e = absurd cc
    of_test false is e = ltb-false (position_or_len is_newline bytes) (length bytes) is

-- a search for that byte gives the same place
pub place_searched : (bytes : List ℕ) (found : Option ℕ) → IsFirstByte (is_byte 10) bytes found → found ≡ position is_newline bytes
place_searched bytes None nowhere =
    let n = position_or_len is_newline bytes in
    let past : n ≡ length bytes = position_or_len_is is_newline bytes (length bytes) 0 (omega arith)
    (λ k below. false_from_ne_true _ (nowhere k (omega arith) below)) (λ within. absurd (omega arith)) in
    sym (cond-false (nat_lt n (length bytes)) (Some n) None (le-ltb n (length bytes) (omega arith)))
place_searched bytes (Some k) is_first =
    let n = position_or_len is_newline bytes in
    let place : n ≡ k = position_or_len_is is_newline bytes k 0 (omega (arith, is_first.0.high))
    (λ j below. false_from_ne_true _ (is_first.0.before j (omega arith) below)) (λ within. is_first.1) in
    sym (cond-true (nat_lt n (length bytes)) (Some n) None (lt-ltb n (length bytes) (omega (arith, is_first.0.high)))
    ∙ ap Some place)

-- the first line by that place
pub ended_line : (number start : ℕ) (bytes rest : List ℕ) (n : ℕ) → position is_newline bytes ≡ Some n
    → rest ≡ drop (n + 1) bytes →
    lines_from number start bytes ≡ raw_line number start (take n bytes) true ∷ lines_from (number + 1)
    (start + (length bytes - length rest)) rest
ended_line number start bytes rest n e is_rest =
    let place = place_of bytes n e in
    let within : n < length bytes = place.1 in
    let taken : start + n + 1 ≡ start + (length bytes - length rest) =
    omega (arith, ap length is_rest, length-drop (n + 1) bytes) in
    lines_from-newline number start bytes (omega (arith, place.0))
    ∙ ap (λ (k : ℕ). raw_line number start (take k bytes) true ∷ lines_from (number + 1) (start + k + 1)
    (drop (k + 1) bytes)) place.0
    ∙ ap (λ (k : ℕ). raw_line number start (take n bytes) true ∷ lines_from (number + 1) k (drop (n + 1) bytes)) taken
    ∙ ap (λ (bs : List ℕ). raw_line number start (take n bytes) true ∷ lines_from (number + 1)
    (start + (length bytes - length rest)) bs) (sym is_rest)

pub last_line : (number start : ℕ) (bytes rest : List ℕ) → 0 < length bytes → position is_newline bytes ≡ None
    → rest ≡ [] →
    lines_from number start bytes ≡ raw_line number start bytes false ∷ lines_from (number + 1)
    (start + (length bytes - length rest)) rest
last_line number start bytes rest some e is_rest =
    lines_from-none number start bytes some (no_place bytes e)
    ∙ ap (λ (lines : List RawLine). raw_line number start bytes false ∷ lines)
    (sym (lines_from-nil (number + 1) (start + (length bytes - length rest))))
    ∙ ap (λ (bs : List ℕ). raw_line number start bytes false ∷ lines_from (number + 1)
    (start + (length bytes - length rest)) bs) (sym is_rest)
