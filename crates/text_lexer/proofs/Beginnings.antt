-- For `front_is_enough` and `traces_fit`: one byte more than the limit of a file is enough to read it.
use Rattle.std.proofs.Common.{◌≡◌, ℕ, zero, suc, ◌+◌, ◌-◌, ◌<◌, ◌≤◌, Bool, true, false, nat_eq, nat_lt, List, [], ◌∷◌, length, take, drop, Result, Ok, Err, if◌then◌else◌, refl, sym, ap, ◌∙◌, inl, inr, arith}
use Rattle.std.specs.List.{position_or_len, before_first, after_first}
use Rattle.std.proofs.lemmas.Bool.{cases_lt, lt-ltb, or_right}
use Rattle.std.proofs.lemmas.Bool.Decides.{nat_tests}
use Rattle.std.proofs.lemmas.List.{take_all, take-take, drop-take, length-take, length-drop, get_or-take, length-take-le}
use Rattle.std.proofs.lemmas.List.Sums.{position_or_len_is, fails_before_first, passes_at_first}
use Rattle.text_lexer.specs.declared.error.Cause.{Cause}
use Rattle.text_lexer.specs.declared.error.Cause.TheVariants.{Header, TooLong}
use Rattle.text_lexer.specs.declared.error.BadLine.{BadLine}
use Rattle.text_lexer.specs.declared.limits.TheConstants.{LINE_LIMIT}
use Rattle.text_lexer.specs.Causes.{◌>>=◌}
use Rattle.text_lexer.specs.BadLines.{bad_line, at_line, lines_leave}
use Rattle.text_lexer.specs.Lines.{input_limit, RawLine, raw_line, raw_lines, is_newline, lines_from}
use Rattle.text_lexer.specs.Words.{words_of}
use Rattle.text_lexer.proofs.LineTests.{text_within-past}
use Rattle.text_lexer.proofs.RawPieces.{lines_from-newline, lines_from-none}
use Rattle.text_lexer.proofs.WordParts.{position_or_len-le}

-- a step that refuses each line whose newline would be past the limit, for that cause
abbrev pub IsLimited : {S : Type 0} → ℕ → (S → RawLine → Result S Cause) → Type 0
IsLimited {S} limit step = (before : S) (line : RawLine) → limit < line.start + length line.text + 1 → step before line ≡ Err TooLong

stops : {S : Type 0} (limit : ℕ) (step : S → RawLine → Result S Cause) (limited : IsLimited limit step) (before : S) (line : RawLine) (more : List RawLine)
    → limit < line.start + length line.text + 1
    → lines_leave step before (line ∷ more) ≡ Err (bad_line line.number TooLong)
stops {S} limit step limited before line more past =
    ap (λ (r : Result S Cause). at_line line.number r (λ next. lines_leave step next more)) (limited before line past)

-- bytes that hold no newline up to the limit stop it in their first line
stops_in_first : {S : Type 0} (limit : ℕ) (step : S → RawLine → Result S Cause) (limited : IsLimited limit step) (before : S) (number start : ℕ) (bytes : List ℕ) → 0 < length bytes
    → limit < start + position_or_len is_newline bytes + 1
    → lines_leave step before (lines_from number start bytes) ≡ Err (bad_line number TooLong)
stops_in_first limit step limited before number start bytes some past =
    let n = position_or_len is_newline bytes in
    elim (cases_lt n (length bytes)) [
      | inl within ↦
          let len : length (take n bytes) ≡ n = length-take-le n bytes (omega arith) in
          let more = lines_from (number + 1) (start + n + 1) (after_first is_newline bytes) in
          ap (lines_leave step before) (lines_from-newline number start bytes within)
          ∙ stops limit step limited before (raw_line number start (before_first is_newline bytes) true) more (omega (arith, len))
      | inr none ↦
          ap (lines_leave step before) (lines_from-none number start bytes some none)
          ∙ stops limit step limited before (raw_line number start bytes false) [] (omega (arith, position_or_len-le is_newline bytes))
    ]

-- the first newline of a beginning is that of the whole, where it is there
place_in_front : (m : ℕ) (bytes : List ℕ) → position_or_len is_newline bytes < m → m ≤ length bytes
    → position_or_len is_newline (take m bytes) ≡ position_or_len is_newline bytes
place_in_front m bytes within short =
    let n = position_or_len is_newline bytes in
    position_or_len_is is_newline (take m bytes) n 0 (omega (arith, length-take-le m bytes short))
    (λ k below. ap is_newline (get_or-take m bytes k 0 (omega arith)) ∙ fails_before_first is_newline bytes k 0 below)
    (λ _. ap is_newline (get_or-take m bytes n 0 within) ∙ passes_at_first is_newline bytes 0 (omega arith))

-- and else none is there
no_place_in_front : (m : ℕ) (bytes : List ℕ) → m ≤ position_or_len is_newline bytes → m ≤ length bytes
    → position_or_len is_newline (take m bytes) ≡ m
no_place_in_front m bytes past short =
    let len = length-take-le m bytes short in
    position_or_len_is is_newline (take m bytes) m 0 (omega (arith, len))
    (λ k below. ap is_newline (get_or-take m bytes k 0 below) ∙ fails_before_first is_newline bytes k 0 (omega arith))
    (λ within. absurd (omega (arith, len)))

-- after one line the same follows
same_after : {S : Type 0} (step : S → RawLine → Result S Cause) (number : ℕ) (r : Result S Cause) (xs ys : List RawLine)
    → ((next : S) → lines_leave step next xs ≡ lines_leave step next ys)
    → at_line number r (λ next. lines_leave step next xs) ≡ at_line number r (λ next. lines_leave step next ys)
same_after step number (Ok next) xs ys same = same next
same_after step number (Err cause) xs ys same = refl

-- the lines from an offset on, up to one byte after the limit
IsSettled : {S : Type 0} → (S → RawLine → Result S Cause) → ℕ → ℕ → ℕ → List ℕ → Type 0
IsSettled {S} step m number start bytes = (before : S) → lines_leave step before
    (lines_from number start (take m bytes)) ≡ lines_leave step before (lines_from number start bytes)

-- where the first line ends within the beginning, the rest of it settles the rest
settled_line : {S : Type 0} (step : S → RawLine → Result S Cause) (m number start : ℕ) (bytes : List ℕ) → m ≤ length bytes → position_or_len is_newline bytes < m
    → IsSettled step (m - (position_or_len is_newline bytes + 1)) (number + 1)
    (start + position_or_len is_newline bytes + 1) (after_first is_newline bytes)
    → IsSettled step m number start bytes
unfolding IsSettled
settled_line step m number start bytes short within later = λ before.
    let n = position_or_len is_newline bytes in
    let front = take m bytes in
    let place = place_in_front m bytes within short in
    let line = raw_line number start (take n bytes) true in
    let rest : drop (n + 1) front ≡ take (m - (n + 1)) (drop (n + 1) bytes)
    = let parts : m ≡ (n + 1) + (m - (n + 1)) = omega arith in ap (λ (k : ℕ). drop (n + 1) (take k bytes)) parts
    ∙ drop-take (n + 1) (m - (n + 1)) bytes in
    let len : length front ≡ m = length-take-le m bytes short in
    ap (lines_leave step before) (lines_from-newline number start front (omega (arith, place, len))
    ∙ ap (λ (k : ℕ). raw_line number start (take k front) true ∷ lines_from (number + 1) (start + k + 1)
    (drop (k + 1) front)) place
    ∙ ap (λ (text : List ℕ). raw_line number start text true ∷ lines_from (number + 1) (start + n + 1)
    (drop (n + 1) front)) (take-take n m bytes (omega arith))
    ∙ ap (λ (after : List ℕ). line ∷ lines_from (number + 1) (start + n + 1) after) rest)
    ∙ same_after step number (step before line) (lines_from (number + 1) (start + n + 1)
    (take (m - (n + 1)) (drop (n + 1) bytes))) (lines_from (number + 1) (start + n + 1)
    (drop (n + 1) bytes)) later
    ∙ ap (lines_leave step before) (sym (lines_from-newline number start bytes (omega arith)))

-- where it ends past the limit, or not at all, both stop in it
settled_stop : {S : Type 0} (limit : ℕ) (step : S → RawLine → Result S Cause) (limited : IsLimited limit step) (m number start : ℕ) (bytes : List ℕ) → 0 < m → m ≤ length bytes → m + start ≡ limit + 1
    → m ≤ position_or_len is_newline bytes + 1
    → IsSettled step m number start bytes
unfolding IsSettled
settled_stop limit step limited m number start bytes some short sum past = λ before.
    let len : length (take m bytes) ≡ m = length-take-le m bytes short in
    let place : m ≤ position_or_len is_newline (take m bytes) + 1 =
    elim (cases_lt (position_or_len is_newline bytes) m) [
      | inl within ↦ omega (arith, place_in_front m bytes within short)
      | inr none ↦ omega (arith, no_place_in_front m bytes none short)
    ] in
    stops_in_first limit step limited before number start (take m bytes) (omega (arith, len)) (omega arith)
    ∙ sym (stops_in_first limit step limited before number start bytes (omega arith) (omega arith))

settled : {S : Type 0} (limit : ℕ) (step : S → RawLine → Result S Cause) (limited : IsLimited limit step) (fuel m number start : ℕ) (bytes : List ℕ) → length bytes ≤ fuel → start ≤ limit
    → m + start ≡ limit + 1 → IsSettled step m number start bytes
unfolding IsSettled
settled limit step limited zero m number start bytes few low sum = λ before. ap
    (λ (bs : List ℕ). lines_leave step before (lines_from number start bs)) (take_all m bytes (omega arith))
settled limit step limited (suc fuel) m number start bytes few low sum =
    let n = position_or_len is_newline bytes in
    elim (cases_lt m (length bytes)) [
      | inl long ↦ elim (cases_lt (n + 1) m) [
        | inl within ↦ settled_line step m number start bytes (omega arith) (omega arith)
            (settled limit step limited fuel (m - (n + 1)) (number + 1) (start + n + 1) (after_first is_newline bytes)
            (omega (arith, length-drop (n + 1) bytes)) (omega arith) (omega arith))
        | inr past ↦ settled_stop limit step limited m number start bytes (omega arith) (omega arith) sum past
      ]
      | inr short ↦ λ before. ap (λ (bs : List ℕ). lines_leave step before (lines_from number start bs))
          (take_all m bytes short)
    ]

-- one byte more than the limit settles what lines leave
pub lines_leave-front : {S : Type 0} (limit : ℕ) (step : S → RawLine → Result S Cause) (limited : IsLimited limit step) (before : S) (bytes : List ℕ)
    → lines_leave step before (raw_lines (take (limit + 1) bytes)) ≡ lines_leave step before (raw_lines bytes)
unfolding IsSettled
lines_leave-front limit step limited before bytes =
    settled limit step limited (length bytes) (limit + 1) 1 0 bytes (omega arith) (omega arith) (omega arith) before

-- where lines were all read, each was read, and so the first
at_line_read : {A S : Type 0} (number : ℕ) (r : Result S Cause) (rest : S → Result A BadLine) (x : A) → at_line number r rest ≡ Ok x
    → (next : S) × (rest next ≡ Ok x)
at_line_read number (Ok next) rest x read = (next, read)
at_line_read number (Err cause) rest x read = absurd cc

-- lines that were all read end within the limit
read_within : {S : Type 0} (limit : ℕ) (step : S → RawLine → Result S Cause) (limited : IsLimited limit step) (fuel number start : ℕ) (bytes : List ℕ) (before read : S) → length bytes ≤ fuel → start ≤ limit
    → lines_leave step before (lines_from number start bytes) ≡ Ok read → start + length bytes ≤ limit
read_within limit step limited zero number start bytes before read few low all = omega arith
read_within {S} limit step limited (suc fuel) number start bytes before read few low all =
    let n = position_or_len is_newline bytes in
    elim (cases_lt 0 (length bytes)) [
      | inl some ↦ elim (cases_lt limit (start + n + 1)) [
        | inl past ↦ absurd (ok_is_no_error read (bad_line number TooLong) (sym all ∙ stops_in_first limit step limited before number start bytes some past))
        | inr here ↦ elim (cases_lt n (length bytes)) [
          | inl within ↦
              let rest = lines_from (number + 1) (start + n + 1) (after_first is_newline bytes) in
              let line = raw_line number start (before_first is_newline bytes) true in
              let next = at_line_read number (step before line) (λ next. lines_leave step next rest) read
              (sym (ap (lines_leave step before) (lines_from-newline number start bytes within)) ∙ all) in
              omega (arith, length-drop (n + 1) bytes, read_within limit step limited fuel (number + 1) (start + n + 1) (after_first is_newline bytes) next.0 read (omega (arith, length-drop (n + 1) bytes)) (omega arith) next.1)
          | inr none ↦ omega arith
        ]
      ]
      | inr none ↦ omega arith
    ]
  where
    ok_is_no_error : (read : S) (first : BadLine) → Ok read ≡ Err first → ⊥
    ok_is_no_error read first same = cc

-- the bytes of lines that were all read end within the limit
pub lines_leave-within : {S : Type 0} (limit : ℕ) (step : S → RawLine → Result S Cause) (limited : IsLimited limit step) (before read : S) (bytes : List ℕ)
    → lines_leave step before (raw_lines bytes) ≡ Ok read → length bytes ≤ limit
lines_leave-within limit step limited before read bytes all =
    omega (arith, read_within limit step limited (length bytes) 1 0 bytes before read (omega arith) (omega arith) all)
