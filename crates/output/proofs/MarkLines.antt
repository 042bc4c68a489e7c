-- For `mark_of`: the first line that is the mark stands where its bytes do.
use Rattle.std.proofs.Common.{◌≡◌, ℕ, zero, suc, ◌+◌, ◌<◌, ◌≤◌, Bool, true, false, cond, List, [], ◌∷◌, length, get_or, take, drop, codes, bytes_eq, Option, Some, None, refl, sym, ap, subst, ◌∙◌, inl, inr, arith}
use Rattle.std.specs.List.{position_or_len, before_first, after_first, find}
use Rattle.std.specs.Prelude.{option_map}
use Rattle.std.proofs.lemmas.Bool.{cases_lt, eqb-true, false_from_ne_true}
use Rattle.std.proofs.lemmas.Bool.Decides.{Decides-eqb}
use Rattle.std.proofs.lemmas.List.{drop_all, length-drop, length-take-le}
use Rattle.std.proofs.lemmas.List.Sums.{passes_at_first}
use Rattle.std.proofs.lemmas.Slice.Eq.{bytes_eq-Decides, slice_eq-Decides}
use Rattle.text_lexer.specs.Lines.{RawLine, raw_line, is_newline, lines_from}
use Rattle.text_lexer.proofs.RawPieces.{lines_from-newline, lines_from-none, lines_from-nil}
use Rattle.output.specs.Input.{is_mark, mark_offset, parted, input_of}
use Rattle.output.proofs.Marks.{mark, begins_mark, mark_from, behind, behind_behind, mark_past_line, mark_elsewhere, mark_here}

-- ---- bytes that begin with the mark, and the line that is it

-- the first line of bytes is `==`, and ends
abbrev IsMarked : List ℕ → Type 0
IsMarked bytes = (position_or_len is_newline bytes < length bytes) × (bytes_eq (before_first is_newline bytes) (codes "==") ≡ true)

-- three bytes that are known
known : (P : List ℕ → Type 0) (a b c : ℕ) (rest : List ℕ) → 61 ≡ a → 61 ≡ b → 10 ≡ c → P (61 ∷ 61 ∷ 10 ∷ rest) → P (a ∷ b ∷ c ∷ rest)
known P a b c rest first second third holds =
    subst (λ (z : ℕ). P (a ∷ b ∷ z ∷ rest)) third (subst (λ (y : ℕ). P (a ∷ y ∷ 10 ∷ rest)) second (subst (λ (x : ℕ). P (x ∷ 61 ∷ 10 ∷ rest)) first holds))

marked : (bytes : List ℕ) → begins_mark bytes ≡ true → IsMarked bytes
marked bytes is = shape bytes ((slice_eq-Decides Decides-eqb mark (take 3 bytes) (begins_mark bytes) refl).0 is)
  where
    here : (rest : List ℕ) → IsMarked (61 ∷ 61 ∷ 10 ∷ rest)
    here rest = (omega arith, refl)

    shape : (bytes : List ℕ) → mark ≡ take 3 bytes → IsMarked bytes
    shape [] same = absurd (omega (arith, ap length same))
    shape (a ∷ []) same = absurd (omega (arith, ap length same))
    shape (a ∷ b ∷ []) same = absurd (omega (arith, ap length same))
    shape (a ∷ b ∷ c ∷ rest) same = known IsMarked a b c rest (ap (λ (l : List ℕ). get_or l 0 0) same) (ap (λ (l : List ℕ). get_or l 1 0) same)
        (ap (λ (l : List ℕ). get_or l 2 0) same) (here rest)

begins : (bytes : List ℕ) → position_or_len is_newline bytes < length bytes → bytes_eq (before_first is_newline bytes) (codes "==") ≡ true
    → begins_mark bytes ≡ true
begins bytes within is =
    let n : ℕ = position_or_len is_newline bytes in
    let same : take n bytes ≡ codes "==" = (bytes_eq-Decides (take n bytes) (codes "==")).0 is in
    let two : n ≡ 2 = sym (length-take-le n bytes (omega arith)) ∙ ap length same in
    let newline : get_or bytes n 0 ≡ 10 = eqb-true (get_or bytes n 0) 10 (passes_at_first is_newline bytes 0 within) in
    shape bytes (ap (λ (k : ℕ). take k bytes) (sym two) ∙ same) (ap (λ (k : ℕ). get_or bytes k 0) (sym two) ∙ newline)
    (subst (λ (k : ℕ). k < length bytes) two within)
  where
    shape : (bytes : List ℕ) → take 2 bytes ≡ codes "==" → get_or bytes 2 0 ≡ 10 → 2 < length bytes → begins_mark bytes ≡ true
    shape [] same newline long = absurd (omega (arith, long))
    shape (a ∷ []) same newline long = absurd (omega (arith, long))
    shape (a ∷ b ∷ []) same newline long = absurd (omega (arith, long))
    shape (a ∷ b ∷ c ∷ rest) same newline long = known (λ (l : List ℕ). begins_mark l ≡ true) a b c rest (sym (ap (λ (l : List ℕ). get_or l 0 0) same))
        (sym (ap (λ (l : List ℕ). get_or l 1 0) same)) (sym newline) refl

same_answer : (s t : Bool) → (s ≡ true → t ≡ true) → (t ≡ true → s ≡ true) → s ≡ t
same_answer true t to from = sym (to refl)
same_answer false true to from = from refl
same_answer false false to from = refl

same_mark : (bytes : List ℕ) → position_or_len is_newline bytes < length bytes
    → begins_mark bytes ≡ bytes_eq (before_first is_newline bytes) (codes "==")
same_mark bytes within = same_answer (begins_mark bytes) (bytes_eq (before_first is_newline bytes) (codes "==")) (λ is. (marked bytes is).1) (begins bytes within)

-- ---- line by line

-- the offset of the first mark among lines
abbrev mark_among : List RawLine → Option ℕ
mark_among lines = option_map (λ line. line.start) (find is_mark lines)

-- a line that ends is the mark, or the mark is behind it
ended : (number start : ℕ) (bytes : List ℕ) → position_or_len is_newline bytes < length bytes
    → mark_among (lines_from (number + 1) (start + position_or_len is_newline bytes + 1) (after_first is_newline bytes))
    ≡ behind (start + position_or_len is_newline bytes + 1) (mark_from true (after_first is_newline bytes))
    → mark_among (lines_from number start bytes) ≡ behind start (mark_from true bytes)
ended number start bytes within later =
    ap mark_among (lines_from-newline number start bytes within) ∙ by_test (bytes_eq (before_first is_newline bytes) (codes "==")) refl
  where
    n : ℕ
    n = position_or_len is_newline bytes

    more : List RawLine
    more = lines_from (number + 1) (start + n + 1) (after_first is_newline bytes)

    by_test : (b : Bool) → bytes_eq (before_first is_newline bytes) (codes "==") ≡ b
        → option_map (λ (line : RawLine). line.start) (cond b (Some (raw_line number start (before_first is_newline bytes) true)) (find is_mark more))
        ≡ behind start (mark_from true bytes)
    by_test true is =
        let none : start + 0 ≡ start = omega arith in
        sym (ap (behind start) (mark_here bytes (same_mark bytes within ∙ is)) ∙ ap Some none)
    by_test false is =
        let count : start + n + 1 ≡ start + (n + 1) = omega arith in
        later ∙ ap (λ (k : ℕ). behind k (mark_from true (drop (n + 1) bytes))) count
        ∙ sym (behind_behind start (n + 1) (mark_from true (drop (n + 1) bytes)))
        ∙ ap (behind start) (sym (mark_elsewhere bytes (same_mark bytes within ∙ is) ∙ mark_past_line bytes))

-- a line that does not end is none, and none is behind it
unended : (number start : ℕ) (bytes : List ℕ) → 0 < length bytes → length bytes ≤ position_or_len is_newline bytes
    → mark_among (lines_from number start bytes) ≡ behind start (mark_from true bytes)
unended number start bytes some past =
    let n : ℕ = position_or_len is_newline bytes in
    let other : begins_mark bytes ≡ false = false_from_ne_true (begins_mark bytes) (λ is. omega (arith, (marked bytes is).0, past)) in
    let none : mark_from true bytes ≡ None =
    mark_elsewhere bytes other ∙ mark_past_line bytes
    ∙ ap (λ (bs : List ℕ). behind (n + 1) (mark_from true bs)) (drop_all (n + 1) bytes (omega arith)) in
    ap mark_among (lines_from-none number start bytes some past) ∙ sym (ap (behind start) none)

mark_lines : (fuel number start : ℕ) (bytes : List ℕ) → length bytes ≤ fuel → mark_among (lines_from number start bytes) ≡ behind start (mark_from true bytes)
mark_lines fuel number start [] few = ap mark_among (lines_from-nil number start)
mark_lines zero number start (c ∷ bytes) few = absurd (omega (arith, few))
mark_lines (suc fuel) number start (c ∷ bytes) few =
    let n : ℕ = position_or_len is_newline (c ∷ bytes) in
    elim (cases_lt n (length (c ∷ bytes))) [
      | inl within ↦ ended number start (c ∷ bytes) within
          (mark_lines fuel (number + 1) (start + n + 1) (after_first is_newline (c ∷ bytes)) (omega (arith, few, length-drop (n + 1) (c ∷ bytes))))
      | inr past ↦ unended number start (c ∷ bytes) (omega arith) past
    ]

-- the first mark, by lines and by bytes
pub mark_is : (bytes : List ℕ) → mark_offset bytes ≡ mark_from true bytes
mark_is bytes = mark_lines (length bytes) 1 0 bytes (omega arith) ∙ from_none (mark_from true bytes)
  where
    from_none : (place : Option ℕ) → behind 0 place ≡ place
    from_none None = refl
    from_none (Some n) = ap Some (omega arith)

-- so an input is parted there
pub input_parted : (bytes : List ℕ) → input_of bytes ≡ parted (mark_from true bytes) bytes
unfolding input_of
input_parted bytes = ap (λ (place : Option ℕ). parted place bytes) (mark_is bytes)
