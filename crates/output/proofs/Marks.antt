-- For `mark_of` and `front_is_enough`: where the first line that is `==` stands, byte by byte.
use Rattle.std.proofs.Common.{◌≡◌, ℕ, zero, suc, ◌+◌, ◌-◌, ◌<◌, ◌≤◌, Bool, true, false, not, ◌&&◌, nat_eq, nat_le, nat_lt, cond, if◌then◌else◌, List, [], ◌∷◌, length, take, drop, codes, Option, Some, None, IfSome, position, refl, sym, ap, subst, ◌∙◌, inl, inr, arith}
use Rattle.std.specs.Cmp.Lexicographic.{pointwise}
use Rattle.std.specs.List.{position_or_len, starts_with}
use Rattle.std.specs.Prelude.{option_map}
use Rattle.std.proofs.lemmas.Bool.{cases_lt, cond_both, and_parts, le-leb, lt-leb, ltb-true, ltb-false}
use Rattle.std.proofs.lemmas.List.{length-drop, length-take, take-take, drop_all}
use Rattle.std.proofs.lemmas.Slice.Eq.{slice_eq-Decides}
use Rattle.std.proofs.lemmas.Bool.Decides.{Decides-eqb}
use Rattle.text_lexer.specs.Lines.{is_newline}

-- the line behind a trace, with its newline
abbrev pub mark : List ℕ
mark = codes "==\n"

-- whether bytes begin with the mark
abbrev pub begins_mark : List ℕ → Bool
begins_mark bytes = starts_with nat_eq bytes mark

-- the offset of the first line that is the mark, where the first byte begins a line or not
abbrev pub mark_from : Bool → List ℕ → Option ℕ
mark_from begins [] = None
mark_from begins (c ∷ bytes) = if begins && begins_mark (c ∷ bytes) then Some 0 else option_map suc (mark_from (is_newline c) bytes)

-- bytes that begin with the mark are three at least
pub marked_long : (bytes : List ℕ) → begins_mark bytes ≡ true → 3 ≤ length bytes
marked_long bytes is =
    let same : mark ≡ take 3 bytes = (slice_eq-Decides Decides-eqb mark (take 3 bytes) (begins_mark bytes) refl).0 is in
    omega (arith, ap length same, length-take 3 bytes)

-- ---- from one line to the next

-- the place of a newline, as `position` gives it
place_of : (bytes : List ℕ) (n : ℕ) → position is_newline bytes ≡ Some n → (position_or_len is_newline bytes ≡ n) × (n < length bytes)
place_of bytes n e = of_test (nat_lt (position_or_len is_newline bytes) (length bytes)) refl e
  where
    of_test : (b : Bool) → nat_lt (position_or_len is_newline bytes) (length bytes) ≡ b
        → cond b (Some (position_or_len is_newline bytes)) None ≡ Some n
        → (position_or_len is_newline bytes ≡ n) × (n < length bytes)
    of_test true is e =
        let same : position_or_len is_newline bytes ≡ n = cc in
        (same, subst (λ (k : ℕ). k < length bytes) same (ltb-true (position_or_len is_newline bytes) (length bytes) is))
    of_test false is e = absurd cc

no_place : (bytes : List ℕ) → position is_newline bytes ≡ None → length bytes ≤ position_or_len is_newline bytes
no_place bytes e = of_test (nat_lt (position_or_len is_newline bytes) (length bytes)) refl e
  where
    of_test : (b : Bool) → nat_lt (position_or_len is_newline bytes) (length bytes) ≡ b
        → cond b (Some (position_or_len is_newline bytes)) None ≡ None → length bytes ≤ position_or_len is_newline bytes
    of_test true is e = absurd cc
    of_test false is e = ltb-false (position_or_len is_newline bytes) (length bytes) is

-- a place so far behind another
abbrev pub behind : ℕ → Option ℕ → Option ℕ
behind offset place = option_map (λ n. offset + n) place

behind_next : (offset : ℕ) (place : Option ℕ) → option_map suc (behind offset place) ≡ behind (suc offset) place
behind_next offset None = refl
behind_next offset (Some n) = ap Some (omega arith)

behind_one : (place : Option ℕ) → option_map suc place ≡ behind 1 place
behind_one None = refl
behind_one (Some n) = ap Some (omega arith)

pub behind_behind : (a b : ℕ) (place : Option ℕ) → behind a (behind b place) ≡ behind (a + b) place
behind_behind a b None = refl
behind_behind a b (Some n) = ap Some (omega arith)

-- where a line goes on, the next may begin behind its newline
pub mark_past_line : (bytes : List ℕ) → mark_from false bytes
    ≡ behind (position_or_len is_newline bytes + 1) (mark_from true (drop (position_or_len is_newline bytes + 1) bytes))
mark_past_line [] = refl
mark_past_line (c ∷ bytes) = by_newline (mark_past_line bytes) (is_newline c)
  where
    n : ℕ
    n = position_or_len is_newline bytes

    by_newline : mark_from false bytes ≡ behind (n + 1) (mark_from true (drop (n + 1) bytes)) → (b : Bool)
        → option_map suc (mark_from b bytes) ≡ behind (cond (not b) (1 + n) 0 + 1) (mark_from true (drop (cond (not b) (1 + n) 0 + 1) (c ∷ bytes)))
    by_newline later true = behind_one (mark_from true bytes)
    by_newline later false =
        let count : suc (n + 1) ≡ 1 + n + 1 = omega arith in
        ap (option_map suc) later ∙ behind_next (n + 1) (mark_from true (drop (n + 1) bytes))
        ∙ ap (λ (k : ℕ). behind k (mark_from true (drop k (c ∷ bytes)))) count

-- a line that is not the mark is one that goes on
pub mark_elsewhere : (bytes : List ℕ) → begins_mark bytes ≡ false → mark_from true bytes ≡ mark_from false bytes
mark_elsewhere [] other = refl
mark_elsewhere (c ∷ bytes) other = rw other refl

-- bytes that begin with the mark
pub mark_here : (bytes : List ℕ) → begins_mark bytes ≡ true → mark_from true bytes ≡ Some 0
mark_here [] is = absurd (omega (arith, marked_long [] is))
mark_here (c ∷ bytes) is = rw is refl

-- from a line that is not the mark to the line behind it
pub mark_step : (bytes rest left : List ℕ) (n : ℕ) → mark_from true bytes ≡ behind (length bytes - length rest) (mark_from true rest)
    → length rest ≤ length bytes → false ≡ begins_mark rest → position is_newline rest ≡ Some n → left ≡ drop (n + 1) rest
    → mark_from true bytes ≡ behind (length bytes - length left) (mark_from true left)
mark_step bytes rest left n same within other found is =
    let place = place_of rest n found in
    let past : mark_from true rest ≡ behind (n + 1) (mark_from true left) =
    mark_elsewhere rest (sym other) ∙ mark_past_line rest
    ∙ ap (λ (k : ℕ). behind (k + 1) (mark_from true (drop (k + 1) rest))) place.0
    ∙ ap (λ (bs : List ℕ). behind (n + 1) (mark_from true bs)) (sym is) in
    let below : n < length rest = place.1 in
    let count : length bytes - length rest + (n + 1) ≡ length bytes - length left =
    omega (arith, ap length is, length-drop (n + 1) rest) in
    same ∙ ap (behind (length bytes - length rest)) past
    ∙ behind_behind (length bytes - length rest) (n + 1) (mark_from true left)
    ∙ ap (λ (k : ℕ). behind k (mark_from true left)) count

-- it is no longer
pub left_within : (bytes rest left : List ℕ) (n : ℕ) → left ≡ drop (n + 1) rest → length rest ≤ length bytes → length left ≤ length bytes
left_within bytes rest left n is within = omega (arith, ap length is, length-drop (n + 1) rest)

-- where no line follows there is no mark
pub mark_none : (bytes rest : List ℕ) → mark_from true bytes ≡ behind (length bytes - length rest) (mark_from true rest)
    → false ≡ begins_mark rest → position is_newline rest ≡ None → mark_from true bytes ≡ None
mark_none bytes rest same other none =
    let n = position_or_len is_newline rest in
    let past : drop (n + 1) rest ≡ [] = drop_all (n + 1) rest (omega (arith, no_place rest none)) in
    same ∙ ap (behind (length bytes - length rest)) (mark_elsewhere rest (sym other) ∙ mark_past_line rest
    ∙ ap (λ (bs : List ℕ). behind (n + 1) (mark_from true bs)) past)

-- the mark is here
pub mark_found : (bytes rest : List ℕ) → mark_from true bytes ≡ behind (length bytes - length rest) (mark_from true rest)
    → true ≡ begins_mark rest → mark_from true bytes ≡ Some (length bytes - length rest)
mark_found bytes rest same is =
    same ∙ ap (behind (length bytes - length rest)) (mark_here rest (sym is)) ∙ ap Some (omega arith)

-- ---- its place

-- a mark is within the bytes
pub mark_within : (begins : Bool) (bytes : List ℕ) → IfSome (mark_from begins bytes) (λ n. n + 3 ≤ length bytes)
mark_within begins [] = tt
mark_within begins (c ∷ bytes) = cond_both (begins && begins_mark (c ∷ bytes)) (Some 0) (option_map suc (mark_from (is_newline c) bytes))
    (λ place. IfSome place (λ n. n + 3 ≤ length (c ∷ bytes)))
    (λ is. omega (arith, marked_long (c ∷ bytes) (and_parts begins (begins_mark (c ∷ bytes)) is).1))
    (λ _. later (mark_from (is_newline c) bytes) (mark_within (is_newline c) bytes))
  where
    later : (place : Option ℕ) → IfSome place (λ n. n + 3 ≤ length bytes) → IfSome (option_map suc place) (λ n. n + 3 ≤ length (c ∷ bytes))
    later None within = tt
    later (Some n) within = omega (arith, within)

-- ---- in a front

-- a mark that ends within so many bytes
abbrev pub seen_in : ℕ → Option ℕ → Option ℕ
seen_in count None = None
seen_in count (Some n) = if nat_le (n + 3) count then Some n else None

seen_next : (count : ℕ) (place : Option ℕ) → option_map suc (seen_in count place) ≡ seen_in (suc count) (option_map suc place)
seen_next count None = refl
seen_next count (Some n) = elim (cases_lt count (n + 3)) [
  | inl past ↦ rw (lt-leb (n + 3) count past, lt-leb (suc n + 3) (suc count) (omega arith)) refl
  | inr here ↦ rw (le-leb (n + 3) count here, le-leb (suc n + 3) (suc count) (omega arith)) refl
]

-- too few bytes hold no mark
seen_in_few : (count : ℕ) (place : Option ℕ) → count < 3 → seen_in count place ≡ None
seen_in_few count None few = refl
seen_in_few count (Some n) few = rw (lt-leb (n + 3) count (omega arith)) refl

few_marked : (begins : Bool) (bytes : List ℕ) → length bytes < 3 → mark_from begins bytes ≡ None
few_marked begins bytes few = by_place (mark_from begins bytes) (mark_within begins bytes)
  where
    by_place : (place : Option ℕ) → IfSome place (λ n. n + 3 ≤ length bytes) → place ≡ None
    by_place None within = refl
    by_place (Some n) within = absurd (omega (arith, within))

-- a front holds the mark exactly where it ends there
pub mark_front : (count : ℕ) (begins : Bool) (bytes : List ℕ) → mark_from begins (take count bytes) ≡ seen_in count (mark_from begins bytes)
mark_front zero begins bytes = sym (seen_in_few zero (mark_from begins bytes) (omega arith))
mark_front (suc count) begins [] = refl
mark_front (suc count) begins (c ∷ bytes) = elim (cases_lt (suc count) 3) [
  | inl few ↦ few_marked begins (take (suc count) (c ∷ bytes)) (omega (arith, length-take (suc count) (c ∷ bytes)))
      ∙ sym (seen_in_few (suc count) (mark_from begins (c ∷ bytes)) few)
  | inr enough ↦
      let test = begins && begins_mark (c ∷ bytes) in
      let same : (begins && begins_mark (c ∷ take count bytes)) ≡ test
      = ap (λ (front : List ℕ). begins && pointwise nat_eq mark front) (take-take 3 (suc count) (c ∷ bytes) enough) in
      ap (λ (b : Bool). if b then Some 0 else option_map suc (mark_from (is_newline c) (take count bytes))) same
      ∙ by_test (mark_front count (is_newline c) bytes) test enough
]
  where
    by_test : mark_from (is_newline c) (take count bytes) ≡ seen_in count (mark_from (is_newline c) bytes) → (b : Bool) → 3 ≤ suc count
        → (if b then Some 0 else option_map suc (mark_from (is_newline c) (take count bytes)))
        ≡ seen_in (suc count) (if b then Some 0 else option_map suc (mark_from (is_newline c) bytes))
    by_test later true enough = rw (le-leb 3 (suc count) enough) refl
    by_test later false enough = ap (option_map suc) later ∙ seen_next count (mark_from (is_newline c) bytes)
