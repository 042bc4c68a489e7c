-- For `set_words` and the functions that it calls: words and the blanks between them.
use Rattle.std.proofs.Common.{◌≡◌, ℕ, zero, suc, ◌+◌, ◌-◌, ◌<◌, ◌≤◌, Bool, true, false, not, cond, nat_lt, nat_le, List, [], ◌∷◌, ◌++◌, length, get_or, take, drop, filter, Option, Some, None, unwrap_or, position, refl, sym, ap, ◌∙◌, subst, inl, inr, append_assoc, add-zero, arith, length-append}
use Rattle.std.specs.List.{slice_split, position_or_len, before_first}
use Rattle.std.specs.Str.{byte, IsUtf8, IsCharBoundary}
use Rattle.std.proofs.lemmas.Bool.{cond_both, cases_lt, ltb-false, not-false, cond-true, ne_eqb, not_from_false}
use Rattle.std.proofs.lemmas.Bool.Decides.{nat_tests}
use Rattle.std.proofs.lemmas.List.{take_all, append-nil, drop_all, drop_more, length-drop, length-take-le, get_or-drop}
use Rattle.std.proofs.lemmas.List.Sums.{prefix_len-le-length, fails_before_first, passes_at_first, position_or_len_is}
use Rattle.std.proofs.lemmas.List.Splits.{slice_split-cons_yes, slice_split_first, slice_split_none}
use Rattle.std.proofs.lemmas.Simd.{run_in_chunk_fails, run_in_chunk_stops}
use Rattle.std.proofs.lemmas.Str.{IsCharBoundary-start, IsCharBoundary-end, IsCharBoundary-before_ascii, IsCharBoundary-after_ascii}
use Rattle.text_lexer.specs.Words.{is_blank, is_part, has_bytes, words_of, after_blanks, after_word}

pub position_or_len-le : (p : ℕ → Bool) (xs : List ℕ) → position_or_len p xs ≤ length xs
position_or_len-le p xs = prefix_len-le-length (λ x. not (p x)) xs

-- the place that `position` gives, or else the length
pub place_is : (p : ℕ → Bool) (xs : List ℕ) (found : Option ℕ) (place : ℕ) → found ≡ position p xs
    → place ≡ unwrap_or found (length xs) → place ≡ position_or_len p xs
place_is p xs found place e u =
    let n = position_or_len p xs in
    u ∙ ap (λ (o : Option ℕ). unwrap_or o (length xs)) e
    ∙ cond_both (nat_lt n (length xs)) (Some n) None (λ o. unwrap_or o (length xs) ≡ n) (λ _. refl)
    (λ past. omega (arith, ltb-false n (length xs) past, position_or_len-le p xs))

-- what is no greater than a space, as blanks are
abbrev pub is_low : ℕ → Bool
is_low c = nat_le c (byte " ")

high_is_part : (c : ℕ) → is_low c ≡ false → is_blank c ≡ false
high_is_part c e = grind (arith, nat_tests)

-- the first such byte of a text is its first blank, where it is a blank, or there is none
pub place_at_low : (text : List ℕ) (place : ℕ) → place ≡ position_or_len is_low text
    → (place < length text → is_blank (get_or text place 0) ≡ true) → place ≡ position_or_len is_blank text
place_at_low text place e blank = sym (position_or_len_is is_blank text place 0
    (omega (arith, position_or_len-le is_low text))
    (λ k below. high_is_part (get_or text k 0) (fails_before_first is_low text k 0 (omega arith))) blank)

-- the bytes before a place are all greater than a space
abbrev pub AreHigh : List ℕ → ℕ → Type 0
AreHigh text from = (k : ℕ) → k < from → is_low (get_or text k 0) ≡ false

-- 16 bytes from there on, so many of which come before the first that is not
module _ (text : List ℕ) (from before : ℕ) (room : from + 16 ≤ length text) (high : AreHigh text from)
    (counted : before ≡ position_or_len is_low (take 16 (drop from text))) where
  pub high_more : 16 ≤ before → AreHigh text (from + 16)
  high_more whole k below = elim (cases_lt k from) [
    | inl early ↦ high k early
    | inr late ↦ run_in_chunk_fails is_low text from 16 before 0 room counted k (omega arith) (omega arith)
  ]

  pub low_in_lanes : before < 16 → from + before ≡ position_or_len is_low text
  low_in_lanes short = sym (position_or_len_is is_low text (from + before) 0 (omega arith)
      (λ k below. elim (cases_lt k from) [
        | inl early ↦ high k early
        | inr late ↦ run_in_chunk_fails is_low text from 16 before 0 room counted k (omega arith) (omega arith)
      ])
      (λ within. run_in_chunk_stops is_low text from 16 before 0 room counted short))

-- all bytes from there on
pub low_in_rest : (text : List ℕ) (from place : ℕ) → from ≤ length text → AreHigh text from
    → place ≡ position_or_len is_low (drop from text) → from + place ≡ position_or_len is_low text
low_in_rest text from place le high counted =
    let left : length (drop from text) ≡ length text - from = length-drop from text in
    let few : place ≤ length (drop from text) = omega (arith, counted, position_or_len-le is_low (drop from text)) in
    sym (position_or_len_is is_low text (from + place) 0 (omega arith)
    (λ k below. elim (cases_lt k from) [
      | inl early ↦ high k early
      | inr late ↦
          let back : from + (k - from) ≡ k = omega arith in
          subst (λ (c : ℕ). is_low c ≡ false) (get_or-drop from text (k - from) 0 ∙ ap (λ (j : ℕ). get_or text j 0) back)
          (fails_before_first is_low (drop from text) (k - from) 0 (omega (arith, counted)))
    ])
    (λ within.
    let stops : is_low (get_or (drop from text) (position_or_len is_low (drop from text)) 0) ≡ true =
    passes_at_first is_low (drop from text) 0 (omega (arith, counted)) in
    subst (λ (c : ℕ). is_low c ≡ true)
    (ap (λ (j : ℕ). get_or (drop from text) j 0) (sym counted) ∙ get_or-drop from text place 0) stops))

blank_is_ascii : (c : ℕ) → is_blank c ≡ true → c < 128
blank_is_ascii c e = grind (arith, nat_tests)

-- a text may be cut after its first blanks, and before a blank
pub boundary_at_part : (text : List ℕ) → IsUtf8 text → IsCharBoundary text (position_or_len is_part text)
boundary_at_part text utf8 = at_place (position_or_len is_part text) refl
  where
    at_place : (n : ℕ) → position_or_len is_part text ≡ n → IsCharBoundary text n
    at_place zero e = IsCharBoundary-start text utf8
    at_place (suc n) e =
        let before : n < position_or_len is_part text = omega arith in
        let blank : is_blank (get_or text n 0) ≡ true = not-false (is_blank (get_or text n 0))
        (fails_before_first is_part text n 0 before) in
        let next : n + 1 ≡ suc n = omega arith in
        subst (IsCharBoundary text) next (IsCharBoundary-after_ascii text n utf8
        (omega (arith, position_or_len-le is_part text)) (blank_is_ascii (get_or text n 0) blank))

pub boundary_at_blank : (text : List ℕ) → IsCharBoundary text (position_or_len is_blank text)
boundary_at_blank text =
    let n = position_or_len is_blank text in
    elim (cases_lt n (length text)) [
      | inl within ↦ IsCharBoundary-before_ascii text n within
          (blank_is_ascii (get_or text n 0) (passes_at_first is_blank text 0 within))
      | inr past ↦
          let same : length text ≡ n = omega (arith, position_or_len-le is_blank text) in
          subst (IsCharBoundary text) same (IsCharBoundary-end text)
    ]

-- ---- leading blanks

past_one : (n : ℕ) (c : ℕ) (text : List ℕ) → drop (1 + n) (c ∷ text) ≡ drop n text
past_one n c text = let next : 1 + n ≡ suc n = omega arith in ap (λ (k : ℕ). drop k (c ∷ text)) next

words_of-blank : (c : ℕ) (text : List ℕ) → is_blank c ≡ true → words_of (c ∷ text) ≡ words_of text
unfolding words_of
words_of-blank c text e = ap (filter has_bytes) (slice_split-cons_yes is_blank c text e)

-- the first byte of a text, a blank or not
skips_blank : (c : ℕ) (text : List ℕ) (blank : Bool) → is_blank c ≡ blank
    → words_of (drop (position_or_len is_part text) text) ≡ words_of text →
    words_of (drop (position_or_len is_part (c ∷ text)) (c ∷ text)) ≡ words_of (c ∷ text)
skips_blank c text true e later =
    ap (λ (b : Bool). words_of (drop (cond (not (not b)) (1 + position_or_len is_part text) 0) (c ∷ text))) e
    ∙ ap words_of (past_one (position_or_len is_part text) c text) ∙ later ∙ sym (words_of-blank c text e)
skips_blank c text false e later = ap (λ (b : Bool). words_of
    (drop (cond (not (not b)) (1 + position_or_len is_part text) 0) (c ∷ text))) e

pub words_of-after_blanks : (text : List ℕ) → words_of (after_blanks text) ≡ words_of text
unfolding after_blanks
words_of-after_blanks [] = refl
words_of-after_blanks (c ∷ text) = skips_blank c text (is_blank c) refl (words_of-after_blanks text)

-- a text that does not begin with a blank
abbrev pub IsAtWord : List ℕ → Type 0
IsAtWord text = position_or_len is_part text ≡ 0

pub after_blanks-at_word : (text : List ℕ) → IsAtWord (after_blanks text)
unfolding after_blanks
after_blanks-at_word text =
    let n = position_or_len is_part text in
    position_or_len_is is_part (drop n text) 0 0 (omega arith) (λ k below. absurd (omega arith))
    (λ some. ap is_part (get_or-drop n text 0 0 ∙ ap (λ (k : ℕ). get_or text k 0) (add-zero n))
    ∙ passes_at_first is_part text 0 (omega (arith, length-drop n text)))

-- then it begins with a word
word_in_front : (text : List ℕ) → 0 < length text → IsAtWord text → 0 < position_or_len is_blank text
word_in_front [] some at_word = absurd (omega arith)
word_in_front (c ∷ text) some at_word = by_blank (is_blank c) refl
  where
    by_blank : (blank : Bool) → is_blank c ≡ blank → 0 < position_or_len is_blank (c ∷ text)
    by_blank true e =
        let none : 1 + position_or_len is_part text ≡ 0 = subst
        (λ (b : Bool). cond (not (not b)) (1 + position_or_len is_part text) 0 ≡ 0) e at_word in
        absurd (omega arith)
    by_blank false e = subst (λ (b : Bool). 0 < cond (not b) (1 + position_or_len is_blank text) 0) (sym e)
        (omega arith)

kept : (word : List ℕ) (pieces : List (List ℕ)) → 0 < length word
    → filter has_bytes (word ∷ pieces) ≡ word ∷ filter has_bytes pieces
kept word pieces some = cond-true (has_bytes word) (word ∷ filter has_bytes pieces) (filter has_bytes pieces)
    (not_from_false _ (ne_eqb (length word) 0 (λ none. omega arith)))

-- its words are that word and those of what follows
words_of-front : (text : List ℕ) → 0 < position_or_len is_blank text
    → words_of text ≡ before_first is_blank text ∷ words_of (after_word text)
unfolding words_of after_word
words_of-front text some =
    let n = position_or_len is_blank text in
    let len : length (take n text) ≡ n = length-take-le n text (position_or_len-le is_blank text) in
    elim (cases_lt n (length text)) [
      | inl within ↦
          ap (filter has_bytes) (slice_split_first is_blank text 0 within)
          ∙ kept (take n text) (slice_split is_blank (drop (n + 1) text)) (omega arith)
          ∙ ap (λ (rest : List (List ℕ)). take n text ∷ rest)
          (sym (words_of-blank (get_or text n 0) (drop (n + 1) text) (passes_at_first is_blank text 0 within))
          ∙ ap words_of (sym (drop_more text n 0 within)))
      | inr past ↦
          ap (filter has_bytes) (slice_split_none is_blank text
          (λ k d below. fails_before_first is_blank text k d (omega arith)))
          ∙ kept text [] (omega (arith, position_or_len-le is_blank text))
          ∙ ap (λ (word : List ℕ). word ∷ []) (sym (take_all n text past))
          ∙ ap (λ (rest : List ℕ). take n text ∷ words_of rest) (sym (drop_all n text past))
    ]

-- one word more
pub words_more : (before all : List (List ℕ)) (text word next : List ℕ) → 0 < length text → IsAtWord text
    → before ++ words_of text ≡ all →
    word ≡ before_first is_blank text → next ≡ after_blanks (after_word text)
    → (before ++ word ∷ []) ++ words_of next ≡ all
words_more before all text word next some at_word so_far is_word is_next =
    append_assoc before (word ∷ []) (words_of next)
    ∙ ap (λ (rest : List (List ℕ)). before ++ rest)
    (ap (λ (first : List ℕ). first ∷ words_of next) is_word
    ∙ ap (λ (rest : List (List ℕ)). before_first is_blank text ∷ rest)
    (ap words_of is_next ∙ words_of-after_blanks (after_word text))
    ∙ sym (words_of-front text (word_in_front text some at_word)))
    ∙ so_far

-- so there are more words than those before
pub words_left : (before all : List (List ℕ)) (text : List ℕ) → 0 < length text → IsAtWord text
    → before ++ words_of text ≡ all → length before < length all
words_left before all text some at_word so_far =
    let first = before_first is_blank text in
    let more = words_of (after_word text) in
    let is : all ≡ before ++ first ∷ more = sym so_far
    ∙ ap (λ (rest : List (List ℕ)). before ++ rest) (words_of-front text (word_in_front text some at_word)) in
    omega (arith, ap length is, length-append before (first ∷ more))

-- and less of the text
pub rest_shorter : (text : List ℕ) → 0 < length text → IsAtWord text
    → length (after_blanks (after_word text)) < length text
unfolding after_blanks after_word
rest_shorter text some at_word =
    let n = position_or_len is_blank text in
    omega (
      arith,
      word_in_front text some at_word,
      length-drop n text,
      length-drop
          (position_or_len is_part (drop n text)) (drop n text),
    )

-- no words are left
pub words_end : (before all : List (List ℕ)) (text : List ℕ) → length text ≡ 0 → before ++ words_of text ≡ all
    → before ≡ all
unfolding words_of
words_end before all [] none so_far = sym (append-nil before) ∙ so_far
words_end before all (c ∷ text) none so_far = absurd (omega arith)

-- no words yet
pub words_start : (before : List (List ℕ)) (text next : List ℕ) → before ≡ [] → next ≡ after_blanks text
    → before ++ words_of next ≡ words_of text
words_start before text next none is_next = ap (λ (b : List (List ℕ)). b ++ words_of next) none ∙ ap words_of is_next
    ∙ words_of-after_blanks text
