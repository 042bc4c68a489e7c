-- Words without blanks, joined by spaces.
use Rattle.std.proofs.Common.{◌≡◌, ℕ, ◌+◌, ◌<◌, ◌≤◌, false, List, [], ◌∷◌, length, filter, All, refl, ap, ◌∙◌, arith, length-append}
use Rattle.std.specs.List.{slice_split, join_with_byte}
use Rattle.std.proofs.lemmas.Bool.{cond-true, ne_eqb, not_from_false}
use Rattle.std.proofs.lemmas.Bool.Decides.{nat_tests}
use Rattle.std.proofs.lemmas.List.Elements.{All-nil, All-cons, All-head, All-tail, All-weaker, All-append}
use Rattle.std.proofs.lemmas.List.Splits.{slice_split_at, slice_split_none}
use Rattle.text_lexer.specs.Words.{is_blank, has_bytes, words_of}

-- a byte of a word: an ASCII character that is printed, and no space
abbrev pub IsPlain : ℕ → Type 0
IsPlain c = (32 < c) × (c < 127)

-- a byte of words and the spaces between them
abbrev pub IsShown : ℕ → Type 0
IsShown c = (31 < c) × (c < 127)

-- a word
pub record IsWord (word : List ℕ) : Type 0 where
  pub some : 0 < length word
  pub plain : All IsPlain word

plain-not_blank : (c : ℕ) → IsPlain c → is_blank c ≡ false
plain-not_blank c plain = let above = plain.0 in grind (arith, nat_tests)

word-not_blank : (word : List ℕ) → All IsPlain word → All (λ c. is_blank c ≡ false) word
word-not_blank word plain = All-weaker IsPlain (λ c. is_blank c ≡ false) plain-not_blank word plain

split_join : (word : List ℕ) (words : List (List ℕ)) → All IsWord (word ∷ words)
    → slice_split is_blank (join_with_byte 32 (word ∷ words)) ≡ word ∷ words
split_join word [] are = slice_split_none is_blank word (word-not_blank word (All-head IsWord word [] are).plain)
split_join word (next ∷ words) are =
    slice_split_at is_blank word 32 (join_with_byte 32 (next ∷ words))
    (word-not_blank word (All-head IsWord word (next ∷ words) are).plain) refl
    ∙ ap (λ (rest : List (List ℕ)). word ∷ rest) (split_join next words (All-tail IsWord word (next ∷ words) are))

all_kept : (words : List (List ℕ)) → All IsWord words → filter has_bytes words ≡ words
all_kept [] are = refl
all_kept (word ∷ words) are =
    let some = (All-head IsWord word words are).some in
    cond-true (has_bytes word) (word ∷ filter has_bytes words) (filter has_bytes words)
    (not_from_false _ (ne_eqb (length word) 0 (λ none. omega arith)))
    ∙ ap (λ (rest : List (List ℕ)). word ∷ rest) (all_kept words (All-tail IsWord word words are))

-- joined words are read as these words
pub words_of-join : (word : List ℕ) (words : List (List ℕ)) → All IsWord (word ∷ words)
    → words_of (join_with_byte 32 (word ∷ words)) ≡ word ∷ words
unfolding words_of
words_of-join word words are = ap (filter has_bytes) (split_join word words are) ∙ all_kept (word ∷ words) are

word-shown : (word : List ℕ) → All IsPlain word → All IsShown word
word-shown word plain = All-weaker IsPlain IsShown (λ c h. (omega (arith, h.0), h.1)) word plain

-- and have words and spaces alone
pub join-shown : (words : List (List ℕ)) → All IsWord words → All IsShown (join_with_byte 32 words)
join-shown [] are = All-nil IsShown
join-shown (word ∷ []) are = word-shown word (All-head IsWord word [] are).plain
join-shown (word ∷ next ∷ words) are = All-append IsShown word (32 ∷ join_with_byte 32 (next ∷ words))
    (word-shown word (All-head IsWord word (next ∷ words) are).plain)
    (All-cons IsShown 32 (join_with_byte 32 (next ∷ words)) (omega arith, omega arith)
    (join-shown (next ∷ words) (All-tail IsWord word (next ∷ words) are)))

-- the bytes of words, each with a byte after it
abbrev pub room_of : List (List ℕ) → ℕ
room_of [] = 0
room_of (word ∷ words) = length word + 1 + room_of words

-- joined words have no more
pub length-join : (words : List (List ℕ)) → length (join_with_byte 32 words) ≤ room_of words
length-join [] = omega arith
length-join (word ∷ []) = omega arith
length-join (word ∷ next ∷ words) =
    let rest = length-join (next ∷ words) in
    let both = length-append word (32 ∷ join_with_byte 32 (next ∷ words)) in omega arith
