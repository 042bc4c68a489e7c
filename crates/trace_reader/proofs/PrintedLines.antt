-- The words of a line are read as that line.
use Rattle.std.proofs.Common.{◌≡◌, ℕ, ◌-◌, ◌^◌, ◌<◌, Bool, true, false, not, ◌&&◌, nat_eq, nat_lt, List, [], ◌∷◌, ◌++◌, length, take, drop, Option, Some, None, is_some, IfSome, Ok, All, refl, ap, ◌∙◌, arith, if◌then◌else◌}
use Rattle.std.specs.Fmt.{decimal}
use Rattle.std.specs.List.{starts_with, join_with_byte}
use Rattle.std.proofs.Math.Seq.{take-append_seam}
use Rattle.std.proofs.lemmas.Bool.{cond_both, cond-true, and_parts, and_from, ltb-true, lt-ltb, both_ways}
use Rattle.std.proofs.lemmas.List.{append-nil, length_push, get_or_push}
use Rattle.std.proofs.lemmas.List.Elements.{All-nil, All-cons, All-append, All-weaker}
use Rattle.trace_reader.specs.declared.trace.Op.{Op}
use Rattle.trace_reader.specs.declared.trace.TraceLine.{TraceLine}
use Rattle.trace_reader.specs.Operations.{note, last_word, read_note, without_note, line_named, read_line}
use Rattle.trace_reader.specs.Values.{IsLineValue}
use Rattle.text_lexer.specs.Words.{words_of}
use Rattle.trace_reader.specs.LineTexts.{op_words, note_words, words_around, text_of_line, line_of_words, line_read, HasNames}
use Rattle.trace_reader.proofs.PlainWords.{IsPlain, IsWord, words_of-join}
use Rattle.trace_reader.proofs.Numerals.{decimal-word, decimal_of-decimal, thread_of-decimal}
use Rattle.trace_reader.proofs.OperationLines.{begins_other, IsField, plain_from_test, IsReadFrom, op-readable}

-- ---- words without a note

other_starts : (word : List ℕ) → begins_other word ≡ true → starts_with nat_eq word note ≡ false
other_starts [] e = absurd cc
other_starts (c ∷ word) e = neither (nat_eq 97 c) _ e
  where
    neither : (b x : Bool) → not b ≡ true → (b && x) ≡ false
    neither true x e = absurd cc
    neither false x e = refl

note_of-fields : (fields : List (List ℕ)) → All IsField fields → read_note fields ≡ None
unfolding read_note
note_of-fields fields are = cond_both (nat_lt 1 (length fields) && starts_with nat_eq (last_word fields) note)
    (Some (drop (length note) (last_word fields))) None (λ o. o ≡ None)
    (λ e.
    let both = and_parts (nat_lt 1 (length fields)) (starts_with nat_eq (last_word fields) note) e in
    let long : 1 < length fields = ltb-true 1 (length fields) both.0 in
    absurd (both_ways (starts_with nat_eq (last_word fields) note)
    (other_starts (last_word fields) (are (length fields - 1) [] (omega arith)).other) both.1))
    (λ _. refl)

without_note-fields : (fields : List (List ℕ)) → All IsField fields → without_note fields ≡ fields
unfolding without_note
without_note-fields fields are =
    ap (λ (o : Option (List ℕ)). if is_some o then take (length fields - 1) fields else fields) (note_of-fields fields are)

-- ---- words with one

last-push : (fields : List (List ℕ)) (word : List ℕ) → last_word (fields ++ word ∷ []) ≡ word
last-push fields word = get_or_push fields word [] (length (fields ++ word ∷ []) - 1) (omega (arith, length_push fields word))

note_of-push : (fields : List (List ℕ)) (line : List ℕ) → 0 < length fields
    → read_note (fields ++ (note ++ line) ∷ []) ≡ Some line
unfolding read_note
note_of-push fields line some =
    let words = fields ++ (note ++ line) ∷ [] in
    let last : last_word words ≡ note ++ line = last-push fields (note ++ line) in
    let long : nat_lt 1 (length words) ≡ true = lt-ltb 1 (length words) (omega (arith, length_push fields (note ++ line))) in
    let begins : starts_with nat_eq (last_word words) note ≡ true = ap (λ (word : List ℕ). starts_with nat_eq word note) last in
    cond-true (nat_lt 1 (length words) && starts_with nat_eq (last_word words) note)
    (Some (drop (length note) (last_word words))) None
    (and_from (nat_lt 1 (length words)) (starts_with nat_eq (last_word words) note) long begins)
    ∙ ap (λ (word : List ℕ). Some (drop (length note) word)) last

without_note-push : (fields : List (List ℕ)) (line : List ℕ) → 0 < length fields
    → without_note (fields ++ (note ++ line) ∷ []) ≡ fields
unfolding without_note
without_note-push fields line some =
    let words = fields ++ (note ++ line) ∷ [] in
    let front : length words - 1 ≡ length fields = omega (arith, length_push fields (note ++ line)) in
    ap (λ (o : Option (List ℕ)). if is_some o then take (length words - 1) words else words) (note_of-push fields line some)
    ∙ ap (λ (n : ℕ). take n words) front ∙ take-append_seam fields ((note ++ line) ∷ [])

-- ---- a line

line_of-words : (number thread : ℕ) (words : List (List ℕ)) (op : Op) (after : Option ℕ) → thread < 64 → IsReadFrom words op
    → IfSome after (λ n. n < 2 ^ 64)
    → read_line number (decimal thread) (words ++ note_words after)
    ≡ Ok (record { number = number; thread = thread; op = op; after = after })
unfolding read_line line_named
line_of-words number thread words op None few is small =
    ap (read_line number (decimal thread)) (append-nil words)
    ∙ rw (
      thread_of-decimal thread few,
      without_note-fields words is.fields,
      note_of-fields words is.fields,
      is.reads,
      is.right,
    ) refl
line_of-words number thread words op (Some n) few is small = rw (
  thread_of-decimal thread few,
  without_note-push words (decimal n) is.some,
  note_of-push words (decimal n) is.some,
  is.reads,
  decimal_of-decimal n small,
  is.right,
) refl

note-words : (after : Option ℕ) → IfSome after (λ n. n < 2 ^ 64) → All IsWord (note_words after)
note-words None small = All-nil IsWord
note-words (Some n) small =
    All-cons IsWord (note ++ decimal n) [] (record {
      some = omega arith;
      plain = All-append IsPlain note (decimal n) (plain_from_test note refl) (decimal-word n small).plain;
    }) (All-nil IsWord)

-- a line that is read from these words of its operation
pub record IsLineFrom (words : List (List ℕ)) (line : TraceLine) : Type 0 where
  pub thread : line.thread < 64
  pub from : IsReadFrom words line.op
  pub after : IfSome line.after (λ number. number < 2 ^ 64)

-- the words of a line, none of them empty or with a blank
pub words_around-are : (words : List (List ℕ)) (line : TraceLine) → IsLineFrom words line → All IsWord (words_around words line)
words_around-are words line is =
    let thread = is.thread in
    All-cons IsWord (decimal line.thread) (words ++ note_words line.after) (decimal-word line.thread (omega arith))
    (All-append IsWord words (note_words line.after) (All-weaker IsField IsWord (λ field h. h.word) words is.from.fields)
    (note-words line.after is.after))

-- they are those of its text
pub words_of-around : (words : List (List ℕ)) (line : TraceLine) → IsLineFrom words line
    → words_of (join_with_byte 32 (words_around words line)) ≡ words_around words line
words_of-around words line is =
    words_of-join (decimal line.thread) (words ++ note_words line.after) (words_around-are words line is)

-- and are read as it
pub line_of-around : (words : List (List ℕ)) (line : TraceLine) → IsLineFrom words line
    → read_line line.number (decimal line.thread) (words ++ note_words line.after) ≡ Ok line
line_of-around words line is = line_of-words line.number line.thread words line.op line.after is.thread is.from is.after

-- so it is for the words with which each operation is printed
pub printed_line : (line : TraceLine) → IsLineValue line → HasNames line.op → IsLineFrom (op_words line.op) line
printed_line line is has = record { thread = is.thread; from = op-readable line.op is.op has; after = is.after }

pub line_read-printed : (line : TraceLine) → IsLineValue line → HasNames line.op → line_read line.number (text_of_line line) ≡ Ok line
unfolding text_of_line
line_read-printed line is has =
    let from = printed_line line is has in
    ap (line_of_words line.number) (words_of-around (op_words line.op) line from) ∙ line_of-around (op_words line.op) line from
