-- Lines are read one after another as they were printed.
use Rattle.std.proofs.Common.{◌≡◌, ℕ, ◌+◌, ◌<◌, ◌≤◌, Bool, true, false, ◌&&◌, nat_eq, nat_lt, nat_le, List, [], ◌∷◌, ◌++◌, length, flat_map, codes, All, None, Ok, Err, refl, sym, ap, ◌∙◌, append_assoc, arith, lit≤, length-append}
use Rattle.std.specs.Char.{is_ascii_digit}
use Rattle.std.specs.Fmt.{decimal}
use Rattle.std.specs.List.{slice_split}
use Rattle.std.specs.Str.{is_utf8}
use Rattle.std.proofs.lemmas.Bool.{cond-false, and_parts, ltb-true, ne_eqb}
use Rattle.std.proofs.lemmas.Bool.Decides.{nat_tests}
use Rattle.std.proofs.lemmas.Fmt.{decimal_digit}
use Rattle.std.proofs.lemmas.List.{append-nil}
use Rattle.std.proofs.lemmas.List.Elements.{All-nil, All-cons, All-head, All-tail, All-weaker}
use Rattle.std.proofs.lemmas.List.Splits.{slice_split_at, length-slice_split}
use Rattle.std.proofs.lemmas.Str.{IsUtf8-from_ascii, is_utf8-from_IsUtf8}
use Rattle.std.proofs.lemmas.Str.Ascii.{IsAscii-from_all}
use Rattle.text_lexer.specs.declared.error.Cause.TheVariants.{Header}
use Rattle.trace_reader.specs.declared.trace.Op.{Op}
use Rattle.trace_reader.specs.declared.trace.TraceLine.{TraceLine}
use Rattle.text_lexer.specs.BadLines.{bad_line, at_line}
use Rattle.trace_reader.specs.Grammar.{nothing, after_trace_lines, lines_read, trace_so_far, whole_trace, trace_of}
use Rattle.trace_reader.specs.Lines.{SoFar, read_version, with_header, names_rightly, forks_rightly, is_full, with_one, with_line, after_words, after_trace_line}
use Rattle.text_lexer.specs.Lines.{input_limit, raw_line, is_newline, is_longer_than, text_within, lines_of_pieces, lines_from}
use Rattle.text_lexer.specs.Words.{is_comment, is_header, begins_with_digit, words_of}
use Rattle.text_lexer.specs.Lines as lines
use Rattle.trace_reader.specs.Values.{is_maps, child_of}
use Rattle.text_lexer.proofs.RawPieces.{lines_from-nil}
use Rattle.trace_reader.specs.LineTexts.{note_words, words_around, text_by, line_text_by}
use Rattle.trace_reader.proofs.PlainWords.{IsShown, room_of, join-shown, length-join}
use Rattle.trace_reader.proofs.Numerals.{length-number}
use Rattle.trace_reader.proofs.PrintedLines.{IsLineFrom, words_around-are, words_of-around, line_of-around}

-- A line of one of ten threads that is read as it is written, and names no line. It is no read of the list and no fork, of which
-- a trace may have few, and fits a line.
pub record IsReadableBy (write : Op → List (List ℕ)) (line : TraceLine) : Type 0 where
  pub few : line.thread < 10
  pub from : IsLineFrom (write line.op) line
  pub no_maps : is_maps line.op ≡ false
  pub no_child : child_of line.op ≡ None
  pub alone : line.after ≡ None
  pub room : room_of (write line.op) ≤ 4000

-- the numbers of lines are this one and those after it
abbrev pub AreNumberedFrom : ℕ → List TraceLine → Type 0
AreNumberedFrom number [] = Unit {0}
AreNumberedFrom number (line ∷ lines) = (line.number ≡ number) × AreNumberedFrom (number + 1) lines

-- ---- the bytes of a line

text-shown : (write : Op → List (List ℕ)) (line : TraceLine) → IsReadableBy write line → All IsShown (text_by write line)
text-shown write line is = join-shown (words_around (write line.op) line) (words_around-are (write line.op) line is.from)

-- a line has its words, and at most 21 bytes more
pub length-text : (write : Op → List (List ℕ)) (line : TraceLine) → IsReadableBy write line
    → length (text_by write line) ≤ 21 + room_of (write line.op)
length-text write line is =
    let few = is.few in
    let thread = length-number line.thread (omega arith) in
    let words = write line.op in
    let whole = length-join (words_around words line) in
    let alone : room_of (words ++ note_words line.after) ≡ room_of words =
    ap (λ after. room_of (words ++ note_words after)) is.alone ∙ ap room_of (append-nil words) in
    omega arith

shown-utf8 : (text : List ℕ) → All IsShown text → is_utf8 text ≡ true
shown-utf8 text shown = is_utf8-from_IsUtf8 text (IsUtf8-from_ascii text (IsAscii-from_all text
    (All-weaker IsShown (λ c. c < 128) (λ c h. let high = h.1 in omega arith) text shown)))

pub shown-single : (text : List ℕ) → All IsShown text → All (λ c. is_newline c ≡ false) text
shown-single text shown = All-weaker IsShown (λ c. is_newline c ≡ false)
    (λ c h. let low = h.0 in grind (arith, nat_tests)) text shown

-- a test of each byte of a text that stands written out
abbrev shown_bytes : List ℕ → Bool
shown_bytes [] = true
shown_bytes (c ∷ text) = nat_lt 31 c && (nat_lt c 127 && shown_bytes text)

shown_from_test : (text : List ℕ) → shown_bytes text ≡ true → All IsShown text
shown_from_test [] e = All-nil IsShown
shown_from_test (c ∷ text) e =
    let first = and_parts (nat_lt 31 c) (nat_lt c 127 && shown_bytes text) e in
    let rest = and_parts (nat_lt c 127) (shown_bytes text) first.1 in
    All-cons IsShown c text (ltb-true 31 c first.0, ltb-true c 127 rest.0) (shown_from_test text rest.1)

-- the text of a line that is short, lies within the limit and is UTF-8
pub text_of-utf8 : (number start : ℕ) (text : List ℕ) → is_utf8 text ≡ true → length text ≤ 4096
    → start + length text + 1 ≤ input_limit → lines.text_of (raw_line number start text true) ≡ Ok text
unfolding text_within is_longer_than
text_of-utf8 number start text utf8 short within =
    let few : nat_lt 4096 (length text) ≡ false = grind (arith, nat_tests) in
    let inside : nat_lt input_limit (start + length text + 1) ≡ false = grind (arith, nat_tests) in
    rw (few, inside, utf8) refl

-- bytes up to a newline are a line, and what follows are the others
pieces_more : (number start : ℕ) (text : List ℕ) (pieces : List (List ℕ)) → 0 < length pieces
    → lines_of_pieces number start (text ∷ pieces) ≡ raw_line number start text true ∷ lines_of_pieces (number + 1) (start + length text + 1) pieces
pieces_more number start text [] some = absurd (omega arith)
pieces_more number start text (next ∷ pieces) some = refl

pub lines_from-text : (number start : ℕ) (text rest : List ℕ) → All (λ c. is_newline c ≡ false) text
    → lines_from number start (text ++ (10 ∷ rest)) ≡ raw_line number start text true ∷ lines_from (number + 1) (start + length text + 1) rest
unfolding lines_from
lines_from-text number start text rest single =
    ap (lines_of_pieces number start) (slice_split_at is_newline text 10 rest single refl)
    ∙ pieces_more number start text (slice_split is_newline rest) (let some = length-slice_split is_newline rest in omega arith)

-- a line that is read, and then those below it
pub after_more : (so_far next : SoFar) (number start : ℕ) (text rest : List ℕ) → All (λ c. is_newline c ≡ false) text
    → after_trace_line so_far (raw_line number start text true) ≡ Ok next
    → after_trace_lines so_far (lines_from number start ((text ++ codes "\n") ++ rest))
    ≡ after_trace_lines next (lines_from (number + 1) (start + length text + 1) rest)
after_more so_far next number start text rest single reads =
    ap (λ (bytes : List ℕ). after_trace_lines so_far (lines_from number start bytes)) (append_assoc text (10 ∷ []) rest)
    ∙ ap (after_trace_lines so_far) (lines_from-text number start text rest single)
    ∙ ap (λ read. at_line number read (λ after. after_trace_lines after (lines_from (number + 1) (start + length text + 1) rest))) reads

-- ---- what a line adds

thread-no_comment : (thread : ℕ) → thread < 10 → is_comment (decimal thread) ≡ false
unfolding is_comment
thread-no_comment thread few = let other : nat_eq (48 + thread) 35 ≡ false = grind (arith, nat_tests) in
    ap is_comment (decimal_digit thread few) ∙ other

thread-digit : (thread : ℕ) → thread < 10 → begins_with_digit (decimal thread) ≡ true
unfolding begins_with_digit
thread-digit thread few = let digit : is_ascii_digit (48 + thread) ≡ true = grind (arith, nat_tests) in
    ap begins_with_digit (decimal_digit thread few) ∙ digit

after_words-around : (so_far : SoFar) (words : List (List ℕ)) (line : TraceLine) (text : List ℕ) → line.thread < 10 → IsLineFrom words line
    → after_words so_far line.number text (words_around words line) ≡ with_line so_far line
unfolding after_words
after_words-around so_far words line text few is =
    rw (thread-no_comment line.thread few, thread-digit line.thread few, line_of-around words line is) refl

-- so many lines more
abbrev pub with_lines : SoFar → List TraceLine → SoFar
with_lines so_far more = record so_far { lines = so_far.lines ++ more }

with_line-added : (so_far : SoFar) (line : TraceLine) → length so_far.lines < 1000000 → is_maps line.op ≡ false
    → child_of line.op ≡ None → line.after ≡ None → with_line so_far line ≡ Ok (with_lines so_far (line ∷ []))
unfolding with_line names_rightly forks_rightly is_full with_one
with_line-added so_far line room no_maps no_child alone =
    let few : nat_le 1000000 (length so_far.lines) ≡ false = grind (arith, nat_tests) in
    rw (few, no_maps, no_child, alone)
    (ap (λ (children : List ℕ). Ok (record so_far {
      lines = so_far.lines ++ record line { after = None } ∷ [];
      children = children;
    })) (append-nil so_far.children))

after_line-added : (write : Op → List (List ℕ)) (so_far : SoFar) (line : TraceLine) (start : ℕ) → 1 < line.number → IsReadableBy write line
    → length so_far.lines < 1000000 → start + length (text_by write line) + 1 ≤ input_limit
    → after_trace_line so_far (raw_line line.number start (text_by write line) true) ≡ Ok (with_lines so_far (line ∷ []))
unfolding after_trace_line
after_line-added write so_far line start later is room within =
    let text = text_by write line in
    let short = length-text write line is in
    let small = is.room in
    let read = text_of-utf8 line.number start text (shown-utf8 text (text-shown write line is)) (omega arith) within in
    let other : nat_eq line.number 1 ≡ false = grind (arith, nat_tests) in
    rw (read, other) (ap (after_words so_far line.number text) (words_of-around (write line.op) line is.from)
    ∙ after_words-around so_far (write line.op) line text is.few is.from
    ∙ with_line-added so_far line room is.no_maps is.no_child is.alone)

-- ---- all lines

-- lines are read, each as it is written, where they are few and lie within the limit
pub after_all : (write : Op → List (List ℕ)) (lines : List TraceLine) (number start : ℕ) (so_far : SoFar) → 1 < number
    → AreNumberedFrom number lines → All (IsReadableBy write) lines → length so_far.lines + length lines ≤ 1000000
    → start + length (flat_map (line_text_by write) lines) ≤ input_limit
    → after_trace_lines so_far (lines_from number start (flat_map (line_text_by write) lines)) ≡ Ok (with_lines so_far lines)
after_all write [] number start so_far later numbered are room within =
    ap (after_trace_lines so_far) (lines_from-nil number start)
    ∙ ap (λ (all : List TraceLine). Ok (record so_far { lines = all })) (sym (append-nil so_far.lines))
after_all write (line ∷ others) number start so_far later numbered are room within =
    let is = All-head (IsReadableBy write) line others are in
    let text = text_by write line in
    let rest = flat_map (line_text_by write) others in
    let is_number = numbered.0 in
    let one = length-append so_far.lines (line ∷ []) in
    let all = length-append (line_text_by write line) rest in
    let newline = length-append text (10 ∷ []) in
    let added : after_trace_line so_far (raw_line number start text true) ≡ Ok (with_lines so_far (line ∷ [])) =
    ap (λ (n : ℕ). after_trace_line so_far (raw_line n start text true)) (sym is_number)
    ∙ after_line-added write so_far line start (omega arith) is (omega arith) (omega arith) in
    after_more so_far (with_lines so_far (line ∷ [])) number start text rest (shown-single text (text-shown write line is)) added
    ∙ after_all write others (number + 1) (start + length text + 1) (with_lines so_far (line ∷ [])) (omega arith) numbered.1
    (All-tail (IsReadableBy write) line others are) (omega arith) (omega arith)
    ∙ ap (λ (all : List TraceLine). Ok (record so_far { lines = all })) (append_assoc so_far.lines (line ∷ []) others)

-- ---- the header, and the whole

header-shown : All IsShown (codes "vmatrace 1")
header-shown = shown_from_test (codes "vmatrace 1") refl

header-reads : after_trace_line nothing (raw_line 1 0 (codes "vmatrace 1") true) ≡ Ok nothing
unfolding after_trace_line with_header read_version is_header words_of input_limit
header-reads = rw (text_of-utf8 1 0 (codes "vmatrace 1") (shown-utf8 (codes "vmatrace 1") header-shown) (lit≤ tt) (lit≤ tt)) refl

-- below the header stand the lines from number 2 on
pub lines_read-header : (rest : List ℕ) → lines_read (codes "vmatrace 1\n" ++ rest) ≡ after_trace_lines nothing (lines_from 2 11 rest)
unfolding lines_read
lines_read-header rest =
    after_more nothing nothing 1 0 (codes "vmatrace 1") rest (shown-single (codes "vmatrace 1") header-shown) header-reads

-- the trace of bytes whose lines were all read
pub trace_of-read : (bytes : List ℕ) (so_far : SoFar) → 0 < length bytes → lines_read bytes ≡ Ok so_far
    → trace_of bytes ≡ Ok (trace_so_far so_far)
unfolding trace_of
trace_of-read bytes so_far some read =
    let apart : nat_eq (length bytes) 0 ≡ false = ne_eqb (length bytes) 0 (λ none. omega arith) in
    cond-false (nat_eq (length bytes) 0) (Err (bad_line 1 Header)) (whole_trace (lines_read bytes)) apart ∙ ap whole_trace read
