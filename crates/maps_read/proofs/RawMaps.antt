-- For `take_lines` and `retraced_text_makes_the_maps`: the lines of a maps text, and the bytes that they were read from.
use Rattle.std.proofs.Common.{◌≡◌, ℕ, zero, suc, ◌+◌, Bool, true, false, not, nat_eq, List, [], ◌∷◌, ◌++◌, length, flat_map, codes, All, Result, Ok, Err, if◌then◌else◌, refl, sym, ap, ◌∙◌, append_assoc, append-nil, arith}
use Rattle.std.specs.List.{slice_split, onto_first, join_with_byte, position_or_len, AllByRecursion as Each}
use Rattle.std.specs.Str.{is_utf8, byte}
use Rattle.std.proofs.lemmas.Bool.{cond_both, eqb-true}
use Rattle.std.proofs.lemmas.List.Elements.{All-nil, All-cons, All-drop}
use Rattle.std.proofs.lemmas.List.Splits.{join_with_byte-slice_split}
use Rattle.mm_types.specs.Rows.{first_row}
use Rattle.text_lexer.specs.declared.error.Cause.{Cause}
use Rattle.text_lexer.specs.declared.error.Cause.TheVariants.{TooLong, NoEnd, Utf8, MapsOrder}
use Rattle.text_lexer.specs.Causes.{◌>>=◌, unless}
use Rattle.text_lexer.specs.BadLines.{at_line, lines_leave}
use Rattle.text_lexer.specs.Lines.{input_limit, RawLine, raw_line, is_newline, is_longer_than, text_within, lines_of_pieces, lines_from, raw_lines}
use Rattle.maps_read.specs.declared.maps.MapsLine.{MapsLine}
use Rattle.maps_read.specs.Fields.{behind, behind_words, word_behind, leading_spaces, without_leading_spaces, read_hexadecimal, decimal, bounds, read_maps_device, read_perms, maps_line_of_words, read_maps_line}
use Rattle.maps_read.specs.Maps.{lines_end, is_in_order, next_maps_line, after_maps_line, maps_of}

abbrev ok_of : {A E : Type 0} → A → Result A E
ok_of a = Ok a

same_ok : {A E : Type 0} (a b : A) → ok_of {A = A} {E = E} a ≡ ok_of {A = A} {E = E} b → a ≡ b
same_ok a b e = cc

-- ---- lines that were read

-- a raw line that ends, and is read as this line
pub record IsReadAs (raw : RawLine) (line : MapsLine) : Type 0 where
  pub ended : raw.ended ≡ true
  pub reads : read_maps_line raw.text ≡ Ok line

-- so are raw lines, one by one
abbrev pub AreReadAs : List RawLine → List MapsLine → Type 0
AreReadAs [] [] = Unit {0}
AreReadAs (raw ∷ raws) (line ∷ lines) = IsReadAs raw line × AreReadAs raws lines
AreReadAs [] (line ∷ lines) = ⊥
AreReadAs (raw ∷ raws) [] = ⊥

pub same_length : (raws : List RawLine) (lines : List MapsLine) → AreReadAs raws lines → length raws ≡ length lines
same_length [] [] are = refl
same_length (raw ∷ raws) (line ∷ lines) are = let rest = same_length raws lines are.1 in omega arith
same_length [] (line ∷ lines) are = absurd are
same_length (raw ∷ raws) [] are = absurd are

-- one line and those behind it, which lines that were all read are
record IsReadBehind (raw : RawLine) (before after : List MapsLine) : Type 0 where
  line : MapsLine
  read : IsReadAs raw line
  is : after ≡ before ++ line ∷ []

tests : (long ended utf8 : Bool) (text : List ℕ) (rest : List ℕ → Result MapsLine Cause) (line : MapsLine)
    → (unless (first_row ((long, TooLong) ∷ (not ended, NoEnd) ∷ (not utf8, Utf8) ∷ [])) (Ok text) >>= rest) ≡ Ok line
    → (ended ≡ true) × (rest text ≡ Ok line)
tests true ended utf8 text rest line e = absurd (cc e)
tests false false utf8 text rest line e = absurd (cc e)
tests false true false text rest line e = absurd (cc e)
tests false true true text rest line e = (refl, e)

in_order : (test : Bool) (a line : MapsLine) → (if test then Ok a else Err MapsOrder) ≡ Ok line → a ≡ line
in_order true a line e = same_ok a line e
in_order false a line e = absurd (cc e)

ordered : (end : ℕ) (read : Result MapsLine Cause) (line : MapsLine) → (read >>= λ a. if is_in_order end a then Ok a else Err MapsOrder) ≡ Ok line
    → read ≡ Ok line
ordered end (Ok a) line e = ap Ok (in_order (is_in_order end a) a line e)
ordered end (Err cause) line e = absurd (cc e)

next_read : (end : ℕ) (raw : RawLine) (line : MapsLine) → next_maps_line end raw ≡ Ok line → IsReadAs raw line
unfolding next_maps_line text_within
next_read end raw line e =
    let parts = tests (is_longer_than 8192 input_limit raw) raw.ended (is_utf8 raw.text) raw.text
    (λ text. read_maps_line text >>= λ a. if is_in_order end a then Ok a else Err MapsOrder) line e in
    record { ended = parts.0; reads = ordered end (read_maps_line raw.text) line parts.1 }

one_read : (before after : List MapsLine) (raw : RawLine) → after_maps_line before raw ≡ Ok after → IsReadBehind raw before after
unfolding after_maps_line
one_read before after raw e = by_next (next_maps_line (lines_end before) raw) refl e
  where
    by_next : (next : Result MapsLine Cause) → next_maps_line (lines_end before) raw ≡ next → (next >>= λ line. Ok (before ++ line ∷ [])) ≡ Ok after
        → IsReadBehind raw before after
    by_next (Ok line) is e = record { line = line; read = next_read (lines_end before) raw line is; is = sym (same_ok (before ++ line ∷ []) after e) }
    by_next (Err cause) is e = absurd (cc e)

-- what lines that were all read are behind some
record AreReadBehind (raws : List RawLine) (before after : List MapsLine) : Type 0 where
  lines : List MapsLine
  read : AreReadAs raws lines
  are : after ≡ before ++ lines

all_read : (raws : List RawLine) (before after : List MapsLine) → lines_leave after_maps_line before raws ≡ Ok after → AreReadBehind raws before after
all_read [] before after e = record { lines = []; read = tt; are = sym (append-nil before ∙ same_ok before after e) }
all_read (raw ∷ raws) before after e =
    by_first (λ next. all_read raws next after) (after_maps_line before raw) refl e
  where
    by_first : ((next : List MapsLine) → lines_leave after_maps_line next raws ≡ Ok after → AreReadBehind raws next after)
        → (first : Result (List MapsLine) Cause) → after_maps_line before raw ≡ first
        → at_line raw.number first (λ next. lines_leave after_maps_line next raws) ≡ Ok after → AreReadBehind (raw ∷ raws) before after
    by_first others (Ok next) is e =
        let one = one_read before next raw is in
        let rest = others next e in
        record {
          lines = one.line ∷ rest.lines;
          read = (one.read, rest.read);
          are = rest.are ∙ ap (λ (front : List MapsLine). front ++ rest.lines) one.is ∙ append_assoc before (one.line ∷ []) rest.lines;
        }
    by_first others (Err cause) is e = absurd (cc e)

-- the lines of a maps text are its raw lines, each read
pub maps_read_as : (bytes : List ℕ) (lines : List MapsLine) → maps_of bytes ≡ Ok lines → AreReadAs (raw_lines bytes) lines
unfolding maps_of
maps_read_as bytes lines e =
    let read = all_read (raw_lines bytes) [] lines e in rw read.are read.read

-- ---- their bytes

-- the bytes of a line with its newline
abbrev pub line_bytes : RawLine → List ℕ
line_bytes raw = raw.text ++ codes "\n"

-- lines that all end have all bytes
pieces_bytes : (number start : ℕ) (pieces : List (List ℕ)) → Each (λ raw. raw.ended ≡ true) (lines_of_pieces number start pieces)
    → flat_map line_bytes (lines_of_pieces number start pieces) ≡ join_with_byte 10 pieces
pieces_bytes number start [] ended = refl
pieces_bytes number start (text ∷ []) ended = by_length (nat_eq (length text) 0) refl ended
  where
    empty : (t : List ℕ) → nat_eq (length t) 0 ≡ true → [] ≡ t
    empty [] e = refl
    empty (c ∷ t) e = absurd (omega (arith, eqb-true (length (c ∷ t)) 0 e))

    by_length : (none : Bool) → nat_eq (length text) 0 ≡ none
        → Each (λ raw. raw.ended ≡ true) (if none then [] else raw_line number start text false ∷ [])
        → flat_map line_bytes (if none then [] else raw_line number start text false ∷ []) ≡ text
    by_length true is ended = empty text is
    by_length false is ended = absurd (cc ended.0)
pieces_bytes number start (text ∷ next ∷ pieces) ended =
    append_assoc text (10 ∷ []) (flat_map line_bytes (lines_of_pieces (number + 1) (start + length text + 1) (next ∷ pieces)))
    ∙ ap (λ (rest : List ℕ). text ++ (10 ∷ rest)) (pieces_bytes (number + 1) (start + length text + 1) (next ∷ pieces) ended.1)

read_ended : (raws : List RawLine) (lines : List MapsLine) → AreReadAs raws lines → Each (λ raw. raw.ended ≡ true) raws
read_ended [] [] are = tt
read_ended (raw ∷ raws) (line ∷ lines) are = (are.0.ended, read_ended raws lines are.1)
read_ended [] (line ∷ lines) are = absurd are
read_ended (raw ∷ raws) [] are = absurd are

pub all_bytes : (bytes : List ℕ) (lines : List MapsLine) → AreReadAs (raw_lines bytes) lines → flat_map line_bytes (raw_lines bytes) ≡ bytes
unfolding lines_from
all_bytes bytes lines are =
    pieces_bytes 1 0 (slice_split is_newline bytes) (read_ended (raw_lines bytes) lines are) ∙ join_with_byte-slice_split 10 bytes

-- ---- no newline stands in a line

-- no newline stands in a text
abbrev pub IsSingle : List ℕ → Type 0
IsSingle text = All (λ c. is_newline c ≡ false) text

pieces_single : (bytes : List ℕ) → Each IsSingle (slice_split is_newline bytes)
pieces_single [] = (All-nil (λ c. is_newline c ≡ false), tt)
pieces_single (c ∷ bytes) = cond_both (is_newline c) ([] ∷ slice_split is_newline bytes) (onto_first c (slice_split is_newline bytes))
    (λ pieces. Each IsSingle pieces)
    (λ _. (All-nil (λ c. is_newline c ≡ false), pieces_single bytes))
    (λ other. onto c other (slice_split is_newline bytes) (pieces_single bytes))
  where
    onto : (c : ℕ) → is_newline c ≡ false → (pieces : List (List ℕ)) → Each IsSingle pieces → Each IsSingle (onto_first c pieces)
    onto c other [] are = (All-cons (λ c. is_newline c ≡ false) c [] other (All-nil (λ c. is_newline c ≡ false)), tt)
    onto c other (piece ∷ pieces) are = (All-cons (λ c. is_newline c ≡ false) c piece other are.0, are.1)

lines_single : (number start : ℕ) (pieces : List (List ℕ)) → Each IsSingle pieces → Each (λ raw. IsSingle raw.text) (lines_of_pieces number start pieces)
lines_single number start [] are = tt
lines_single number start (text ∷ []) are = cond_both (nat_eq (length text) 0) [] (raw_line number start text false ∷ []) (Each (λ raw. IsSingle raw.text))
    (λ _. tt) (λ _. (are.0, tt))
lines_single number start (text ∷ next ∷ pieces) are = (are.0, lines_single (number + 1) (start + length text + 1) (next ∷ pieces) are.1)

pub raws_single : (bytes : List ℕ) → Each (λ raw. IsSingle raw.text) (raw_lines bytes)
unfolding lines_from
raws_single bytes = lines_single 1 0 (slice_split is_newline bytes) (pieces_single bytes)

-- nor in a name that was read from one
bound_ok : {A B : Type 0} (read : Result A Cause) (f : A → Result B Cause) (b : B) → (read >>= f) ≡ Ok b → (a : A) × (f a ≡ Ok b)
bound_ok (Ok a) f b e = (a, e)
bound_ok (Err cause) f b e = absurd (cc e)

name_of_words : (addresses letters start numbers node name : List ℕ) (line : MapsLine)
    → maps_line_of_words addresses letters start numbers node name ≡ Ok line → line.name ≡ name
unfolding maps_line_of_words
name_of_words addresses letters start numbers node name line e =
    let first = bound_ok (bounds addresses) _ line e in
    let second = bound_ok (read_perms letters) _ line first.1 in
    let third = bound_ok (read_hexadecimal 16 start) _ line second.1 in
    let fourth = bound_ok (read_maps_device numbers) _ line third.1 in
    let fifth = bound_ok (decimal node) _ line fourth.1 in
    ap (λ (l : MapsLine). l.name) (sym (same_ok _ line fifth.1))

behind_single : (count : ℕ) (text : List ℕ) → IsSingle text → IsSingle (behind_words count text)
behind_single zero text single = single
behind_single (suc count) text single = behind_single count (behind (byte " ") text)
    (All-drop (λ c. is_newline c ≡ false) (position_or_len (λ c. nat_eq c (byte " ")) text + 1) text single)

pub name_single : (text : List ℕ) (line : MapsLine) → IsSingle text → read_maps_line text ≡ Ok line → IsSingle line.name
unfolding read_maps_line without_leading_spaces leading_spaces
name_single text line single e =
    let is = name_of_words (word_behind 0 text) (word_behind 1 text) (word_behind 2 text) (word_behind 3 text) (word_behind 4 text) (without_leading_spaces (behind_words 5 text)) line e in
    rw is (All-drop (λ c. is_newline c ≡ false) (leading_spaces (behind_words 5 text)) (behind_words 5 text) (behind_single 5 text single))
