-- For `answer_of` and the laws: what is printed for an address.
use Rattle.std.proofs.Common.{◌≡◌, ℕ, ◌+◌, ◌<◌, ◌≤◌, Bool, true, false, nat_lt, cond, List, [], ◌∷◌, length, take, drop, Some, None, IfSome, Result, Ok, Err, slice_get, refl, sym, ap, subst, ◌∙◌, arith, get_or}
use Rattle.std.specs.List.{position_or_len}
use Rattle.std.proofs.lemmas.Bool.{ltb-true}
use Rattle.std.proofs.lemmas.List.{take_all, length-drop, drop_more}
use Rattle.std.proofs.lemmas.Option.{slice_get-get_or}
use Rattle.text_lexer.specs.declared.error.BadLine.{BadLine}
use Rattle.text_lexer.specs.Lines.{input_limit, RawLine, lines_from, raw_lines}
use Rattle.text_lexer.proofs.RawPieces.{lines_from-nil}
use Rattle.maps_read.specs.declared.maps.MapsLine.{MapsLine}
use Rattle.maps_read.specs.Maps.{maps_of}
use Rattle.maps_read.specs.Query.{first_above, printed_for, query_text, query_answer}
use Rattle.maps_read.proofs.Bytes.{maps_of-front, maps_within, count_is}

was_read : (address : ℕ) (bytes text : List ℕ) (read : Result (List MapsLine) BadLine) → printed_for address bytes read ≡ Ok text
    → (lines : List MapsLine) × (read ≡ Ok lines)
was_read address bytes text (Ok lines) e = (lines, refl)
was_read address bytes text (Err first) e = absurd cc

-- bytes with an answer are within the limit
pub query_answer-within : (address : ℕ) (bytes text : List ℕ) → query_answer address bytes ≡ Ok text → length bytes ≤ input_limit
unfolding query_answer
query_answer-within address bytes text e =
    let read = was_read address bytes text (maps_of bytes) e in
    maps_within bytes read.0 read.1

-- what bytes past the limit do: they are no part of an answer
answered-same : (address : ℕ) (front bytes : List ℕ) (read : Result (List MapsLine) BadLine) → ((lines : List MapsLine) → read ≡ Ok lines → front ≡ bytes)
    → printed_for address front read ≡ printed_for address bytes read
answered-same address front bytes (Ok lines) same = ap (λ (bs : List ℕ). Ok (query_text bs (first_above address lines))) (same lines refl)
answered-same address front bytes (Err first) same = refl

-- one byte more than the limit settles the answer
pub query_answer-front : (address : ℕ) (bytes : List ℕ) → query_answer address (take (input_limit + 1) bytes) ≡ query_answer address bytes
unfolding query_answer
query_answer-front address bytes =
    ap (printed_for address (take (input_limit + 1) bytes)) (maps_of-front bytes)
    ∙ answered-same address (take (input_limit + 1) bytes) bytes (maps_of bytes)
    (λ lines read. take_all (input_limit + 1) bytes (omega (arith, maps_within bytes lines read)))

placed : (address : ℕ) (lines : List MapsLine) (b : Bool) → nat_lt (position_or_len (λ line. nat_lt address line.hi) lines) (length lines) ≡ b
    → IfSome (cond b (Some (position_or_len (λ line. nat_lt address line.hi) lines)) None) (λ place. place < length lines)
placed address lines true e = ltb-true (position_or_len (λ line. nat_lt address line.hi) lines) (length lines) e
placed address lines false e = tt

-- the line that is found is a line of the bytes
pub found_within : (address : ℕ) (bytes : List ℕ) (lines : List MapsLine) → maps_of bytes ≡ Ok lines
    → IfSome (first_above address lines) (λ place. place < length (raw_lines bytes))
found_within address bytes lines e = subst (λ (n : ℕ). IfSome (first_above address lines) (λ place. place < n)) (sym (count_is bytes lines e))
    (placed address lines _ refl)

-- lines are left, so bytes are
pub some_left : (number start place : ℕ) (rest : List ℕ) (lines : List RawLine) → lines_from number start rest ≡ drop place lines → place < length lines → 0 < length rest
some_left number start place [] lines e within = absurd (omega (arith, ap length (sym (lines_from-nil number start) ∙ e), length-drop place lines))
some_left number start place (b ∷ rest) lines e within = omega arith

-- the first of the lines that are left, and those behind it
pub drop_next : {X : Type 0} (place : ℕ) (lines more : List X) (line : X) → drop place lines ≡ line ∷ more
    → (drop (place + 1) lines ≡ more) × (slice_get lines place ≡ Some line)
drop_next place lines more line e =
    let within : place < length lines = omega (arith, length-drop place lines, ap length e) in
    let parts : line ∷ more ≡ get_or lines place line ∷ drop (place + 1) lines = sym e ∙ drop_more lines place line within in
    let first : get_or lines place line ≡ line = cc in
    let behind : drop (place + 1) lines ≡ more = cc in
    (behind, slice_get-get_or lines place line within ∙ ap Some first)

-- from the lines that are left, the first and those behind it
pub text_step : (number start next place : ℕ) (rest after : List ℕ) (line : RawLine) (lines : List RawLine) → number ≡ place + 1
    → lines_from (place + 1) start rest ≡ drop place lines → lines_from number start rest ≡ line ∷ lines_from (number + 1) next after
    → (lines_from (place + 1 + 1) next after ≡ drop (place + 1) lines) × (slice_get lines place ≡ Some line)
text_step number start next place rest after line lines same left parts =
    let whole = sym left ∙ ap (λ (n : ℕ). lines_from n start rest) (sym same) ∙ parts in
    let found = drop_next place lines (lines_from (number + 1) next after) line whole in
    (ap (λ (n : ℕ). lines_from (n + 1) next after) (sym same) ∙ sym found.0, found.1)
