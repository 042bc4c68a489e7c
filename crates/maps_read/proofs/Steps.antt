-- For the functions that take lines and print them: one step of each loop, and what a call of each leaves.
use Rattle.std.proofs.Common.{◌≡◌, ◌<◌, ◌≤◌, ◌+◌, ℕ, zero, suc, Bool, false, not, cond, nat_eq, nat_lt, List, [], ◌∷◌, ◌++◌, length, map, drop, get_or, Some, None, position, Result, Ok, Err, refl, sym, ap, ◌∙◌, subst, append_assoc, append-nil, arith}
use Rattle.std.specs.List.{position_or_len}
use Rattle.std.proofs.lemmas.Bool.{cond-false}
use Rattle.std.proofs.lemmas.List.{drop_all}
use Rattle.mm_types.specs.declared.area.Record.{Record}
use Rattle.text_lexer.specs.declared.error.CallError.{CallError}
use Rattle.text_lexer.specs.declared.error.CallError.TheVariants as calls
use Rattle.text_lexer.specs.declared.error.Cause.{Cause}
use Rattle.text_lexer.specs.declared.error.BadLine.{BadLine}
use Rattle.text_lexer.specs.Causes.{◌>>=◌}
use Rattle.text_lexer.specs.BadLines.{at_line}
use Rattle.text_lexer.specs.Lines.{RawLine, lines_from}
use Rattle.text_lexer.specs.Reading.{Fails, Gives}
use Rattle.text_lexer.proofs.RawPieces.{lines_from-nil}
use Rattle.maps_read.specs.declared.maps.MapsLine.{MapsLine}
use Rattle.maps_read.specs.FileLines.{first_line_of_file, file_text, file_texts}
use Rattle.maps_read.specs.Retracing.{Taken, areas_with, with_next_file, with_file_at, with_file_taken, file_at, with_line_taken, with_lines}
use Rattle.maps_read.proofs.RawMaps.{AreReadAs}

-- ---- lists

-- what is left of a list that is seen by a view, from a place on
pub dropped : {A B : Type 0} (f : A → B) (xs : List A) (i : ℕ) (x : A) → i < length xs → x ≡ get_or xs i x
    → drop i (map f xs) ≡ f x ∷ drop (i + 1) (map f xs)
dropped f [] i x within is = absurd (omega arith)
dropped f (y ∷ ys) zero x within is = ap (λ a. f a ∷ map f ys) (sym is)
dropped f (y ∷ ys) (suc i) x within is = dropped f ys i x (omega arith) is
    ∙ ap (λ (n : ℕ). f x ∷ drop n (map f (y ∷ ys))) (let e : suc (i + 1) ≡ suc i + 1 = omega arith in e)

pub dropped_item : {A : Type 0} (xs : List A) (i : ℕ) (x : A) → i < length xs → x ≡ get_or xs i x → drop i xs ≡ x ∷ drop (i + 1) xs
dropped_item [] i x within is = absurd (omega arith)
dropped_item (y ∷ ys) zero x within is = ap (λ a. a ∷ ys) (sym is)
dropped_item (y ∷ ys) (suc i) x within is = dropped_item ys i x (omega arith) is
    ∙ ap (λ (n : ℕ). x ∷ drop n (y ∷ ys)) (let e : suc (i + 1) ≡ suc i + 1 = omega arith in e)

pub length_map : {A B : Type 0} (f : A → B) (xs : List A) → length (map f xs) ≡ length xs
length_map f [] = refl
length_map f (x ∷ xs) = let rest = length_map f xs in omega arith

first_map : {A B : Type 0} (p : B → Bool) (f : A → B) (xs : List A) → position_or_len p (map f xs) ≡ position_or_len (λ x. p (f x)) xs
first_map p f [] = refl
first_map p f (x ∷ xs) = ap (λ (n : ℕ). cond (not (p (f x))) (1 + n) 0) (first_map p f xs)

-- the place of the first element that passes, through a view
pub position_map : {A B : Type 0} (p : B → Bool) (f : A → B) (xs : List A) → position p (map f xs) ≡ position (λ x. p (f x)) xs
position_map p f xs =
    ap (λ (n : ℕ). cond (nat_lt n (length (map f xs))) (Some n) None) (first_map p f xs)
    ∙ ap (λ (n : ℕ). cond (nat_lt (position_or_len (λ x. p (f x)) xs) n) (Some (position_or_len (λ x. p (f x)) xs)) None) (length_map f xs)

-- ---- taking a line

pub file_so_far : (taken : Taken) (line : MapsLine) (place : ℕ) → first_line_of_file taken.named line ≡ Some place → with_file_taken taken line ≡ Ok (taken, place)
unfolding with_file_taken
file_so_far taken line place at = ap (λ o. with_file_at taken o line) at

pub file_next : (taken next : Taken) (line : MapsLine) → first_line_of_file taken.named line ≡ None → with_next_file taken line ≡ Ok next
    → with_file_taken taken line ≡ Ok (next, length taken.named)
unfolding with_file_taken
file_next taken next line at e = ap (λ o. with_file_at taken o line) at ∙ ap (λ read. read >>= λ n. Ok (n, length taken.named)) e

pub file_fails : (taken : Taken) (line : MapsLine) (error : CallError) → first_line_of_file taken.named line ≡ None → Fails error (with_next_file taken line)
    → Fails error (with_file_taken taken line)
unfolding with_file_taken
file_fails taken line (calls.Bad cause) at e = ap (λ o. with_file_at taken o line) at ∙ ap (λ read. read >>= λ n. Ok (n, length taken.named)) e
file_fails taken line calls.NoMemory at e = tt

-- what adding the area leaves
pub area_given : (answer : Result (Unit {0}) CallError) (read : Result (List Record) Cause) (taken : Taken) (more : List Record)
    → Gives (λ _. more) answer read → Gives (λ _. record taken { areas = more }) answer (read >>= λ areas. Ok (record taken { areas = areas }))
area_given (Ok done) read taken more gives = ap (λ r. r >>= λ areas. Ok (record taken { areas = areas })) gives
area_given (Err (calls.Bad cause)) read taken more gives = ap (λ r. r >>= λ areas. Ok (record taken { areas = areas })) gives
area_given (Err calls.NoMemory) read taken more gives = tt

pub line_of_file : (taken mid : Taken) (place : ℕ) (line : MapsLine) (text : List ℕ) → nat_eq (length line.name) 0 ≡ false
    → with_file_taken taken line ≡ Ok (mid, place)
    → with_line_taken taken line text ≡ (areas_with mid.areas (file_at mid place) (place + 1) line text >>= λ areas. Ok (record mid { areas = areas }))
unfolding with_line_taken
line_of_file taken mid place line text some e =
    cond-false (nat_eq (length line.name) 0) _ _ some
    ∙ ap (λ read. read >>= λ found. (areas_with found.0.areas (file_at found.0 found.1) (found.1 + 1) line text >>= λ areas. Ok (record found.0 { areas = areas }))) e

-- ---- taking lines

-- bytes are left where a line is
pub some_left : (number start : ℕ) (bytes : List ℕ) (line : MapsLine) (lines left : List MapsLine) → left ≡ line ∷ lines
    → AreReadAs (lines_from number start bytes) left → 0 < length bytes
some_left number start [] line lines left is are = absurd (subst (λ (raws : List RawLine). AreReadAs raws (line ∷ lines)) (lines_from-nil number start)
    (subst (AreReadAs (lines_from number start [])) is are))
some_left number start (b ∷ bytes) line lines left is are = omega arith

pub take_more : (before after : Taken) (raws more : List RawLine) (raw : RawLine) (line : MapsLine) (left lines : List MapsLine) (all : Result Taken BadLine)
    → with_lines before raws left ≡ all → raws ≡ raw ∷ more → left ≡ line ∷ lines → with_line_taken before line raw.text ≡ Ok after
    → with_lines after more lines ≡ all
take_more before after raws more raw line left lines all so_far first is good =
    sym (ap (λ read. at_line raw.number read (λ next. with_lines next more lines)) good)
    ∙ sym (ap (λ (r : List RawLine). with_lines before r (line ∷ lines)) first)
    ∙ sym (ap (with_lines before raws) is) ∙ so_far

pub read_more : (raws more : List RawLine) (raw : RawLine) (line : MapsLine) (left lines : List MapsLine)
    → AreReadAs raws left → raws ≡ raw ∷ more → left ≡ line ∷ lines → AreReadAs more lines
read_more raws more raw line left lines are first is =
    let both : AreReadAs (raw ∷ more) (line ∷ lines) = subst (λ (r : List RawLine). AreReadAs r (line ∷ lines)) first (subst (AreReadAs raws) is are) in
    both.1

take_none : (taken : Taken) (raws : List RawLine) → with_lines taken raws [] ≡ Ok taken
take_none taken [] = refl
take_none taken (raw ∷ raws) = refl

pub all_taken : (taken : Taken) (raws : List RawLine) (lines : List MapsLine) (index : ℕ) (all : Result Taken BadLine)
    → with_lines taken raws (drop index lines) ≡ all → length lines ≤ index → all ≡ Ok taken
all_taken taken raws lines index all so_far past =
    sym so_far ∙ ap (with_lines taken raws) (drop_all index lines past) ∙ take_none taken raws

-- ---- printing

pub file_printed : (old new : List ℕ) (fd i : ℕ) (all : List MapsLine) (line : MapsLine) (whole : List ℕ)
    → drop i all ≡ line ∷ drop (i + 1) all → new ≡ old ++ file_text fd line → old ++ file_texts fd (drop i all) ≡ whole
    → new ++ file_texts (fd + 1) (drop (i + 1) all) ≡ whole
unfolding file_texts
file_printed old new fd i all line whole is adds so_far =
    ap (λ (t : List ℕ). t ++ file_texts (fd + 1) (drop (i + 1) all)) adds
    ∙ append_assoc old (file_text fd line) (file_texts (fd + 1) (drop (i + 1) all))
    ∙ ap (λ (left : List MapsLine). old ++ file_texts fd left) (sym is) ∙ so_far

pub files_printed : (text : List ℕ) (fd i : ℕ) (all : List MapsLine) (front files rest : List ℕ) → length all ≤ i
    → text ++ file_texts fd (drop i all) ≡ front ++ files → text ++ rest ≡ front ++ (files ++ rest)
unfolding file_texts
files_printed text fd i all front files rest past so_far =
    let done : text ≡ front ++ files = sym (append-nil text) ∙ ap (λ (left : List MapsLine). text ++ file_texts fd left) (sym (drop_all i all past)) ∙ so_far in
    ap (λ (t : List ℕ). t ++ rest) done ∙ append_assoc front files rest
