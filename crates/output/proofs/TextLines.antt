-- Texts that are compared line by line: what lines make of bytes joined, and which texts agree in their first lines.
use Rattle.std.proofs.Common.{ℕ, suc, ◌≡◌, ◌+◌, ◌≤◌, ◌∙◌, refl, sym, ap, Bool, true, false, not, ◌&&◌, List, [], ◌∷◌, ◌++◌, append_assoc, append-nil, length, length-append, take, drop, codes, inl, inr}
use Rattle.std.specs.List.{concat}
use Rattle.std.proofs.Math.Seq.{take-append-add, drop-append_seam, take-append-le, take-take}
use Rattle.std.proofs.lemmas.Bool.{cases_Bool}
use Rattle.text_lexer.specs.Lines.{is_newline}
use Rattle.output.specs.TextLines.{onto_first, text_lines}
use Rattle.output.specs.Internal.Printed.{has_none, IsLine}

-- the first of bytes without a newline is none, and the others have none
pub plain_parts : (first rest : Bool) → (not first && rest) ≡ true → (first ≡ false) × (rest ≡ true)
plain_parts true rest plain = absurd (cc)
plain_parts false rest plain = (refl, plain)

body_then : (body rest : List ℕ) → has_none body ≡ true → text_lines ((body ++ codes "\n") ++ rest) ≡ (body ++ codes "\n") ∷ text_lines rest
unfolding text_lines
body_then [] rest plain = refl
body_then (c ∷ body) rest plain =
    let parts = plain_parts (is_newline c) (has_none body) plain in
    let other : is_newline c ≡ false = parts.0 in
    rw other (ap (onto_first c) (body_then body rest parts.1))

-- a line, and what stands behind it
pub line_then : (line rest : List ℕ) → IsLine line → text_lines (line ++ rest) ≡ line ∷ text_lines rest
line_then line rest is =
    ap (λ (l : List ℕ). text_lines (l ++ rest)) is.is ∙ body_then is.body rest is.plain.none ∙ ap (λ (l : List ℕ). l ∷ text_lines rest) (sym is.is)

onto_joined : (c : ℕ) (lines : List (List ℕ)) → concat (onto_first c lines) ≡ c ∷ concat lines
onto_joined c [] = refl
onto_joined c (line ∷ lines) = refl

-- the lines of a text, joined, are the text
pub joined : (text : List ℕ) → concat (text_lines text) ≡ text
unfolding text_lines
joined [] = refl
joined (c ∷ text) = elim (cases_Bool (is_newline c)) [
  | inl ends ↦ rw ends (ap (λ (l : List ℕ). c ∷ l) (joined text))
  | inr other ↦ rw other (onto_joined c (text_lines text) ∙ ap (λ (l : List ℕ). c ∷ l) (joined text))
]

-- bytes that are whole lines
abbrev pub IsWhole : List ℕ → Type 0
IsWhole before = (rest : List ℕ) → text_lines (before ++ rest) ≡ text_lines before ++ text_lines rest

pub whole_none : IsWhole []
unfolding text_lines
whole_none = λ rest. refl

lines_more : (before line : List ℕ) → IsWhole before → IsLine line → text_lines (before ++ line) ≡ text_lines before ++ line ∷ []
unfolding text_lines
lines_more before line whole is =
    whole line ∙ ap (λ (l : List ℕ). text_lines before ++ text_lines l) (sym (append-nil line))
    ∙ ap (λ (l : List (List ℕ)). text_lines before ++ l) (line_then line [] is)

pub whole_more : (before line : List ℕ) → IsWhole before → IsLine line → IsWhole (before ++ line)
whole_more before line whole is = λ rest.
    ap text_lines (append_assoc before line rest) ∙ whole (line ++ rest)
    ∙ ap (λ (l : List (List ℕ)). text_lines before ++ l) (line_then line rest is)
    ∙ sym (append_assoc (text_lines before) (line ∷ []) (text_lines rest))
    ∙ ap (λ (l : List (List ℕ)). l ++ text_lines rest) (sym (lines_more before line whole is))

pub count_more : (before line : List ℕ) → IsWhole before → IsLine line → length (text_lines (before ++ line)) ≡ length (text_lines before) + 1
count_more before line whole is =
    ap (λ (l : List (List ℕ)). length l) (lines_more before line whole is) ∙ length-append (text_lines before) (line ∷ [])

-- texts that begin with the same lines agree in these
pub agree_front : (before a b : List ℕ) (count : ℕ) → IsWhole before → count ≤ length (text_lines before)
    → take count (text_lines (before ++ a)) ≡ take count (text_lines (before ++ b))
agree_front before a b count whole within =
    ap (take count) (whole a) ∙ take-append-le count (text_lines before) (text_lines a) within
    ∙ sym (take-append-le count (text_lines before) (text_lines b) within) ∙ ap (take count) (sym (whole b))

-- and where they agree in more, what stands behind agrees in these
pub agree_behind : (before a b : List ℕ) (more : ℕ) → IsWhole before
    → take (length (text_lines before) + more) (text_lines (before ++ a)) ≡ take (length (text_lines before) + more) (text_lines (before ++ b))
    → take more (text_lines a) ≡ take more (text_lines b)
agree_behind before a b more whole agree =
    let front : List (List ℕ) = text_lines before in
    let split : (rest : List ℕ) → take (length front + more) (text_lines (before ++ rest)) ≡ front ++ take more (text_lines rest) =
    λ rest. ap (take (length front + more)) (whole rest) ∙ take-append-add front (text_lines rest) more in
    sym (drop-append_seam front (take more (text_lines a)))
    ∙ ap (drop (length front)) (sym (split a) ∙ agree ∙ split b)
    ∙ drop-append_seam front (take more (text_lines b))

-- texts that agree in some lines agree in fewer
pub agree_fewer : (a b : List ℕ) (few many : ℕ) → few ≤ many → take many (text_lines a) ≡ take many (text_lines b)
    → take few (text_lines a) ≡ take few (text_lines b)
agree_fewer a b few many within agree =
    sym (take-take few many (text_lines a) within) ∙ ap (take few) agree ∙ take-take few many (text_lines b) within

first_of : (line : List ℕ) (lines : List (List ℕ)) (text : List ℕ) (some : List (List ℕ)) (more : ℕ) → text_lines text ≡ some
    → line ∷ take more lines ≡ take (suc more) some → (rest : List ℕ) × (text ≡ line ++ rest)
first_of line lines text [] more is same = absurd (cc)
first_of line lines text (first ∷ others) more is same =
    let one : line ≡ first = cc in
    (concat others, sym (joined text) ∙ ap concat is ∙ ap (λ (l : List ℕ). l ++ concat others) (sym one))

-- a text whose first line agrees with a line begins with it
pub first_agrees : (line rest text : List ℕ) (more : ℕ) → IsLine line
    → take (suc more) (text_lines (line ++ rest)) ≡ take (suc more) (text_lines text) → (behind : List ℕ) × (text ≡ line ++ behind)
first_agrees line rest text more is agree =
    first_of line (text_lines rest) text (text_lines text) more refl (ap (take (suc more)) (sym (line_then line rest is)) ∙ agree)

-- the first line of a text that begins with bytes without a newline
record Head (start rest : List ℕ) : Type 0 where
  behind : List ℕ
  others : List (List ℕ)
  lines : text_lines (start ++ rest) ≡ (start ++ behind) ∷ others

one_onto : (c : ℕ) (lines : List (List ℕ)) → (behind : List ℕ) × (others : List (List ℕ)) × (onto_first c lines ≡ (c ∷ behind) ∷ others)
one_onto c [] = ([], [], refl)
one_onto c (line ∷ lines) = (line, lines, refl)

goes_on : (c : ℕ) (text : List ℕ) → is_newline c ≡ false → text_lines (c ∷ text) ≡ onto_first c (text_lines text)
unfolding text_lines
goes_on c text other = rw other refl

head_of : (c : ℕ) (start rest : List ℕ) → has_none (c ∷ start) ≡ true → Head (c ∷ start) rest
head_of c [] rest plain =
    let one = one_onto c (text_lines rest) in
    record { behind = one.0; others = one.1; lines = goes_on c rest (plain_parts (is_newline c) true plain).0 ∙ one.2 }
head_of c (d ∷ start) rest plain =
    let parts = plain_parts (is_newline c) (has_none (d ∷ start)) plain in
    let head = head_of d start rest parts.1 in
    record {
      behind = head.behind;
      others = head.others;
      lines = goes_on c ((d ∷ start) ++ rest) parts.0 ∙ ap (onto_first c) head.lines;
    }

-- a text whose first line agrees with one that begins so begins so too
pub start_agrees : (c : ℕ) (start rest text : List ℕ) (more : ℕ) → has_none (c ∷ start) ≡ true
    → take (suc more) (text_lines ((c ∷ start) ++ rest)) ≡ take (suc more) (text_lines text)
    → (behind : List ℕ) × (text ≡ (c ∷ start) ++ behind)
start_agrees c start rest text more plain agree =
    let head = head_of c start rest plain in
    let found = first_of ((c ∷ start) ++ head.behind) head.others text (text_lines text) more refl
    (ap (take (suc more)) (sym head.lines) ∙ agree) in
    (head.behind ++ found.0, found.1 ∙ append_assoc (c ∷ start) head.behind found.0)
