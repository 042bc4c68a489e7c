-- Serves `answering.rt` and `laws.rt`: what a line does to the lines so far.
use Rattle.std.proofs.Common.{◌≡◌, ◌⊎◌, ℕ, Bool, true, false, nat_eq, nat_lt, nat_le, List, [], ◌∷◌, ◌++◌, length, codes, bytes_eq, Option, Some, None, Result, Ok, Err, ok_or, IfOk, if◌then◌else◌, refl, inl, inr, arith}
use Rattle.std.proofs.lemmas.Bool.{cond_both, eqb-true, ltb-false}
use Rattle.std.proofs.lemmas.List.{nil_from_length}
use Rattle.mm_types.specs.declared.config.TheConstants.{MOST_FILES}
use Rattle.mm_types.specs.declared.files.FileRow.{FileRow}
use Rattle.mm_types.specs.Rows.{first_row}
use Rattle.text_lexer.specs.declared.error.Cause.{Cause}
use Rattle.text_lexer.specs.declared.error.Cause.TheVariants.{FileTwice, Header, TooMany, Word}
use Rattle.text_lexer.specs.Causes.{◌>>=◌, unless}
use Rattle.text_lexer.specs.Lines.{RawLine, text_of}
use Rattle.text_lexer.specs.Words.{words_of, is_comment, begins_with_digit, text_after_words}
use Rattle.trace_reader.specs.declared.trace.TraceLine.{TraceLine}
use Rattle.trace_reader.specs.Grammar.{config_of}
use Rattle.trace_reader.specs.Lines.{SoFar, read_version, with_header, with_one, with_line, once, with_limit, with_top, with_min, with_heap, with_file, has_descriptor, after_setting, after_words, after_trace_line}
use Rattle.trace_reader.specs.Operations.{read_line}
use Rattle.trace_reader.specs.Settings.{limit_of, bound_of, read_file}

-- ---- what holds of a result

pub unless_holds : (P : SoFar → Type 0) (o : Option Cause) (r : Result SoFar Cause) → IfOk r P → IfOk (unless o r) P
unless_holds P None r holds = holds
unless_holds P (Some cause) r holds = tt

pub bind_holds : {A : Type 0} (P : SoFar → Type 0) (r : Result A Cause) (f : A → Result SoFar Cause) → ((x : A) → IfOk (f x) P) → IfOk (r >>= f) P
bind_holds P (Ok x) f holds = holds x
bind_holds P (Err cause) f holds = tt

once_holds : {A : Type 0} (P : SoFar → Type 0) (o : Option A) (r : Result SoFar Cause) → IfOk r P → IfOk (once o r) P
once_holds P None r holds = holds
once_holds P (Some x) r holds = tt

pub either : (P : SoFar → Type 0) (test : Bool) (x y : Result SoFar Cause) → (test ≡ true → IfOk x P) → (test ≡ false → IfOk y P) → IfOk (if test then x else y) P
either P test x y hx hy = cond_both test x y (λ r. IfOk r P) hx hy

always : (P : Type 0) (r : Result SoFar Cause) → P → IfOk r (λ _. P)
always P (Ok x) holds = holds
always P (Err cause) holds = tt

both : (P Q R : SoFar → Type 0) (r : Result SoFar Cause) → IfOk r P → IfOk r Q → ((x : SoFar) → P x → Q x → R x) → IfOk r R
both P Q R (Ok x) p q gives = gives x p q
both P Q R (Err cause) p q gives = tt

-- ---- a setting leaves the lines, and none stands behind a line

-- this holds of the lines
abbrev Of : (List TraceLine → Type 0) → SoFar → Type 0
Of Q so_far = Q so_far.lines

with_file-lines : (Q : List TraceLine → Type 0) (s : SoFar) (file : FileRow) → Q s.lines → IfOk (with_file s file) (Of Q)
unfolding with_file
with_file-lines Q s file some = unless_holds (Of Q) (first_row ((has_descriptor s.files file.fd, FileTwice) ∷ (nat_le MOST_FILES (length s.files), TooMany) ∷ []))
    (Ok (record s { files = s.files ++ file ∷ [] })) some

with_limit-lines : (Q : List TraceLine → Type 0) (s : SoFar) (words : List (List ℕ)) → Q s.lines → IfOk (with_limit s words) (Of Q)
unfolding with_limit
with_limit-lines Q s words some = once_holds (Of Q) s.areas (limit_of words >>= λ x. Ok (record s { areas = Some x }))
    (bind_holds (Of Q) (limit_of words) (λ x. Ok (record s { areas = Some x })) (λ x. some))

with_top-lines : (Q : List TraceLine → Type 0) (s : SoFar) (words : List (List ℕ)) → Q s.lines → IfOk (with_top s words) (Of Q)
unfolding with_top
with_top-lines Q s words some = once_holds (Of Q) s.top (bound_of words >>= λ x. Ok (record s { top = Some x }))
    (bind_holds (Of Q) (bound_of words) (λ x. Ok (record s { top = Some x })) (λ x. some))

with_min-lines : (Q : List TraceLine → Type 0) (s : SoFar) (words : List (List ℕ)) → Q s.lines → IfOk (with_min s words) (Of Q)
unfolding with_min
with_min-lines Q s words some = once_holds (Of Q) s.min (bound_of words >>= λ x. Ok (record s { min = Some x }))
    (bind_holds (Of Q) (bound_of words) (λ x. Ok (record s { min = Some x })) (λ x. some))

with_heap-lines : (Q : List TraceLine → Type 0) (s : SoFar) (words : List (List ℕ)) → Q s.lines → IfOk (with_heap s words) (Of Q)
unfolding with_heap
with_heap-lines Q s words some = once_holds (Of Q) s.heap (bound_of words >>= λ x. Ok (record s { heap = Some x }))
    (bind_holds (Of Q) (bound_of words) (λ x. Ok (record s { heap = Some x })) (λ x. some))

-- the first of six rows whose test holds, or else the last
of_rows : (P : SoFar → Type 0) (a b c d e f : Bool) (ra rb rc rd re rf rest : Result SoFar Cause) → IfOk ra P → IfOk rb P → IfOk rc P → IfOk rd P → IfOk re P
    → IfOk rf P → IfOk rest P → IfOk (if a then ra else (if b then rb else (if c then rc else (if d then rd else (if e then re else (if f then rf else rest)))))) P
of_rows P true b c d e f ra rb rc rd re rf rest ha hb hc hd he hf h = ha
of_rows P false true c d e f ra rb rc rd re rf rest ha hb hc hd he hf h = hb
of_rows P false false true d e f ra rb rc rd re rf rest ha hb hc hd he hf h = hc
of_rows P false false false true e f ra rb rc rd re rf rest ha hb hc hd he hf h = hd
of_rows P false false false false true f ra rb rc rd re rf rest ha hb hc hd he hf h = he
of_rows P false false false false false true ra rb rc rd re rf rest ha hb hc hd he hf h = hf
of_rows P false false false false false false ra rb rc rd re rf rest ha hb hc hd he hf h = h

pub after_setting-lines : (Q : List TraceLine → Type 0) (s : SoFar) (text first : List ℕ) (words : List (List ℕ)) → Q s.lines
    → IfOk (after_setting s text first words) (Of Q)
unfolding after_setting
after_setting-lines Q s text first words some =
    of_rows (Of Q) (nat_lt 0 (length s.lines)) (bytes_eq first (codes "limit")) (bytes_eq first (codes "top")) (bytes_eq first (codes "min"))
    (bytes_eq first (codes "heap")) (bytes_eq first (codes "file")) (Err Word) (with_limit s words) (with_top s words) (with_min s words) (with_heap s words)
    (read_file words (text_after_words 6 text) >>= λ file. with_file s file) (Err Word)
    tt (with_limit-lines Q s words some) (with_top-lines Q s words some) (with_min-lines Q s words some) (with_heap-lines Q s words some)
    (bind_holds (Of Q) (read_file words (text_after_words 6 text)) (λ file. with_file s file) (λ file. with_file-lines Q s file some)) tt

after_setting-first : (s : SoFar) (text first : List ℕ) (words : List (List ℕ)) → IfOk (after_setting s text first words) (λ _. s.lines ≡ [])
unfolding after_setting
after_setting-first s text first words =
    either (λ _. s.lines ≡ []) (nat_lt 0 (length s.lines)) (Err Word) _ (λ _. tt)
    (λ none. always (s.lines ≡ []) _ (nil_from_length s.lines (omega (arith, ltb-false 0 (length s.lines) none))))

-- ---- what a line adds

-- A line adds itself, and then the configuration is as it was; or it adds none, and then the configuration is as it was or there is no line.
abbrev pub Adds : SoFar → SoFar → Type 0
Adds s after = ((line : TraceLine) × (after.lines ≡ s.lines ++ line ∷ []) × (config_of after ≡ config_of s))
    ⊎ ((after.lines ≡ s.lines) × ((s.lines ≡ []) ⊎ (config_of after ≡ config_of s)))

with_line-adds : (s : SoFar) (line : TraceLine) → IfOk (with_line s line) (Adds s)
unfolding with_line with_one config_of
with_line-adds s line = unless_holds (Adds s) _ (Ok (with_one s line)) (inl (line, refl, refl))

after_setting-adds : (s : SoFar) (text first : List ℕ) (words : List (List ℕ)) → IfOk (after_setting s text first words) (Adds s)
after_setting-adds s text first words =
    both (Of (λ lines. lines ≡ s.lines)) (λ _. s.lines ≡ []) (Adds s) (after_setting s text first words)
    (after_setting-lines (λ lines. lines ≡ s.lines) s text first words refl) (after_setting-first s text first words) (λ after same none. inr (same, inl none))

after_words-adds : (s : SoFar) (number : ℕ) (text : List ℕ) (words : List (List ℕ)) → IfOk (after_words s number text words) (Adds s)
unfolding after_words
after_words-adds s number text [] = inr (refl, inr refl)
after_words-adds s number text (first ∷ words) =
    either (Adds s) (is_comment first) (Ok s) _ (λ _. inr (refl, inr refl))
    (λ _. either (Adds s) (begins_with_digit first) (read_line number first words >>= λ line. with_line s line) (after_setting s text first words)
    (λ _. bind_holds (Adds s) (read_line number first words) _ (λ line. with_line-adds s line))
    (λ _. after_setting-adds s text first words))

with_header-adds : (s : SoFar) (words : List (List ℕ)) → s.lines ≡ [] → IfOk (with_header s words) (Adds s)
unfolding with_header
with_header-adds s words none = bind_holds (Adds s) (ok_or (read_version words) Header) _ (λ version. inr (refl, inl none))

-- the header is above all lines
pub after_line-adds : (s : SoFar) (line : RawLine) → (line.number ≡ 1 → s.lines ≡ []) → IfOk (after_trace_line s line) (Adds s)
unfolding after_trace_line
after_line-adds s line headed = bind_holds (Adds s) (text_of line) _
    (λ text. either (Adds s) (nat_eq line.number 1) (with_header s (words_of text)) (after_words s line.number text (words_of text))
    (λ first. with_header-adds s (words_of text) (headed (eqb-true line.number 1 first))) (λ _. after_words-adds s line.number text (words_of text)))
