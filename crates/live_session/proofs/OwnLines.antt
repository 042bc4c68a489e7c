-- Serves `laws.rt`: no line of a trace without forks is a line that a session has of its own.
use Rattle.std.proofs.Common.{◌≡◌, ◌+◌, ◌-◌, ◌<◌, ◌∙◌, ◌||◌, ◌&&◌, ◌⊎◌, ℕ, zero, suc, Bool, true, false, not, nat_eq, nat_lt, List, [], ◌∷◌, ◌++◌, length, take, codes, bytes_eq, Option, Some, None, is_some, Result, Ok, Err, ok_or, IfOk, if◌then◌else◌, refl, sym, ap, subst, inl, inr, arith}
use Rattle.std.specs.List.{cons_option}
use Rattle.std.specs.Char.{is_ascii_digit}
use Rattle.std.specs.Str.{byte, is_utf8}
use Rattle.std.proofs.lemmas.Bool.{cases_Bool, cond_both, eqb-true, le-ltb, ltb-false}
use Rattle.std.proofs.lemmas.List.Elements.{filter_map-append}
use Rattle.std.proofs.lemmas.Slice.Eq.{bytes_eq-Decides}
use Rattle.mm_types.specs.Rows.{first_row}
use Rattle.text_lexer.specs.declared.error.Cause.{Cause}
use Rattle.text_lexer.specs.declared.error.Cause.TheVariants.{After, Arity, Child, NoEnd, Number, Thread, TooLong, TooMany, Utf8, Word}
use Rattle.text_lexer.specs.declared.limits.TheConstants.{LINE_LIMIT}
use Rattle.text_lexer.specs.Causes.{◌>>=◌, unless}
use Rattle.text_lexer.specs.Lines.{RawLine, input_limit, is_longer_than, raw_line, text_of, text_within}
use Rattle.text_lexer.specs.Words.{words_of, is_header, is_comment, begins_with_digit}
use Rattle.trace_reader.specs.declared.trace.Op.{Op}
use Rattle.trace_reader.specs.declared.trace.Op.TheVariants as ops
use Rattle.trace_reader.specs.declared.trace.TraceLine.{TraceLine}
use Rattle.trace_reader.specs.Fields.{read_thread}
use Rattle.trace_reader.specs.Lines.{SoFar, read_version, with_header, names_rightly, forks_rightly, is_full, with_one, with_line, after_setting, after_words, after_text, after_trace_line}
use Rattle.trace_reader.specs.Operations.{read_fork, op_named, read_op, read_note, without_note, line_named, op_has_its_new, read_line}
use Rattle.trace_reader.specs.Values.{child_of, children_of}
use Rattle.live_session.specs.declared.asking.Asked.{Asked}
use Rattle.live_session.specs.declared.asking.Asked.TheVariants as asks
use Rattle.live_session.specs.Asking.{asked_line, added_or, asked_by_words, asked_of, is_fork_line, is_new, is_query_line, list_read, query_of}

-- ---- the text of a line does not depend on where it stands

-- a text by the tests of its bytes
abbrev tested : Bool → Bool → Bool → List ℕ → Result (List ℕ) Cause
tested long past good text = unless (first_row ((long || past, TooLong) ∷ (false, NoEnd) ∷ (not good, Utf8) ∷ [])) (Ok text)

-- it passed all of them
tested_good : (long past good : Bool) (text read : List ℕ) → tested long past good text ≡ Ok read
    → (long ≡ false) × (past ≡ false) × (good ≡ true) × (read ≡ text)
tested_good true past good text read is = absurd cc
tested_good false true good text read is = absurd cc
tested_good false false false text read is = absurd cc
tested_good false false true text read is = (refl, refl, refl, cc)

text_at : (number start : ℕ) (text : List ℕ)
    → text_of (raw_line number start text true) ≡ tested (nat_lt LINE_LIMIT (length text)) (nat_lt input_limit (start + length text + 1)) (is_utf8 text) text
unfolding text_within is_longer_than
text_at number start text = refl

-- a text that is read at an offset is read at none
text_anywhere : (number start : ℕ) (text read : List ℕ) → text_of (raw_line number start text true) ≡ Ok read
    → (text_of (raw_line number 0 text true) ≡ Ok text) × (read ≡ text)
text_anywhere number start text read is =
    let parts = tested_good (nat_lt LINE_LIMIT (length text)) (nat_lt input_limit (start + length text + 1)) (is_utf8 text) text read (sym (text_at number start text) ∙ is) in
    let near : nat_lt input_limit (0 + length text + 1) ≡ false =
    le-ltb input_limit (0 + length text + 1) (omega (arith, ltb-false input_limit (start + length text + 1) parts.1)) in (
      text_at number 0 text
          ∙ ap (λ (b : Bool). tested b (nat_lt input_limit (0 + length text + 1)) (is_utf8 text) text) parts.0
          ∙ ap (λ (b : Bool). tested false b (is_utf8 text) text) near
          ∙ ap (λ (b : Bool). tested false false b text) parts.2,
      parts.3,
    )

-- what is between the last newline and the end is no line of a trace
tested_unended : (long good : Bool) (text : List ℕ)
    → (cause : Cause) × (unless (first_row ((long, TooLong) ∷ (true, NoEnd) ∷ (not good, Utf8) ∷ [])) (Ok text) ≡ Err cause)
tested_unended true good text = (TooLong, refl)
tested_unended false good text = (NoEnd, refl)

pub unended_bad : (s : SoFar) (number start : ℕ) (text : List ℕ) → (cause : Cause) × (after_trace_line s (raw_line number start text false) ≡ Err cause)
unfolding after_trace_line text_within
unended_bad s number start text =
    let line : RawLine = raw_line number start text false in
    let bad = tested_unended (is_longer_than LINE_LIMIT input_limit line) (is_utf8 text) text in
    (bad.0, ap (λ (r : Result (List ℕ) Cause). r >>= λ t. after_text s number t (words_of t)) bad.1)

-- what a line leaves at an offset it leaves at none, by its words
line_read : (s after : SoFar) (number start : ℕ) (text : List ℕ) → after_trace_line s (raw_line number start text true) ≡ Ok after
    → (text_of (raw_line number 0 text true) ≡ Ok text) × (after_text s number text (words_of text) ≡ Ok after)
unfolding after_trace_line
line_read s after number start text is = by_text (text_of (raw_line number start text true)) refl is
  where
    by_text : (r : Result (List ℕ) Cause) → text_of (raw_line number start text true) ≡ r → (r >>= λ t. after_text s number t (words_of t)) ≡ Ok after
        → (text_of (raw_line number 0 text true) ≡ Ok text) × (after_text s number text (words_of text) ≡ Ok after)
    by_text (Ok read) good same =
        let parts = text_anywhere number start text read good in
        (parts.0, subst (λ (t : List ℕ). after_text s number t (words_of t) ≡ Ok after) parts.1 same)
    by_text (Err cause) bad same = absurd cc

-- ---- a fork adds a child

abbrev IsFork : Op → Type 0
IsFork op = is_some (child_of op) ≡ true

fork_of-forks : (words : List (List ℕ)) → IfOk (read_fork words) IsFork
unfolding read_fork
fork_of-forks (child ∷ []) = by_thread (ok_or (read_thread child) Number)
  where
    by_thread : (r : Result ℕ Cause) → IfOk (r >>= λ c. Ok (ops.Fork c)) IsFork
    by_thread (Ok c) = refl
    by_thread (Err c) = tt
fork_of-forks _ = tt

fork_named : (words : List (List ℕ)) → IfOk (read_op (codes "fork" ∷ words)) IsFork
unfolding read_op op_named
fork_named words = fork_of-forks words

some_words : (count : ℕ) (words : List (List ℕ)) → 0 < count → IfOk (read_op (take count (codes "fork" ∷ words))) IsFork
some_words zero words some = absurd (omega arith)
some_words (suc count) words some = fork_named (take count words)

fork_op : (words : List (List ℕ)) → IfOk (read_op (without_note (codes "fork" ∷ words))) IsFork
unfolding without_note read_note
fork_op [] = fork_named []
fork_op (word ∷ words) =
    cond_both (is_some (read_note (codes "fork" ∷ word ∷ words))) (take (length (codes "fork" ∷ word ∷ words) - 1) (codes "fork" ∷ word ∷ words))
    (codes "fork" ∷ word ∷ words) (λ (some : List (List ℕ)). IfOk (read_op some) IsFork)
    (λ _. some_words (length (codes "fork" ∷ word ∷ words) - 1) (word ∷ words) (omega arith)) (λ _. fork_named (word ∷ words))

fork_parts : (number : ℕ) (thread : Result ℕ Cause) (op : Result Op Cause) (after : Result (Option ℕ) Cause) (words : List (List ℕ)) → IfOk op IsFork
    → IfOk {T = TraceLine} (thread >>= λ t. op >>= λ o. after >>= λ a. if op_has_its_new o words
    then Ok (record { number = number; thread = t; op = o; after = a }) else Err Arity) (λ line. IsFork line.op)
fork_parts number (Err c) op after words is = tt
fork_parts number (Ok t) (Err c) after words is = tt
fork_parts number (Ok t) (Ok o) (Err c) words is = tt
fork_parts number (Ok t) (Ok o) (Ok a) words is = cond_both (op_has_its_new o words)
    (Ok (record { number = number; thread = t; op = o; after = a })) (Err Arity)
    (λ (r : Result TraceLine Cause). IfOk r (λ line. IsFork line.op)) (λ _. is) (λ _. tt)

fork_line : (number : ℕ) (first : List ℕ) (words : List (List ℕ)) → IfOk (read_line number first (codes "fork" ∷ words)) (λ line. IsFork line.op)
unfolding read_line
fork_line number first words = fork_parts number (ok_or (read_thread first) Thread) (read_op (without_note (codes "fork" ∷ words)))
    (line_named (read_note (codes "fork" ∷ words))) (without_note (codes "fork" ∷ words)) (fork_op words)

-- of lines without a child neither the last nor those before it have one
pub children_front : (lines more : List TraceLine) → children_of (lines ++ more) ≡ [] → (children_of lines ≡ []) × (children_of more ≡ [])
children_front lines more none = none_both (children_of lines) (children_of more) (sym (filter_map-append (λ (line : TraceLine). child_of line.op) lines more) ∙ none)
  where
    none_both : (xs ys : List ℕ) → xs ++ ys ≡ [] → (xs ≡ []) × (ys ≡ [])
    none_both [] ys none = (refl, none)
    none_both (x ∷ xs) ys none = absurd cc

not_fork : (child : Option ℕ) → cons_option child [] ≡ [] → is_some child ≡ true → ⊥
not_fork None none some = absurd cc
not_fork (Some c) none some = absurd cc

with_line-lines : (s after : SoFar) (line : TraceLine) → with_line s line ≡ Ok after → after.lines ≡ s.lines ++ line ∷ []
unfolding with_line with_one
with_line-lines s after line is =
    by_cause (first_row ((not (names_rightly s line), After) ∷ (not (forks_rightly s line), Child) ∷ (is_full s line, TooMany) ∷ [])) is
  where
    by_cause : (cause : Option Cause) → unless cause (Ok (with_one s line)) ≡ Ok after → after.lines ≡ s.lines ++ line ∷ []
    by_cause None same = let one : with_one s line ≡ after = cc in sym (ap (λ (x : SoFar). x.lines) one)
    by_cause (Some cause) same = absurd cc

fork_added : (s after : SoFar) (r : Result TraceLine Cause) → IfOk r (λ line. IsFork line.op) → (r >>= λ line. with_line s line) ≡ Ok after
    → children_of after.lines ≡ [] → ⊥
fork_added s after (Ok line) fork is none =
    not_fork (child_of line.op)
    (children_front s.lines (line ∷ []) (ap children_of (sym (with_line-lines s after line is)) ∙ none)).1 fork
fork_added s after (Err cause) fork is none = absurd cc

-- ---- the words of a line of a trace

digit_first : (first : List ℕ) → begins_with_digit first ≡ true → is_comment first ≡ false
unfolding begins_with_digit is_comment
digit_first [] digit = refl
digit_first (c ∷ word) digit = elim (cases_Bool (nat_eq c (byte "#"))) [
  | inl same ↦
      let clash : is_ascii_digit (byte "#") ≡ true = subst (λ (x : ℕ). is_ascii_digit x ≡ true) (eqb-true c (byte "#") same) digit in absurd cc
  | inr other ↦ other
]

forked : (s after : SoFar) (number : ℕ) (text first : List ℕ) (words : List (List ℕ)) → begins_with_digit first ≡ true
    → after_words s number text (first ∷ codes "fork" ∷ words) ≡ Ok after → children_of after.lines ≡ [] → ⊥
unfolding after_words
forked s after number text first words digit is none =
    let line : Result SoFar Cause = read_line number first (codes "fork" ∷ words) >>= λ line. with_line s line in
    let other : Result SoFar Cause = after_setting s text first (codes "fork" ∷ words) in
    fork_added s after (read_line number first (codes "fork" ∷ words)) (fork_line number first words)
    (subst (λ (b : Bool). (if b then line else other) ≡ Ok after) digit
    (subst (λ (b : Bool). (if b then Ok s else (if begins_with_digit first then line else other)) ≡ Ok after) (digit_first first digit) is)) none

-- `new` and `query` are the first words of no line of a trace
either_way : (b : Bool) (r : Result SoFar Cause) → (if b then r else r) ≡ r
either_way true r = refl
either_way false r = refl

new_refused : (s : SoFar) (number : ℕ) (text : List ℕ) (words : List (List ℕ)) → after_words s number text (codes "new" ∷ words) ≡ Err Word
unfolding after_words after_setting is_comment begins_with_digit
new_refused s number text words = either_way (nat_lt 0 (length s.lines)) (Err Word)

query_refused : (s : SoFar) (number : ℕ) (text : List ℕ) (words : List (List ℕ)) → after_words s number text (codes "query" ∷ words) ≡ Err Word
unfolding after_words after_setting is_comment begins_with_digit
query_refused s number text words = either_way (nat_lt 0 (length s.lines)) (Err Word)

-- a word that is refused is no first word of a line that was read
not_first : (s after : SoFar) (number : ℕ) (text first word : List ℕ) (words : List (List ℕ)) → after_words s number text (word ∷ words) ≡ Err Word
    → after_words s number text (first ∷ words) ≡ Ok after → bytes_eq first word ≡ false
not_first s after number text first word words bad good = elim (cases_Bool (bytes_eq first word)) [
  | inl same ↦
      let clash : after_words s number text (word ∷ words) ≡ Ok after =
      subst (λ (w : List ℕ). after_words s number text (w ∷ words) ≡ Ok after) ((bytes_eq-Decides first word).0 same) good in absurd cc
  | inr other ↦ other
]

-- below the header a line of a trace without forks forks nothing
and_false : (a b : Bool) → b ≡ false → (a && b) ≡ false
and_false true b is = is
and_false false b is = refl

no_fork : (s after : SoFar) (number : ℕ) (text : List ℕ) (words : List (List ℕ)) → after_words s number text words ≡ Ok after
    → children_of after.lines ≡ [] → is_fork_line number words ≡ false
unfolding is_fork_line
no_fork s after number text [] is none = refl
no_fork s after number text (first ∷ []) is none = refl
no_fork s after number text (first ∷ name ∷ words) is none = by_name (cases_Bool (bytes_eq name (codes "fork"))) (cases_Bool (begins_with_digit first))
  where
    by_name : (bytes_eq name (codes "fork") ≡ true) ⊎ (bytes_eq name (codes "fork") ≡ false)
        → (begins_with_digit first ≡ true) ⊎ (begins_with_digit first ≡ false)
        → (nat_lt 1 number && begins_with_digit first && bytes_eq name (codes "fork")) ≡ false
    by_name (inl same) (inl digit) = absurd (forked s after number text first words digit
        (subst (λ (w : List ℕ). after_words s number text (first ∷ w ∷ words) ≡ Ok after) ((bytes_eq-Decides name (codes "fork")).0 same) is) none)
    by_name (inl same) (inr other) = ap (λ (b : Bool). b && bytes_eq name (codes "fork")) (and_false (nat_lt 1 number) (begins_with_digit first) other)
    by_name (inr other) digit = and_false (nat_lt 1 number && begins_with_digit first) (bytes_eq name (codes "fork")) other

-- a line of a trace without forks is no line that a session has of its own
abbrev IsNotOwn : ℕ → List (List ℕ) → Type 0
IsNotOwn number words = (is_new words ≡ false) × (is_query_line number words ≡ false) × (is_fork_line number words ≡ false)

no_own_line : (s after : SoFar) (number : ℕ) (text : List ℕ) (words : List (List ℕ)) → after_words s number text words ≡ Ok after
    → children_of after.lines ≡ [] → IsNotOwn number words
unfolding is_new is_query_line
no_own_line s after number text [] is none = (refl, refl, no_fork s after number text [] is none)
no_own_line s after number text (first ∷ words) is none = (
  not_new words (not_first s after number text first (codes "new") words (new_refused s number text words) is),
  and_false (nat_lt 1 number) (bytes_eq first (codes "query"))
      (not_first s after number text first (codes "query") words (query_refused s number text words) is),
  no_fork s after number text (first ∷ words) is none,
)
  where
    not_new : (words : List (List ℕ)) → bytes_eq first (codes "new") ≡ false → is_new (first ∷ words) ≡ false
    not_new [] other = other
    not_new (word ∷ words) other = refl

-- nor is the header
header_words : (s after : SoFar) (words : List (List ℕ)) → with_header s words ≡ Ok after → is_new words ≡ false
unfolding with_header read_version is_header is_new
header_words s after [] is = refl
header_words s after (word ∷ []) is = absurd cc
header_words s after (word ∷ next ∷ words) is = refl

header_alone : (words : List (List ℕ)) → (is_query_line 1 words ≡ false) × (is_fork_line 1 words ≡ false)
unfolding is_query_line is_fork_line
header_alone [] = (refl, refl)
header_alone (first ∷ []) = (refl, refl)
header_alone (first ∷ name ∷ words) = (refl, refl)

no_own_words : (s after : SoFar) (number : ℕ) (text : List ℕ) (words : List (List ℕ)) → after_text s number text words ≡ Ok after
    → children_of after.lines ≡ [] → IsNotOwn number words
no_own_words s after number text words is none = by_number (nat_eq number 1) refl is
  where
    by_number : (b : Bool) → nat_eq number 1 ≡ b → (if b then with_header s words else after_words s number text words) ≡ Ok after
        → IsNotOwn number words
    by_number true first same =
        let no = subst (λ (n : ℕ). (is_query_line n words ≡ false) × (is_fork_line n words ≡ false)) (sym (eqb-true number 1 first)) (header_alone words) in
        (header_words s after words same, no.0, no.1)
    by_number false below same = no_own_line s after number text words same none

-- ---- what such a line asks for

pub asked_as_read : (s after : SoFar) (number start : ℕ) (text : List ℕ) → after_trace_line s (raw_line number start text true) ≡ Ok after
    → children_of after.lines ≡ [] → asked_of s (raw_line number 0 text true) ≡ Ok (asked_line s after)
unfolding asked_of asked_by_words after_trace_line
asked_as_read s after number start text is none =
    let line : RawLine = raw_line number 0 text true in
    let words : List (List ℕ) = words_of text in
    let parts = line_read s after number start text is in
    let no = no_own_words s after number text words parts.1 none in
    let read : after_trace_line s line ≡ Ok after = ap (λ (r : Result (List ℕ) Cause). r >>= λ t. after_text s number t (words_of t)) parts.0 ∙ parts.1 in
    let of_trace : Result (Asked × SoFar) Cause = added_or (list_read number words) s (after_trace_line s line) in
    let of_fork : Bool → Result (Asked × SoFar) Cause = λ b. if b then Err Child else of_trace in
    let of_query : Bool → Result (Asked × SoFar) Cause =
    λ b. if b then (query_of words >>= λ address. Ok (asks.Query address, s)) else of_fork (is_fork_line number words) in
    ap (λ (r : Result (List ℕ) Cause). r >>= λ t. asked_by_words s line (words_of t)) parts.0
    ∙ ap (λ (b : Bool). if b then Ok (asks.New, s) else of_query (is_query_line number words)) no.0
    ∙ ap of_query no.1
    ∙ ap of_fork no.2
    ∙ ap (added_or (list_read number words) s) read
