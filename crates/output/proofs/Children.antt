-- For `plain_trace`: a good line adds a child exactly where it forks, as its words say.
use Rattle.std.proofs.Common.{◌≡◌, ℕ, zero, suc, ◌+◌, ◌-◌, ◌<◌, ◌≤◌, Bool, true, false, not, ◌&&◌, cond, nat_eq, nat_lt, if◌then◌else◌, List, [], ◌∷◌, ◌++◌, length, take, codes, bytes_eq, Option, Some, None, is_some, Result, Ok, Err, ok_or, IfOk, IfSome, refl, sym, ap, subst, ◌∙◌, inl, inr, arith}
use Rattle.std.specs.Prelude.{◌/◌, option_to_list, IfErr}
use Rattle.std.specs.List.{cons_option}
use Rattle.std.specs.Str.{byte}
use Rattle.std.proofs.lemmas.Bool.{both_ways, cases_Bool, cond_both, eq-eqb, eqb-true, le-ltb, lt-ltb, ne_eqb}
use Rattle.std.proofs.lemmas.List.{length-append, nil_from_length}
use Rattle.std.proofs.lemmas.List.Elements.{filter_map-append}
use Rattle.std.proofs.lemmas.Slice.Eq.{bytes_eq-Decides}
use Rattle.mm_types.specs.declared.area.Access.{Access}
use Rattle.mm_types.specs.declared.call.Call.{Call}
use Rattle.mm_types.specs.declared.config.TheConstants.{PAGE_SIZE}
use Rattle.mm_types.specs.declared.files.FileRow.{FileRow}
use Rattle.text_lexer.specs.declared.error.Cause.{Cause}
use Rattle.text_lexer.specs.declared.error.Cause.TheVariants.{Header, Word, Number, Arity, Thread, Child}
use Rattle.text_lexer.specs.declared.error.BadLine.{BadLine}
use Rattle.trace_reader.specs.declared.trace.Op.{Op}
use Rattle.trace_reader.specs.declared.trace.Op.TheVariants as ops
use Rattle.trace_reader.specs.declared.trace.Trace.{Trace}
use Rattle.trace_reader.specs.declared.trace.TraceLine.{TraceLine}
use Rattle.trace_reader.specs.Calls.{call_named, brk_of, mseal_of}
use Rattle.text_lexer.specs.Causes.{◌>>=◌, unless}
use Rattle.text_lexer.specs.Numbers.{number}
use Rattle.trace_reader.specs.Fields.{access, read_thread}
use Rattle.text_lexer.specs.BadLines.{bad_line, at_line, lines_leave}
use Rattle.trace_reader.specs.Grammar.{nothing, lines_read, whole_trace, trace_of}
use Rattle.text_lexer.specs.Laws.{Follow}
use Rattle.trace_reader.specs.Lines.{SoFar, read_version, with_header, with_one, with_line, once, with_limit, with_top, with_min, with_heap, with_file, after_setting, after_words, after_trace_line}
use Rattle.text_lexer.specs.Words.{is_comment, begins_with_digit, words_of, text_after_words}
use Rattle.text_lexer.specs.Lines.{text_of, RawLine, lines_from, raw_lines}
use Rattle.trace_reader.specs.Operations as operations
use Rattle.trace_reader.specs.Operations.{fault_of, read_maps, read_fork, read_op_of_call, op_named, read_op, read_note, without_note, line_named, op_has_its_new, read_line}
use Rattle.trace_reader.specs.Settings.{limit_of, bound_of, read_file}
use Rattle.trace_reader.specs.Values.{child_of, children_of}
use Rattle.text_lexer.proofs.RawLaws.{raw_lines-AreLinesOf}
use Rattle.text_lexer.proofs.RawPieces.{lines_from-nil}
use Rattle.output.specs.Input.{plain_line, plain_trace_of}
use Rattle.output.specs.Internal.Forks.{are_fork_words, is_fork_text, is_fork, first_fork, without_forks}

-- ---- the operations

-- what is read forks, or does not
abbrev Forks : Bool → Result Op Cause → Type 0
Forks forks read = IfOk read (λ op. is_some (child_of op) ≡ forks)

either : {A : Type 0} (P : A → Type 0) (test : Bool) (x y : Result A Cause) → IfOk x P → IfOk y P → IfOk (if test then x else y) P
either P test x y hx hy = cond_both test x y (λ r. IfOk r P) (λ _. hx) (λ _. hy)

fault_of-forks : (words : List (List ℕ)) → Forks false (fault_of words)
unfolding fault_of operations.read_fault
fault_of-forks (addr ∷ wanted ∷ []) = by_parts (number addr) (access wanted)
  where
    by_parts : (a : Result ℕ Cause) (w : Result Access Cause) → Forks false (a >>= λ a. w >>= λ w. Ok (ops.Fault (record { 0 = a / PAGE_SIZE }) w))
    by_parts (Ok a) (Ok w) = refl
    by_parts (Ok a) (Err c) = tt
    by_parts (Err c) w = tt
fault_of-forks _ = tt

maps_of-forks : (words : List (List ℕ)) → Forks false (read_maps words)
unfolding read_maps
maps_of-forks [] = refl
maps_of-forks (word ∷ words) = tt

called-forks : (read : Result Call Cause) → Forks false (read_op_of_call read)
called-forks (Ok call) = refl
called-forks (Err c) = tt

fork_of-forks : (words : List (List ℕ)) → Forks true (read_fork words)
unfolding read_fork
fork_of-forks (child ∷ []) = by_thread (ok_or (read_thread child) Number)
  where
    by_thread : (r : Result ℕ Cause) → Forks true (r >>= λ c. Ok (ops.Fork c))
    by_thread (Ok c) = refl
    by_thread (Err c) = tt
fork_of-forks _ = tt

-- an operation of another name
other_op : (name : List ℕ) (words : List (List ℕ)) → bytes_eq name (codes "fork") ≡ false → Forks false (op_named name words)
unfolding op_named
other_op name words other =
    let P : Op → Type 0 = λ op. is_some (child_of op) ≡ false in
    either P (bytes_eq name (codes "fault")) (fault_of words) _ (fault_of-forks words)
    (either P (bytes_eq name (codes "maps")) (read_maps words) _ (maps_of-forks words)
    (cond_both (bytes_eq name (codes "fork")) (read_fork words) _ (λ r. IfOk r P) (λ is. absurd (both_ways (bytes_eq name (codes "fork")) other is)) (λ _.
    either P (bytes_eq name (codes "brk")) (read_op_of_call (brk_of words)) _ (called-forks (brk_of words))
    (either P (bytes_eq name (codes "mseal")) (read_op_of_call (mseal_of words)) _ (called-forks (mseal_of words))
    (called-forks (call_named name words))))))

fork_op : (words : List (List ℕ)) → Forks true (op_named (codes "fork") words)
unfolding op_named
fork_op words = fork_of-forks words

op_named-forks : (name : List ℕ) (words : List (List ℕ)) → Forks (bytes_eq name (codes "fork")) (op_named name words)
op_named-forks name words = elim (cases_Bool (bytes_eq name (codes "fork"))) [
  | inl is ↦
      let fork : codes "fork" ≡ name = sym ((bytes_eq-Decides name (codes "fork")).0 is) in
      subst (λ (b : Bool). Forks b (op_named name words)) (sym is)
      (subst (λ (n : List ℕ). Forks true (op_named n words)) fork (fork_op words))
  | inr other ↦ subst (λ (b : Bool). Forks b (op_named name words)) (sym other) (other_op name words other)
]

-- whether the first of the words behind a thread is `fork`
abbrev pub names_fork : List (List ℕ) → Bool
names_fork [] = false
names_fork (name ∷ words) = bytes_eq name (codes "fork")

some_words : (count : ℕ) (name : List ℕ) (words : List (List ℕ)) → 0 < count → Forks (bytes_eq name (codes "fork")) (read_op (take count (name ∷ words)))
unfolding read_op
some_words zero name words some = absurd (omega arith)
some_words (suc count) name words some = op_named-forks name (take count words)

-- what the note leaves begins with the name
op_of-forks : (words : List (List ℕ)) → Forks (names_fork words) (read_op (without_note words))
unfolding read_op without_note read_note
op_of-forks [] = tt
op_of-forks (name ∷ []) = op_named-forks name []
op_of-forks (name ∷ word ∷ words) =
    cond_both (is_some (read_note (name ∷ word ∷ words))) (take (length (name ∷ word ∷ words) - 1) (name ∷ word ∷ words)) (name ∷ word ∷ words)
    (λ (some : List (List ℕ)). Forks (bytes_eq name (codes "fork")) (read_op some))
    (λ _. some_words (length (name ∷ word ∷ words) - 1) name (word ∷ words) (omega arith))
    (λ _. op_named-forks name (word ∷ words))

-- ---- a line

-- a line with a thread, by its parts
line_parts-forks : (forks : Bool) (number : ℕ) (thread : Result ℕ Cause) (op : Result Op Cause) (after : Result (Option ℕ) Cause) (words : List (List ℕ))
    → Forks forks op
    → IfOk {T = TraceLine} (thread >>= λ t. op >>= λ o. after >>= λ a. if op_has_its_new o words
    then Ok (record { number = number; thread = t; op = o; after = a }) else Err Arity) (λ line. is_some (child_of line.op) ≡ forks)
line_parts-forks forks number (Err c) op after words is = tt
line_parts-forks forks number (Ok t) (Err c) after words is = tt
line_parts-forks forks number (Ok t) (Ok o) (Err c) words is = tt
line_parts-forks forks number (Ok t) (Ok o) (Ok a) words is = cond_both (op_has_its_new o words)
    (Ok (record { number = number; thread = t; op = o; after = a })) (Err Arity)
    (λ (r : Result TraceLine Cause). IfOk r (λ line. is_some (child_of line.op) ≡ forks))
    (λ _. is) (λ _. tt)

line_of-forks : (number : ℕ) (first : List ℕ) (words : List (List ℕ))
    → IfOk (read_line number first words) (λ line. is_some (child_of line.op) ≡ names_fork words)
unfolding read_line
line_of-forks number first words = line_parts-forks (names_fork words) number (ok_or (read_thread first) Thread) (read_op (without_note words))
    (line_named (read_note words)) (without_note words) (op_of-forks words)

-- a line adds a child, or none, to those that were counted, and to those that the lines fork
abbrev pub Adds : Bool → SoFar → SoFar → Type 0
Adds forks before next = (length next.children ≡ length before.children + cond forks 1 0)
    × (length (children_of next.lines) ≡ length (children_of before.lines) + cond forks 1 0)

unless_some : {A : Type 0} (P : A → Type 0) (cause : Option Cause) (r : Result A Cause) → IfOk r P → IfOk (unless cause r) P
unless_some P None r is = is
unless_some P (Some cause) r is = tt

child_counts : (child : Option ℕ) → length (option_to_list child) ≡ cond (is_some child) 1 0
child_counts None = refl
child_counts (Some c) = refl

line_counts : (child : Option ℕ) → length (cons_option child []) ≡ cond (is_some child) 1 0
line_counts None = refl
line_counts (Some c) = refl

with_one-adds : (s : SoFar) (line : TraceLine) → Adds (is_some (child_of line.op)) s (with_one s line)
unfolding with_one
with_one-adds s line = (
  length-append s.children (option_to_list (child_of line.op)) ∙ ap (λ (n : ℕ). length s.children + n) (child_counts (child_of line.op)),
  ap length (filter_map-append (λ (l : TraceLine). child_of l.op) s.lines (line ∷ []))
      ∙ length-append (children_of s.lines) (children_of (line ∷ [])) ∙ ap (λ (n : ℕ). length (children_of s.lines) + n) (line_counts (child_of line.op)),
)

with_line-adds : (s : SoFar) (line : TraceLine) → IfOk (with_line s line) (Adds (is_some (child_of line.op)) s)
unfolding with_line
with_line-adds s line = unless_some (Adds (is_some (child_of line.op)) s) _ (Ok (with_one s line)) (with_one-adds s line)

line_added : (forks : Bool) (s : SoFar) (r : Result TraceLine Cause) → IfOk r (λ line. is_some (child_of line.op) ≡ forks)
    → IfOk (r >>= λ line. with_line s line) (Adds forks s)
line_added forks s (Ok line) is = subst (λ (b : Bool). IfOk (with_line s line) (Adds b s)) is (with_line-adds s line)
line_added forks s (Err c) is = tt

-- ---- a setting adds none

none_added : (s : SoFar) → Adds false s s
none_added s = (omega arith, omega arith)

then_adds : {A : Type 0} (s : SoFar) (change : A → SoFar) → ((x : A) → Adds false s (change x)) → (r : Result A Cause)
    → IfOk (r >>= λ x. Ok (change x)) (Adds false s)
then_adds s change h (Ok x) = h x
then_adds s change h (Err c) = tt

once_adds : (s : SoFar) (seen : Option ℕ) (change : ℕ → SoFar) → ((n : ℕ) → Adds false s (change n)) → (r : Result ℕ Cause)
    → IfOk (once seen (r >>= λ n. Ok (change n))) (Adds false s)
once_adds s (Some m) change h r = tt
once_adds s None change h r = then_adds s change h r

with_limit-adds : (s : SoFar) (words : List (List ℕ)) → IfOk (with_limit s words) (Adds false s)
unfolding with_limit
with_limit-adds s words = once_adds s s.areas (λ n. record s { areas = Some n }) (λ n. none_added s) (limit_of words)

with_top-adds : (s : SoFar) (words : List (List ℕ)) → IfOk (with_top s words) (Adds false s)
unfolding with_top
with_top-adds s words = once_adds s s.top (λ n. record s { top = Some n }) (λ n. none_added s) (bound_of words)

with_min-adds : (s : SoFar) (words : List (List ℕ)) → IfOk (with_min s words) (Adds false s)
unfolding with_min
with_min-adds s words = once_adds s s.min (λ n. record s { min = Some n }) (λ n. none_added s) (bound_of words)

with_heap-adds : (s : SoFar) (words : List (List ℕ)) → IfOk (with_heap s words) (Adds false s)
unfolding with_heap
with_heap-adds s words = once_adds s s.heap (λ n. record s { heap = Some n }) (λ n. none_added s) (bound_of words)

with_file-adds : (s : SoFar) (file : FileRow) → IfOk (with_file s file) (Adds false s)
unfolding with_file
with_file-adds s file = unless_some (Adds false s) _ (Ok (record s { files = s.files ++ file ∷ [] })) (none_added s)

file_adds : (s : SoFar) (r : Result FileRow Cause) → IfOk (r >>= λ file. with_file s file) (Adds false s)
file_adds s (Ok file) = with_file-adds s file
file_adds s (Err c) = tt

after_setting-adds : (s : SoFar) (text first : List ℕ) (words : List (List ℕ)) → IfOk (after_setting s text first words) (Adds false s)
unfolding after_setting
after_setting-adds s text first words =
    let P : SoFar → Type 0 = Adds false s in
    either P (nat_lt 0 (length s.lines)) (Err Word) _ tt
    (either P (bytes_eq first (codes "limit")) (with_limit s words) _ (with_limit-adds s words)
    (either P (bytes_eq first (codes "top")) (with_top s words) _ (with_top-adds s words)
    (either P (bytes_eq first (codes "min")) (with_min s words) _ (with_min-adds s words)
    (either P (bytes_eq first (codes "heap")) (with_heap s words) _ (with_heap-adds s words)
    (either P (bytes_eq first (codes "file")) (read_file words (text_after_words 6 text) >>= λ file. with_file s file)
    (Err Word) (file_adds s (read_file words (text_after_words 6 text))) tt)))))

with_header-adds : (s : SoFar) (words : List (List ℕ)) → IfOk (with_header s words) (Adds false s)
unfolding with_header
with_header-adds s words = then_adds s (λ version. record s { version = version }) (λ version. none_added s) (ok_or (read_version words) Header)

-- ---- any line

comment_is : (first : List ℕ) → is_comment first ≡ true → begins_with_digit first ≡ false
unfolding is_comment begins_with_digit
comment_is [] is = refl
comment_is (c ∷ word) is = let hash : c ≡ byte "#" = eqb-true c (byte "#") is in rw hash refl

-- below a first word that begins with a digit, or not
pub are_fork_words-is : (first : List ℕ) (words : List (List ℕ)) (digit : Bool) → begins_with_digit first ≡ digit
    → are_fork_words (first ∷ words) ≡ (digit && names_fork words)
unfolding are_fork_words
are_fork_words-is first [] true is = refl
are_fork_words-is first [] false is = refl
are_fork_words-is first (name ∷ words) digit is = ap (λ (b : Bool). b && bytes_eq name (codes "fork")) is

after_words-adds : (s : SoFar) (number : ℕ) (text : List ℕ) (words : List (List ℕ)) → IfOk (after_words s number text words) (Adds (are_fork_words words) s)
unfolding after_words are_fork_words
after_words-adds s number text [] = none_added s
after_words-adds s number text (first ∷ words) =
    let P : SoFar → Type 0 = Adds (are_fork_words (first ∷ words)) s in
    cond_both (is_comment first) (Ok s) _ (λ r. IfOk r P)
    (λ comment. subst (λ (b : Bool). Adds b s s) (sym (are_fork_words-is first words false (comment_is first comment))) (none_added s))
    (λ _. cond_both (begins_with_digit first) (read_line number first words >>= λ line. with_line s line) (after_setting s text first words) (λ r. IfOk r P)
    (λ digit. subst (λ (b : Bool). IfOk (read_line number first words >>= λ line. with_line s line) (Adds b s)) (sym (are_fork_words-is first words true digit))
    (line_added (names_fork words) s (read_line number first words) (line_of-forks number first words)))
    (λ other. subst (λ (b : Bool). IfOk (after_setting s text first words) (Adds b s)) (sym (are_fork_words-is first words false other))
    (after_setting-adds s text first words)))

after_text-adds : (s : SoFar) (number : ℕ) (text : Result (List ℕ) Cause)
    → IfOk (text >>= λ text. if nat_eq number 1 then with_header s (words_of text) else after_words s number text (words_of text))
    (Adds (is_fork_text number text) s)
after_text-adds s number (Err c) = tt
after_text-adds s number (Ok text) = by_number (nat_eq number 1)
  where
    by_number : (first : Bool) → IfOk (if first then with_header s (words_of text) else after_words s number text (words_of text))
        (Adds (not first && are_fork_words (words_of text)) s)
    by_number true = with_header-adds s (words_of text)
    by_number false = after_words-adds s number text (words_of text)

-- a good line adds a child exactly where it forks, as its words say
line_adds : (s : SoFar) (line : RawLine) → IfOk (after_trace_line s line) (Adds (is_fork line) s)
unfolding after_trace_line is_fork
line_adds s line = after_text-adds s line.number (text_of line)

-- ---- all lines

first_fork-from : (number start : ℕ) (lines : List RawLine) → Follow number start lines → IfSome (first_fork lines) (λ n. number ≤ n)
first_fork-from number start [] follow = tt
first_fork-from number start (line ∷ lines) follow = cond_both (is_fork line) (Some line.number) (first_fork lines)
    (λ o. IfSome o (λ n. number ≤ n))
    (λ _. omega (arith, follow.0))
    (λ _. lower (first_fork lines) (first_fork-from (number + 1) _ lines follow.2))
  where
    lower : (o : Option ℕ) → IfSome o (λ n. number + 1 ≤ n) → IfSome o (λ n. number ≤ n)
    lower None is = tt
    lower (Some n) is = omega (arith, is)

first_bad-from : {S : Type 0} (step : S → RawLine → Result S Cause) (number start : ℕ) (lines : List RawLine) (before : S) → Follow number start lines
    → IfErr (lines_leave step before lines) (λ first. number ≤ first.line)
first_bad-from step number start [] before follow = tt
first_bad-from {S} step number start (line ∷ lines) before follow =
    by_line (λ next. first_bad-from step (number + 1) _ lines next follow.2) (step before line)
  where
    lower : (r : Result S BadLine) → IfErr r (λ first. number + 1 ≤ first.line) → IfErr r (λ first. number ≤ first.line)
    lower (Ok s) is = tt
    lower (Err first) is = omega (arith, is)

    by_line : ((next : S) → IfErr (lines_leave step next lines) (λ first. number + 1 ≤ first.line))
        → (r : Result S Cause) → IfErr (at_line line.number r (λ next. lines_leave step next lines)) (λ first. number ≤ first.line)
    by_line more (Ok next) = lower (lines_leave step next lines) (more next)
    by_line more (Err cause) = omega (arith, follow.0)

-- a bad line decides where none forks above it
bad_first : {A : Type 0} (fork : Option ℕ) (first : BadLine) → IfSome fork (λ n. first.line ≤ n) → without_forks {A = A} fork (Err first) ≡ Err first
bad_first None first is = refl
bad_first (Some n) first is = rw (le-ltb n first.line is) refl

-- and a fork where no line is bad above it
fork_first : {A : Type 0} (number : ℕ) (read : Result A BadLine) → IfErr read (λ first. number < first.line)
    → without_forks (Some number) read ≡ Err (bad_line number Child)
fork_first number (Ok s) is = refl
fork_first number (Err first) is = rw (lt-ltb number first.line is) refl

plain_lines : (number start : ℕ) (lines : List RawLine) (s : SoFar) → Follow number start lines → s.children ≡ []
    → lines_leave plain_line s lines ≡ without_forks (first_fork lines) (lines_leave after_trace_line s lines)
unfolding plain_line
plain_lines number start [] s follow none = refl
plain_lines number start (line ∷ lines) s follow none =
    by_line (λ next empty. plain_lines (number + 1) _ lines next follow.2 empty) (after_trace_line s line) (is_fork line) (line_adds s line)
  where
    no_child : length s.children ≡ 0
    no_child = ap length none

    past : (o : Option ℕ) → IfSome o (λ n. number + 1 ≤ n) → IfSome o (λ n. line.number ≤ n)
    past None is = tt
    past (Some n) is = omega (arith, is, follow.0)

    behind : (r : Result SoFar BadLine) → IfErr r (λ first. number + 1 ≤ first.line) → IfErr r (λ first. line.number < first.line)
    behind (Ok next) is = tt
    behind (Err first) is = omega (arith, is, follow.0)

    by_line : ((next : SoFar) → next.children ≡ []
        → lines_leave plain_line next lines ≡ without_forks (first_fork lines) (lines_leave after_trace_line next lines))
        → (r : Result SoFar Cause) (forks : Bool) → IfOk r (Adds forks s)
        → at_line line.number (r >>= λ next. if nat_eq (length next.children) 0 then Ok next else Err Child) (λ next. lines_leave plain_line next lines)
        ≡ without_forks (if forks then Some line.number else first_fork lines) (at_line line.number r (λ next. lines_leave after_trace_line next lines))
    by_line more (Err cause) true adds = sym (bad_first (Some line.number) (bad_line line.number cause) (omega arith))
    by_line more (Err cause) false adds = sym (bad_first (first_fork lines) (bad_line line.number cause)
        (past (first_fork lines) (first_fork-from (number + 1) _ lines follow.2)))
    by_line more (Ok next) true adds =
        let child : nat_eq (length next.children) 0 ≡ false = ne_eqb (length next.children) 0 (λ is. absurd (omega (arith, adds.0, is))) in
        rw child (sym (fork_first line.number (lines_leave after_trace_line next lines)
        (behind (lines_leave after_trace_line next lines) (first_bad-from after_trace_line (number + 1) _ lines next follow.2))))
    by_line more (Ok next) false adds =
        let count : length next.children ≡ 0 = omega (arith, adds.0, no_child) in
        rw (eq-eqb (length next.children) 0 count) (more next (nil_from_length next.children count))

-- where no line may fork, none of those that were read forks
pub none_read : (lines : List RawLine) (s read : SoFar) → s.children ≡ [] → children_of s.lines ≡ []
    → lines_leave plain_line s lines ≡ Ok read → children_of read.lines ≡ []
unfolding plain_line
none_read [] s read none alone is = let same : s ≡ read = cc in ap (λ (r : SoFar). children_of r.lines) (sym same) ∙ alone
none_read (line ∷ lines) s read none alone is =
    by_line (λ next empty rest more. none_read lines next read empty rest more) (after_trace_line s line) (is_fork line) (line_adds s line) is
  where
    before : (length s.children ≡ 0) × (length (children_of s.lines) ≡ 0)
    before = (ap length none, ap length alone)

    by_line : ((next : SoFar) → next.children ≡ [] → children_of next.lines ≡ [] → lines_leave plain_line next lines ≡ Ok read
        → children_of read.lines ≡ [])
        → (r : Result SoFar Cause) (forks : Bool) → IfOk r (Adds forks s)
        → at_line line.number (r >>= λ next. if nat_eq (length next.children) 0 then Ok next else Err Child) (λ next. lines_leave plain_line next lines)
        ≡ Ok read → children_of read.lines ≡ []
    by_line more (Err cause) forks adds is = absurd cc
    by_line more (Ok next) forks adds is = cond_both (nat_eq (length next.children) 0) (Ok next) (Err Child)
        (λ (r : Result SoFar Cause). at_line line.number r (λ next. lines_leave plain_line next lines) ≡ Ok read → children_of read.lines ≡ [])
        (λ empty good.
        let count : length next.children ≡ 0 = eqb-true (length next.children) 0 empty in
        let forked : length (children_of next.lines) ≡ 0 = omega (arith, adds.0, adds.1, before.0, before.1, count) in
        more next (nil_from_length next.children count) (nil_from_length (children_of next.lines) forked) good)
        (λ _ bad. absurd cc) is

whole_without : (fork : Option ℕ) (r : Result SoFar BadLine) → whole_trace (without_forks fork r) ≡ without_forks fork (whole_trace r)
whole_without None r = refl
whole_without (Some number) (Ok s) = refl
whole_without (Some number) (Err first) = by_test (nat_lt number first.line)
  where
    by_test : (b : Bool) → whole_trace (if b then Err (bad_line number Child) else Err first) ≡ (if b then Err (bad_line number Child) else Err first)
    by_test true = refl
    by_test false = refl

none_forks : (bytes : List ℕ) → length bytes ≡ 0 → first_fork (raw_lines bytes) ≡ None
none_forks [] none = ap first_fork (lines_from-nil 1 0)
none_forks (b ∷ bytes) none = absurd (omega arith)

-- ---- the loop of `first_fork`

-- no lines are left
pub fork_none : (number start : ℕ) (bytes : List ℕ) (all : Option ℕ) → length bytes ≡ 0 → first_fork (lines_from number start bytes) ≡ all → None ≡ all
fork_none number start [] all none so_far = sym (ap first_fork (lines_from-nil number start)) ∙ so_far
fork_none number start (b ∷ bytes) all none so_far = absurd (omega arith)

-- ---- all bytes

-- what is read where no line may fork, by what is read and by the first line that forks
pub plain_is : (bytes : List ℕ) → plain_trace_of bytes ≡ without_forks (first_fork (raw_lines bytes)) (trace_of bytes)
unfolding plain_trace_of trace_of lines_read
plain_is bytes = by_test (nat_eq (length bytes) 0) refl
  where
    fork : Option ℕ
    fork = first_fork (raw_lines bytes)

    by_test : (b : Bool) → nat_eq (length bytes) 0 ≡ b
        → (if b then Err (bad_line 1 Header) else whole_trace (lines_leave plain_line nothing (raw_lines bytes)))
        ≡ without_forks fork (if b then Err (bad_line 1 Header) else whole_trace (lines_leave after_trace_line nothing (raw_lines bytes)))
    by_test true none = ap (λ (o : Option ℕ). without_forks o (Err (bad_line 1 Header))) (sym (none_forks bytes (eqb-true (length bytes) 0 none)))
    by_test false some = ap whole_trace (plain_lines 1 0 (raw_lines bytes) nothing (raw_lines-AreLinesOf bytes).follow refl)
        ∙ whole_without fork (lines_leave after_trace_line nothing (raw_lines bytes))

good_without : (fork : Option ℕ) (r : Result Trace BadLine) (trace : Trace) → without_forks fork r ≡ Ok trace → r ≡ Ok trace
good_without None r trace is = is
good_without (Some number) (Ok s) trace is = absurd cc
good_without (Some number) (Err first) trace is = absurd (by_test (nat_lt number first.line) is)
  where
    by_test : (b : Bool) → (if b then Err (bad_line number Child) else Err first) ≡ Ok trace → ⊥
    by_test true is = cc
    by_test false is = cc

-- a trace that does not fork is a trace
pub plain_good : (bytes : List ℕ) (trace : Trace) → plain_trace_of bytes ≡ Ok trace → trace_of bytes ≡ Ok trace
plain_good bytes trace is = good_without (first_fork (raw_lines bytes)) (trace_of bytes) trace (sym (plain_is bytes) ∙ is)
